-- One term less of a path.
use Rattle.std.proofs.Common.{◌≡◌, ◌<◌, ◌-◌, ℕ, zero, suc, List, refl, arith}
use Rattle.path_tree.specs.declared.path.Term.{Term}
use Rattle.runner.specs.Meaning.{Logged}
use Rattle.fault_causes.specs.Causes.{setter_above, setter_within}

pub above_on : (l : Logged) (terms : List Term) (n : ℕ) → 0 < n
    → setter_above l terms n ≡ setter_within l terms (n - 1)
above_on l terms zero lt = absurd (omega (arith, lt))
above_on l terms (suc n) lt = let e : suc n - 1 ≡ n = omega arith in rw e refl
