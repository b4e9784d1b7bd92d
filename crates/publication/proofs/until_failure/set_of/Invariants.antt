use Rattle.std.proofs.Common.{◌≡◌, ℕ, List, drop, ◌||◌}
use Rattle.std.specs.Prelude.{bytes_eq}
use Rattle.std.specs.HashSet.{contains}
use Rattle.std.specs.List.{list_any}
use Rattle.publication.proofs.until_failure.set_of.Given as goal

abbrev pub invariant-loop-name : goal.invariant-loop-name
invariant-loop-name l = (n : List ℕ) → (contains bytes_eq l.set n
    || list_any (λ m. bytes_eq m n) (drop l.name-index l.names))
    ≡ list_any (λ m. bytes_eq m n) l.names
