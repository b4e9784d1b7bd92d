-- Runs that end within their limit end by themselves, and so do the true runs of a machine.
use Rattle.std.proofs.Common.{◌≡◌, ◌+◌, ◌≤◌, ◌<◌, ℕ, zero, suc, List, [], ◌∷◌, length, refl, sym, subst, arith}
use Rattle.asking.specs.Asked.{Answer, Ends, Asks}
use Rattle.engine_laws.specs.Names.{Name}
use Rattle.engine_laws.specs.Runner.{Runner, Picture, Laws, IsTrail}
use Rattle.engine_laws.specs.Bounded.{go_on, told_end, built, content}
use Rattle.engine_laws.specs.Engine.{Keeping, Judge, verdict}
use Rattle.engine_laws.specs.Steps.{Costs, AreCosts}
use Rattle.engine_laws.proofs.Truth.{fixed}
use Rattle.promised_profiles.specs.Promised.{EndsTold}

abbrev pub EndsBy : {K C X : Type 0} → (List (K × C) → Answer K X) → (K → C) → X → Type 0
EndsBy {K} {C} ask tell end = (told : List (K × C)) × EndsTold ask tell told end

module _ {K C X : Type 0} (none : X) (ask : List (K × C) → Answer K X) (tell : K → C)
    (most limit : ℕ) (room : most < limit) (short : (asked : List (K × C)) → IsTrail ask tell asked
    → length asked ≤ most) where
  ends_from : (n : ℕ) (asked : List (K × C)) → n + length asked ≡ limit → IsTrail ask tell asked
      → EndsBy ask tell (told_end none ask tell n asked)
  ends_from zero asked e trail = absurd (let few = short asked trail in omega (arith, few, room, e))
  ends_from (suc n) asked e trail = at (λ a. ends_from n a) (ask asked) refl
    where
      at : ((asked' : List (K × C)) → n + length asked'
          ≡ limit → IsTrail ask tell asked' → EndsBy ask tell (told_end none ask tell n asked'))
          → (a : Answer K X) → ask asked ≡ a → EndsBy ask tell
          (go_on a (λ k. told_end none ask tell n ((k, tell k) ∷ asked)))
      at ih (Ends r) is = (asked, (trail, is))
      at ih (Asks k) is = ih ((k, tell k) ∷ asked) (omega (arith, e)) (trail, is, refl)

  pub ends_told : EndsBy ask tell (told_end none ask tell limit [])
  ends_told = ends_from limit [] (omega arith) tt

module _ {K C R S F : Type 0} (run : Runner K C R) (keeping : Keeping K C R S)
    (judge : Judge K C R F) (cost : Costs K C R) (w : Picture K C) (laws : Laws run w) (most : ℕ)
    (costs : AreCosts run keeping judge cost w most) where
  -- the true build, and the check of what was built
  pub build_told : (o : Name) → EndsBy (run.build o) (content run w) (built run w o)
  build_told o =
      subst (EndsBy (run.build o) (content run w))
      (sym (fixed run w laws o))
      (ends_told run.nowhere (run.build o) (content run w) most run.limit costs.room
      (costs.builds o).short)

  pub check_told : (v : R) → EndsBy (judge.check v) (content run w) (verdict run judge w v)
  check_told v = ends_told judge.unfinished (judge.check v) (content run w) most run.limit
      costs.room (costs.checks v).short
