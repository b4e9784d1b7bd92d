-- How a piece of a program runs: it is told answers, begins with a state and a meter, and comes to
-- an outcome.
use Rattle.std.specs.Prelude.{ℕ, ◌-◌, List, Option, Some, None, Bool, true, false, nat_eq}
use Rattle.path_tree.specs.Plain.{Plain}
use Rattle.pan_ast.specs.declared.place.Place.{Place}
use Rattle.questions.specs.declared.key.Key.{Key}
use Rattle.pan_ast.specs.declared.fault.Fault.{Fault}
use Rattle.pan_ast.specs.declared.fault.Code.{Code}
use Rattle.pan_ast.specs.declared.fault.Code.TheVariants.{WorkSpent}
use Rattle.pan_ast.specs.Detail.{fault_with}
pub use Rattle.pan_ast.specs.Detail.{fault_at}
use Rattle.questions.specs.Contents.{Content, Answers, with_key}

-- the work left, and the keys that were asked, each once, in order
pub record Meter : Type 0 where
  pub left : ℕ
  pub asked : List Key

abbrev pub noted : Key → Meter → Meter
noted k m = record { left = m.left; asked = with_key k m.asked }

-- S: what the piece changes; X: what it gives
pub data Outcome (S X : Type 0) : Type 0 where
  Done : X → S → Meter → Outcome S X
  Returned : Plain → S → Meter → Outcome S X
  Failed : Fault → Meter → Outcome S X
  Asks : Key → Meter → Outcome S X

abbrev pub Run : Type 0 → Type 0 → Type 0
Run S X = Answers → S → Meter → Outcome S X

-- goes on from where a piece is done
abbrev pub then : {S X Y : Type 0} → Outcome S X → (X → S → Meter → Outcome S Y) → Outcome S Y
then (Done x s m) f = f x s m
then (Returned t s m) f = Returned t s m
then (Failed f' m) f = Failed f' m
then (Asks k m) f = Asks k m

infixl 10 ◌>>=◌
abbrev pub ◌>>=◌ : {S X Y : Type 0} → Run S X → (X → Run S Y) → Run S Y
◌>>=◌ r f o s m = then (r o s m) (λ x. f x o)

abbrev pub give : {S X : Type 0} → X → Run S X
give x o s m = Done x s m

abbrev pub fail_with : {S X : Type 0} → Fault → Run S X
fail_with f o s m = Failed f m

abbrev pub fail : {S X : Type 0} → Code → Place → Run S X
fail c p = fail_with (fault_at c p)

abbrev pub fail_about : {S X : Type 0} → Code → Place → List ℕ → Run S X
fail_about c p d = fail_with (fault_with c p d)

abbrev pub return_with : {S X : Type 0} → Plain → Run S X
return_with t o s m = Returned t s m

-- the state, and a change of it
abbrev pub now : {S : Type 0} → Run S S
now o s m = Done s s m

abbrev pub become : {S : Type 0} → S → Run S (Unit {0})
become s' o s m = Done tt s' m

-- one step, at a place: a fault where no work is left
abbrev pub stepped : {S : Type 0} → Bool → Place → S → Meter → Outcome S (Unit {0})
stepped true p s m = Failed (fault_at WorkSpent p) m
stepped false p s m = Done tt s (record { left = m.left - 1; asked = m.asked })

abbrev pub step : {S : Type 0} → Place → Run S (Unit {0})
step p o s m = stepped (nat_eq m.left 0) p s m

-- a question: the answer, where there is one
abbrev pub answered : {S : Type 0} → Option Content → Key → S → Meter → Outcome S Content
answered None k s m = Asks k m
answered (Some c) k s m = Done c s (noted k m)

abbrev pub ask : {S : Type 0} → Key → Run S Content
ask k o s m = answered (o k) k s m

-- a piece with a state of its own: its value, or what it returned, and the outer state that its own
-- leaves
abbrev pub ended : {S T : Type 0} → (T → S) → Outcome T Plain → Outcome S Plain
ended out (Done t s m) = Done t (out s) m
ended out (Returned t s m) = Done t (out s) m
ended out (Failed f m) = Failed f m
ended out (Asks k m) = Asks k m

abbrev pub scoped : {S T : Type 0} → (S → T) → (S → T → S) → Run T Plain → Run S Plain
scoped inner outer r o s m = ended (outer s) (r o (inner s) m)

-- a piece that has no state, beside one
abbrev pub beside : {S X : Type 0} → S → Outcome (Unit {0}) X → Outcome S X
beside s (Done x t m) = Done x s m
beside s (Returned u t m) = Returned u s m
beside s (Failed f m) = Failed f m
beside s (Asks k m) = Asks k m

abbrev pub still : {S X : Type 0} → Run (Unit {0}) X → Run S X
still r o s m = beside s (r o tt m)
