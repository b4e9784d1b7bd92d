-- What a runner's builds and checks ask and give, and their laws.
use Rattle.std.specs.Prelude.{◌≡◌, ℕ, ◌+◌, List, [], Option, Ok, cond, nat_lt}
use Rattle.asking.specs.Asked.{Answer, Ends, Word, Ran, ran, told_in}
use Rattle.pan_ast.specs.declared.change.Change.{Change}
use Rattle.pan_ast.specs.declared.place.Place.{Place}
use Rattle.questions.specs.declared.key.Key.{Key}
use Rattle.questions.specs.Contents.{Content}
use Rattle.questions.specs.Laws.{MayAsk}
use Rattle.questions.specs.Told.{RunLaws, more_than_asked}
use Rattle.runner.specs.declared.ends.Built.{Built}
use Rattle.runner.specs.Ends.{End, Verdict, is_circular_end, is_circular_verdict}

-- how a tree was made: the place of the header of the object's template, and the changes, in order
pub record Logged : Type 0 where
  pub header : Place
  pub changes : List Change

-- The next question after these answers, the newest first, or the end; and the work used so far. Of
-- what was built, how its tree was made, if that is kept.
pub record Meaning (T : Type 0) : Type 0 where
  pub build : List ℕ → List (Key × Content) → Answer Key (End T)
  pub build_work : List ℕ → List (Key × Content) → ℕ
  pub check : Built T → List (Key × Content) → Answer Key Verdict
  pub check_work : Built T → List (Key × Content) → ℕ
  pub log : T → Option Logged

-- how a build goes that is told these words, and the work that it uses
abbrev pub build_run : {T : Type 0} → Meaning T → List ℕ → (Key → Word Content) → Ran Key (End T)
build_run m object tells = ran (m.build object) tells more_than_asked []

abbrev pub build_steps : {T : Type 0} → Meaning T → List ℕ → (Key → Word Content) → ℕ
build_steps m object tells =
    m.build_work object (told_in (m.build object) tells more_than_asked [])

-- how a check goes, and the work that it uses
abbrev pub check_run : {T : Type 0} → Meaning T → Built T → (Key → Word Content) → Ran Key Verdict
check_run m built tells = ran (m.check built) tells more_than_asked []

abbrev pub check_steps : {T : Type 0} → Meaning T → Built T → (Key → Word Content) → ℕ
check_steps m built tells = m.check_work built (told_in (m.check built) tells more_than_asked [])

-- a run of an object asks no key of the object itself
pub record IsLawful {T : Type 0} (m : Meaning T) : Type 0 where
  pub builds : (object : List ℕ) → RunLaws (MayAsk object) is_circular_end (m.build object)
      (m.build_work object)
  pub checks : (built : Built T) → RunLaws (MayAsk built.object) is_circular_verdict (m.check built)
      (m.check_work built)

-- what a build makes is of the object that it builds
abbrev pub BuildsByName : {T : Type 0} → Meaning T → Type 0
BuildsByName {T} m = (object : List ℕ) (asked : List (Key × Content)) (b : Built T)
    → m.build object asked ≡ Ends (Ok b) → b.object ≡ object

abbrev pub last_count : ℕ
last_count = 18446744073709551615

-- a count with one more run; the last one stands
abbrev pub counted : ℕ → ℕ
counted n = cond (nat_lt n last_count) (n + 1) n
