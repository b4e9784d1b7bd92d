-- An object that reads a file, and one that reads it; the check of each reads the file too. A
-- second
-- instance of the premises: pictures with files, check parts with questions, and sound rows.
use Rattle.std.specs.Prelude.{◌≡◌, ℕ, List, [], ◌∷◌, ◌++◌, Bool, true, false, nat_eq, Option, Some, None, length}
use Rattle.std.specs.Bool.{beq}
use Rattle.engine_laws.specs.Runner.{Runner, Picture}
use Rattle.asking.specs.Asked.{Answer, Ends, Asks}
use Rattle.engine_laws.specs.Circles.{CircleLaws}
use Rattle.engine_laws.specs.Engine.{NotRun, Grade, Circle, Whole, Keeping, Judge, Event, Take, Turn, Forget, Situation, IsNew, AreAllowed, after}
use Rattle.engine_laws.specs.Names.{Name, equal}
use Rattle.engine_laws.specs.Restored.{restored}
use Rattle.engine_laws.specs.Rows.{EndsSoon, AreSoundRows}
use Rattle.engine_laws.specs.Steps.{Costs, AreCosts}
use Rattle.engine_laws.specs.Witness.{first, second}

-- a key is true where it asks for the file, and else asks for the first object
abbrev pub target : Bool → Option Name
target true = None
target false = Some first

-- a value, or none of a circular object
abbrev pub Value : Type 0
Value = Option ℕ

-- the first object asks for the file, and any other one for the first
abbrev pub copies : Name → List (Bool × Value) → Answer Bool Value
copies o [] = Asks (equal o first)
copies o (q ∷ asked) = Ends q.1

abbrev pub is_none : Value → Bool
is_none None = true
is_none (Some n) = false

abbrev pub runner : Runner Bool Value Value
runner = record {
  build = copies;
  seen = λ k r. r;
  circular = λ k. None;
  is_circular = is_none;
  nowhere = None;
  limit = 5;
}

abbrev pub grade_of : Value → Grade
grade_of None = Circle
grade_of (Some n) = Whole

abbrev pub same_value : Value → Value → Bool
same_value None None = true
same_value None (Some m) = false
same_value (Some n) None = false
same_value (Some n) (Some m) = nat_eq n m

abbrev pub keeping : Keeping Bool Value Value Value
keeping = record {
  keep = λ r. r;
  seen = λ k r. r;
  grade = grade_of;
  same = same_value;
  names = target;
  small = λ k n. None;
  same_key = λ j k. beq j k;
  same_seen = λ k a b. same_value a b;
}

-- a check asks for the file, and its verdict is what that holds
abbrev pub reads_file : Value → List (Bool × Value) → Answer Bool Value
reads_file v [] = Asks true
reads_file v (q ∷ asked) = Ends q.1

abbrev pub judge : Judge Bool Value Value Value
judge = record { check = reads_file; none = None; fault = λ r. None; unfinished = None }

-- the file holds this number
abbrev pub holding : ℕ → Picture Bool Value
holding n = record { objects = first ∷ second ∷ []; target = target; told = λ k. Some n }

abbrev pub no_files : Picture Bool Value
no_files = record { objects = []; target = λ k. None; told = λ k. None }

abbrev pub begin : Situation Bool Value Value Value Value
begin = record {
  picture = no_files;
  state = record {
    counter = 3;
    number = λ k. 0;
    last = λ o. None;
    table = λ k. None;
    reads = λ o. None;
    checked = λ o. None;
    open_build = λ o. false;
    open_check = λ o. false;
    held = λ o. None;
    chain = [];
    checking = None;
    runs = λ o. false;
    why = λ o. NotRun;
    touched = λ o. true;
  };
}

abbrev pub all_turns : List (Event Bool Value)
all_turns = Turn ∷ Turn ∷ Turn ∷ Turn ∷ Turn ∷ Turn ∷ Turn ∷ Turn ∷ []

-- the file holds 7, all is settled, and then it holds 8 under another number
abbrev pub both_rounds : List (Event Bool Value)
both_rounds = Take (holding 7) (λ k. 3) 4 ∷ all_turns
    ++ Forget ∷ Take (holding 8) (λ k. 6) 7 ∷ all_turns

abbrev pub ended : Situation Bool Value Value Value Value
ended = after runner keeping judge begin both_rounds

-- a step for each key
abbrev pub costs : Costs Bool Value Value
costs = record { build = λ o asked. length asked; check = λ v asked. length asked }

pub record IsExample : Type 0 where
  pub begins : IsNew runner keeping judge begin
  pub allowed : AreAllowed runner keeping judge begin both_rounds
  pub first_is : ended.state.last first ≡ Some (7, Some 8)
  pub second_is : ended.state.last second ≡ Some (8, Some 8)
  pub second_reads : ended.state.reads second ≡ Some ((false, 7) ∷ [])
  pub first_checked : ended.state.checked first ≡ Some ((true, 6) ∷ [], Some 8)
  pub rows : AreSoundRows runner keeping judge (restored keeping ended)
  pub costs_are : AreCosts runner keeping judge costs (holding 8) 1
  pub ends : EndsSoon runner judge (holding 8)
  pub circles : CircleLaws runner (holding 8)
