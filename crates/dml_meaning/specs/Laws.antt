-- What the laws of runs are said of.
use Rattle.std.specs.Prelude.{◌≡◌, ◌≢◌, ℕ, List, Bool, false, Result, Ok, Err}
use Rattle.path_tree.specs.Plain.{Plain}
use Rattle.pan_ast.specs.declared.fault.Fault.{Fault}
use Rattle.pan_ast.specs.declared.fault.Code.TheVariants.{Circular}
use Rattle.pan_ast.specs.Templates.{Template}
use Rattle.pan_ast.specs.Syntax.{Item}
use Rattle.questions.specs.declared.key.Key.{Key}
use Rattle.asking.specs.Asked.{Answer}
use Rattle.questions.specs.Contents.{Content, answer_in}
use Rattle.questions.specs.Laws.{is_circular}
use Rattle.questions.specs.Run.{Outcome}
use Rattle.questions.specs.Told.{Ending, answer_by, whole}
use Rattle.dml_meaning.specs.Run.{Env, Run}
use Rattle.dml_meaning.specs.Around.{Around}
use Rattle.dml_meaning.specs.Meaning.{eval}
use Rattle.dml_meaning.specs.declared.limits.TheConstants.{MAX_OPEN_ITEMS}

-- no file's fault is that of a circular object
pub record IsReading (reading : List ℕ → List ℕ → Result Template Fault) : Type 0 where
  pub plain : (file bytes : List ℕ) (fault : Fault) → reading file bytes ≡ Err fault
      → fault.code ≢ Circular

-- an item's evaluation as a run that is told a list of pairs: its value with what stands then, or
-- its fault
pub record Ended : Type 0 where
  pub value : Plain
  pub env : Env

abbrev pub item_ending : Ending Env Plain (Result Ended Fault)
item_ending = record {
  done = λ t e. Ok (record { value = t; env = e });
  returned = λ t e. Ok (record { value = t; env = e });
  failed = Err;
}

abbrev pub is_circular_end : Result Ended Fault → Bool
is_circular_end (Ok x) = false
is_circular_end (Err f) = is_circular f.code

-- where as many items may be open as ever
abbrev pub item_meaning : Around → Item → Run Plain
item_meaning a i = (eval MAX_OPEN_ITEMS).opens a i

abbrev pub item_told : Around → Item → Env → List (Key × Content) → Outcome Env Plain
item_told a i e pairs = item_meaning a i (answer_in pairs) e whole

abbrev pub evaluated : Around → Item → Env → List (Key × Content) → Answer Key (Result Ended Fault)
evaluated a i e pairs = answer_by item_ending (item_told a i e pairs)
