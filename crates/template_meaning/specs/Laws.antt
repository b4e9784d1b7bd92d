-- What the laws of the run of an object's statements are said of.
use Rattle.std.specs.Prelude.{List, Bool, false, Result, Ok, Err}
use Rattle.pan_ast.specs.declared.fault.Fault.{Fault}
use Rattle.pan_ast.specs.declared.place.Place.{Place}
use Rattle.questions.specs.declared.key.Key.{Key}
use Rattle.asking.specs.Asked.{Answer}
use Rattle.questions.specs.Contents.{Content, answer_in}
use Rattle.questions.specs.Laws.{is_circular}
use Rattle.questions.specs.Run.{Outcome}
use Rattle.questions.specs.Told.{Ending, answer_by, whole}
use Rattle.template_meaning.specs.Program.{Site, Program, no_program}
use Rattle.template_meaning.specs.Objects.{object_run, top_place}

-- what the statements of an object have made, and the place of its header
pub record Made : Type 0 where
  pub header : Place
  pub program : Program

-- DML that returns ends its statement alone, so the run itself never returns
abbrev pub object_ending : Site → Ending Program Place (Result Made Fault)
object_ending site = record {
  done = λ p s. Ok (record { header = p; program = s });
  returned = λ t s. Ok (record { header = top_place site.object; program = s });
  failed = Err;
}

abbrev pub is_circular_made : Result Made Fault → Bool
is_circular_made (Ok x) = false
is_circular_made (Err f) = is_circular f.code

abbrev pub object_told : Site → List (Key × Content) → Outcome Program Place
object_told site pairs = object_run site (answer_in pairs) no_program whole

abbrev pub object_made : Site → List (Key × Content) → Answer Key (Result Made Fault)
object_made site pairs = answer_by (object_ending site) (object_told site pairs)
