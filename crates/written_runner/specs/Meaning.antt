-- What written objects mean: their builds give the value of the last line, and so do their checks,
-- which
-- give it up.
use Rattle.std.specs.Prelude.{ℕ, List, [], Some, None, Ok, Err}
use Rattle.path_tree.specs.Plain.{Plain, undef}
use Rattle.questions.specs.Contents.{Content, answer_in}
use Rattle.questions.specs.Run.{Meter, Outcome, Done, Failed, Asks}
use Rattle.questions.specs.declared.key.Key.{Key}
use Rattle.questions.specs.declared.key.Key.TheVariants.{Under}
use Rattle.questions.specs.Told.{Ending, answer_by, whole, work_of}
use Rattle.runner.specs.Ends.{End, Verdict}
use Rattle.runner.specs.Meaning.{Meaning}
use Rattle.runner.specs.declared.ends.Built.{Built}
use Rattle.runner.specs.declared.ends.BuildEnd.{BuildEnd}
use Rattle.runner.specs.declared.ends.BuildEnd.TheVariants as build
use Rattle.runner.specs.declared.ends.CheckEnd.{CheckEnd}
use Rattle.runner.specs.declared.ends.CheckEnd.TheVariants as check
use Rattle.read_sets.specs.declared.trace.Item.{Item}
use Rattle.written_runner.specs.declared.used.Came.{Came}
use Rattle.written_runner.specs.declared.used.Came.TheVariants as came
use Rattle.written_runner.specs.Written.{action_of, object_run}
use Rattle.written_runner.specs.declared.running.Side.TheVariants.{Build, Check}

abbrev pub built_with : List ℕ → Plain → Built (Unit {0})
built_with object t = record { object = object; tree = t; rest = tt }

abbrev pub build_ending : List ℕ → Ending Plain (Unit {0}) (End (Unit {0}))
build_ending object = record {
  done = λ x t. Ok (built_with object t);
  returned = λ r t. Ok (built_with object t);
  failed = Err;
}

abbrev pub check_ending : Ending Plain (Unit {0}) Verdict
check_ending = record { done = λ x t. None; returned = λ r t. None; failed = Some }

-- files are looked for in these directories
abbrev pub meaning : List (List ℕ) → Meaning (Unit {0})
meaning dirs = record {
  build = λ object asked. answer_by (build_ending object)
      (object_run dirs object (action_of Build) (answer_in asked) undef whole);
  build_work = λ object asked. work_of
      (object_run dirs object (action_of Build) (answer_in asked) undef whole);
  check = λ built asked. answer_by check_ending
      (object_run dirs built.object (action_of Check) (answer_in asked) undef whole);
  check_work = λ built asked. work_of
      (object_run dirs built.object (action_of Check) (answer_in asked) undef whole);
  log = λ rest. None;
}

-- a check of a written object promises nothing
abbrev pub PromisesNothing : Built (Unit {0}) → List (Key × Content) → Type 0
PromisesNothing built asked = Unit {0}

-- how a line came out, as an outcome of its definition
abbrev pub outcome_of : Came → Plain → Meter → Outcome Plain (Unit {0})
outcome_of came.Done v m = Done tt v m
outcome_of (came.Failed f) v m = Failed f m
outcome_of (came.Waits p) v m = Asks (Under p []) m

-- how a run ends, by how it came out
abbrev pub build_end_of : Came → Plain → List Item → List ℕ → BuildEnd (Unit {0})
build_end_of came.Done v items object = build.Done (built_with object v) items
build_end_of (came.Failed f) v items object = build.Fault f items
build_end_of (came.Waits p) v items object = build.Need p

abbrev pub check_end_of : Came → List Item → CheckEnd
check_end_of came.Done items = check.Done items
check_end_of (came.Failed f) items = check.Fault f items
check_end_of (came.Waits p) items = check.Need p
