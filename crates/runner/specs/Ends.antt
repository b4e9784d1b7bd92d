-- How runs end, as definitions see it.
use Rattle.std.specs.Prelude.{Option, Some, None, Result, Ok, Err, Bool, false}
use Rattle.pan_ast.specs.declared.fault.Fault.{Fault}
use Rattle.asking.specs.Asked.{Ran, Finished, Stops}
use Rattle.questions.specs.declared.key.Key.{Key}
use Rattle.questions.specs.Laws.{is_circular}
use Rattle.read_sets.specs.Items.{pairs_of}
use Rattle.runner.specs.declared.ends.Built.{Built}
use Rattle.runner.specs.declared.ends.BuildEnd.{BuildEnd}
use Rattle.runner.specs.declared.ends.BuildEnd.TheVariants as build
use Rattle.runner.specs.declared.ends.CheckEnd.{CheckEnd}
use Rattle.runner.specs.declared.ends.CheckEnd.TheVariants as check

-- a build ends with what was built or with a fault, a check with its first fault, if it has one
abbrev pub End : Type 0 → Type 0
End T = Result (Built T) Fault

abbrev pub Verdict : Type 0
Verdict = Option Fault

-- whether it is the fault of an object whose chain of reads never ends
abbrev pub is_circular_end : {T : Type 0} → End T → Bool
is_circular_end (Ok b) = false
is_circular_end (Err f) = is_circular f.code

abbrev pub is_circular_verdict : Verdict → Bool
is_circular_verdict None = false
is_circular_verdict (Some f) = is_circular f.code

-- the ends of the code: with what was asked and its numbers, or at an object that is not known
abbrev pub build_ran : {T : Type 0} → BuildEnd T → Ran Key (End T)
build_ran (build.Done b trace) = Finished (pairs_of trace) (Ok b)
build_ran (build.Fault f trace) = Finished (pairs_of trace) (Err f)
build_ran (build.Need p) = Stops p

abbrev pub check_ran : CheckEnd → Ran Key Verdict
check_ran (check.Done trace) = Finished (pairs_of trace) None
check_ran (check.Fault f trace) = Finished (pairs_of trace) (Some f)
check_ran (check.Need p) = Stops p
