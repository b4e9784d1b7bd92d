-- An early end of an evaluation is one of the check.
use Rattle.std.proofs.Common.{◌∙◌, ap, sym, arith}
use Rattle.questions.specs.Run.{Meter, Outcome, Failed, Asks}
use Rattle.dml_world.specs.declared.stop.Stop.{Stop}
use Rattle.dml_world.specs.declared.stop.Stop.TheVariants as stop
use Rattle.dml_world.specs.Exits.{Stops}
use Rattle.validate.specs.declared.stop.Stop.{Stop as CheckStop}
use Rattle.validate.specs.declared.stop.Stop.TheVariants as check_stop
use Rattle.validate.specs.Exits.{Ends}
use Rattle.object_run.specs.Testing.{IsStopOf}

pub stops : (Y : Type 0) (x : Stop) (y : CheckStop) (m : Meter) (o : Outcome (Unit {0}) Y)
    → IsStopOf x y → Stops x m o → Ends y m o
stops Y stop.Memory y m o is h = rw is h
stops Y (stop.Fault f) (check_stop.Fault g) m o is h = h ∙ ap (λ d. Failed d m) (sym is)
stops Y (stop.Fault f) (check_stop.Need k) m o is h = absurd is
stops Y (stop.Fault f) check_stop.Memory m o is h = rw h (omega arith)
stops Y (stop.Need q) (check_stop.Need k) m o is h = h ∙ ap (λ k'. Asks k' m) (sym is)
stops Y (stop.Need q) (check_stop.Fault g) m o is h = absurd is
stops Y (stop.Need q) check_stop.Memory m o is h = rw h (omega arith)
