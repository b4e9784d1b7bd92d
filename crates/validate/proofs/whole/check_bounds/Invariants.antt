use Rattle.std.proofs.Common.{◌≡◌, drop}
use Rattle.questions.specs.Told.{ToldEnough}
use Rattle.type_defs.specs.BindingsSeen.{bounds_seen}
use Rattle.validate.specs.Checked.{bounds_run}
use Rattle.validate.specs.Validations.{KeepsLoans, meter_of, total}
use Rattle.validate.proofs.whole.check_bounds.Given as goal

abbrev pub invariant-loop-bound : goal.invariant-loop-bound
invariant-loop-bound g l =
    let M = g.E.Evaluator in
    let now = l.validation in
    let before = l.fn.validation in
    let run = bounds_run M.means l.root in
    record {
      gives : ToldEnough M.answers (M.asked before.evaluator.now) (M.asked now.evaluator.now)
          (λ told. run (bounds_seen (drop l.bound-index l.bounds)) told tt (meter_of M now)
          ≡ run (bounds_seen l.bounds) told tt (meter_of M before));
      counted : total now ≡ total before;
      lent : KeepsLoans before now;
    }
