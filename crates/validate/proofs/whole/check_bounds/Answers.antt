use Rattle.std.proofs.Common.{arith}
use Rattle.questions.specs.Told.{only}
use Rattle.validate.specs.Validations.{meter_of}
use Rattle.validate.proofs.Stopping.{bounds_stop}
use Rattle.validate.proofs.whole.check_bounds.Goals as goal

pub returns-in_err-check_bound-clause-gives : goal.returns-in_err-check_bound-clause-gives
returns-in_err-check_bound-clause-gives g c = λ keys.
    let stops = bounds_stop g.E.Evaluator.means g.E.Evaluator.leaves c.in_err-check_bound.field-0.0
    c.args.root.now c.args.bounds.now c.loop-bound.bound-index c.bound-item.result
    (only keys g.E.Evaluator.answers) (meter_of g.E.Evaluator c.loop-bound.validation)
    (meter_of g.E.Evaluator c.check_bound.new.validation) c.loop-bound-test.true c.bound-item.is in
    grind (arith, stops)
