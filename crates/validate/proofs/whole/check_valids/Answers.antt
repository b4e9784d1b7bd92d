use Rattle.std.proofs.Common.{arith}
use Rattle.questions.specs.Told.{only}
use Rattle.validate.specs.Validations.{meter_of}
use Rattle.validate.proofs.Stopping.{valids_stop}
use Rattle.validate.proofs.whole.check_valids.Goals as goal

pub returns-in_err-check_valid-clause-gives : goal.returns-in_err-check_valid-clause-gives
returns-in_err-check_valid-clause-gives g c = λ keys.
    let stops = valids_stop g.E.Evaluator.means g.E.Evaluator.leaves c.in_err-check_valid.field-0.0
    c.args.root.now c.args.valids.now c.loop-valid.valid-index c.valid-item.result
    (only keys g.E.Evaluator.answers) (meter_of g.E.Evaluator c.loop-valid.validation)
    (meter_of g.E.Evaluator c.check_valid.new.validation) c.loop-valid-test.true c.valid-item.is in
    grind (arith, stops)
