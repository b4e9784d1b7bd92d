use Rattle.std.proofs.Common.{◌≡◌, drop}
use Rattle.questions.specs.Told.{ToldEnough}
use Rattle.validate.specs.Statements.{valids_seen}
use Rattle.validate.specs.Checked.{valids_run}
use Rattle.validate.specs.Validations.{KeepsLoans, meter_of, total}
use Rattle.validate.proofs.whole.check_valids.Given as goal

abbrev pub invariant-loop-valid : goal.invariant-loop-valid
invariant-loop-valid g l =
    let M = g.E.Evaluator in
    let now = l.validation in
    let before = l.fn.validation in
    let run = valids_run M.means l.root in
    record {
      gives : ToldEnough M.answers (M.asked before.evaluator.now) (M.asked now.evaluator.now)
          (λ told. run (valids_seen (drop l.valid-index l.valids)) told tt (meter_of M now)
          ≡ run (valids_seen l.valids) told tt (meter_of M before));
      counted : total now ≡ total before;
      lent : KeepsLoans before now;
    }
