use Rattle.std.proofs.Common.{arith}
use Rattle.std.proofs.lemmas.Grind.{common_steps}
use Rattle.record_rows.proofs.faults.read_verdict.Goals as goal

pub returns-in_err-fault-in-1 : goal.returns-in_err-fault-in-1
returns-in_err-fault-in-1 c = grind (arith, common_steps)

pub returns-in-0 : goal.returns-in-0
returns-in-0 c = grind (arith, common_steps)

pub returns-in_ok-fault-in-1 : goal.returns-in_ok-fault-in-1
returns-in_ok-fault-in-1 c = grind (arith, common_steps)
