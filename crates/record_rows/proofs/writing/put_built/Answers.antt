use Rattle.std.proofs.Common.{arith}
use Rattle.std.proofs.lemmas.Grind.{common_steps}
use Rattle.record_rows.proofs.writing.put_built.Goals as goal

pub returns-in_ok-push-in-Ok-clause-bytes : goal.returns-in_ok-push-in-Ok-clause-bytes
returns-in_ok-push-in-Ok-clause-bytes c = grind (arith, common_steps)

pub returns-in_ok-push-in-Err-clause-bytes : goal.returns-in_ok-push-in-Err-clause-bytes
returns-in_ok-push-in-Err-clause-bytes c = grind (arith, common_steps)
