use Rattle.std.proofs.Common.{arith}
use Rattle.std.proofs.lemmas.Grind.{common_steps}
use Rattle.record_rows.proofs.writing.put_verdict.Goals as goal

pub returns-in_ok-push-in-Some-clause-bytes : goal.returns-in_ok-push-in-Some-clause-bytes
returns-in_ok-push-in-Some-clause-bytes c = grind (arith, common_steps)
