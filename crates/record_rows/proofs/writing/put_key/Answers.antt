use Rattle.std.proofs.Common.{arith}
use Rattle.std.proofs.lemmas.Grind.{common_steps}
use Rattle.record_rows.proofs.writing.put_key.Goals as goal

pub returns-in_ok-push-in-File-clause-bytes : goal.returns-in_ok-push-in-File-clause-bytes
returns-in_ok-push-in-File-clause-bytes c = grind (arith, common_steps)
