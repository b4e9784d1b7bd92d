use Rattle.std.proofs.Common.{arith}
use Rattle.std.proofs.lemmas.Grind.{common_steps}
use Rattle.record_rows.proofs.writing.put_dirs.Goals as goal

pub loop-dir-init : goal.loop-dir-init
loop-dir-init c = grind (arith, common_steps)

pub loop-dir-preserved : goal.loop-dir-preserved
loop-dir-preserved c = grind (arith, common_steps)

pub returns-clause-bytes : goal.returns-clause-bytes
returns-clause-bytes c = grind (arith, common_steps)

pub returns-clause-fits : goal.returns-clause-fits
returns-clause-fits c = grind (arith, common_steps)
