use Rattle.std.proofs.Common.{arith}
use Rattle.std.proofs.lemmas.Grind.{common_steps}
use Rattle.fault_notes.proofs.printed.push_trace.Goals as goal

pub loop-origin-preserved : goal.loop-origin-preserved
loop-origin-preserved c = grind (arith, common_steps)

pub returns : goal.returns
returns c = grind (arith, common_steps)
