use Rattle.std.proofs.Common.{arith}
use Rattle.std.proofs.lemmas.Grind.{common_steps}
use Rattle.fault_notes.proofs.printed.push_all_json.Goals as goal

pub loop-explained-preserved : goal.loop-explained-preserved
loop-explained-preserved c = grind (arith, common_steps)

pub returns : goal.returns
returns c = grind (arith, common_steps)
