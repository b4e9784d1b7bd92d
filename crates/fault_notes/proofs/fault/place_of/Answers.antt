use Rattle.std.proofs.Common.{arith}
use Rattle.std.proofs.lemmas.Grind.{common_steps}
use Rattle.fault_notes.proofs.fault.place_of.Goals as goal

pub returns-then-each-byte-clause-place : goal.returns-then-each-byte-clause-place
returns-then-each-byte-clause-place c = grind (arith, common_steps)

pub loop-each-preserved : goal.loop-each-preserved
loop-each-preserved c = grind (arith, common_steps)

pub returns-clause-place : goal.returns-clause-place
returns-clause-place c = grind (arith, common_steps)
