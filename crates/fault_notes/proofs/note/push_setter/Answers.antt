use Rattle.std.proofs.Common.{arith}
use Rattle.std.proofs.lemmas.Grind.{common_steps}
use Rattle.fault_notes.proofs.note.push_setter.Goals as goal

pub returns : goal.returns
returns c = grind (arith, common_steps)
