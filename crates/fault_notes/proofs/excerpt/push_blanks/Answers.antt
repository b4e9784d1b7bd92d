use Rattle.std.proofs.Common.{rules, append_assoc}
use Rattle.fault_notes.proofs.Steps.{blank_more}
use Rattle.fault_notes.proofs.excerpt.push_blanks.Goals as goal

pub loop-preserved : goal.loop-preserved
loop-preserved c = search (rules, append_assoc, blank_more)
