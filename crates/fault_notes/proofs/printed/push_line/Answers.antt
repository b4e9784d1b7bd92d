use Rattle.std.proofs.Common.{rules, append_assoc}
use Rattle.fault_notes.proofs.printed.push_line.Goals as goal

pub returns : goal.returns
returns c = search (rules, append_assoc)
