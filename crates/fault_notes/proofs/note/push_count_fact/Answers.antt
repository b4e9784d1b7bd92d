use Rattle.std.proofs.Common.{rules, append_assoc}
use Rattle.fault_notes.proofs.note.push_count_fact.Goals as goal

pub returns : goal.returns
returns c = search (rules, append_assoc)
