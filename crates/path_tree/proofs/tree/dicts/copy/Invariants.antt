use Rattle.std.proofs.Common.{◌≡◌, take}
use Rattle.path_tree.proofs.tree.dicts.copy.Given as goal

abbrev pub invariant-loop-entry : goal.invariant-loop-entry
invariant-loop-entry l = l.entries.items ≡ take l.entry-index l.dict.entries.items
