use Rattle.std.proofs.Common.{◌≡◌, take}
use Rattle.path_tree.proofs.tree.lists.copy.Given as goal

abbrev pub invariant-loop-item : goal.invariant-loop-item
invariant-loop-item l = l.items.items ≡ take l.item-index l.list.items.items
