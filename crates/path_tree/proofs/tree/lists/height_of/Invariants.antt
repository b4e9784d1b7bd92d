use Rattle.std.proofs.Common.{◌≡◌, ◌≤◌, ◌+◌, max, drop}
use Rattle.path_tree.specs.Plain.{list, tree_height, items_height}
use Rattle.path_tree.specs.View.{items_of}
use Rattle.path_tree.proofs.tree.lists.height_of.Given as goal

abbrev pub invariant-loop-item : goal.invariant-loop-item
invariant-loop-item l = record {
  height : max l.height (1 + items_height (items_of (drop l.item-index l.items)))
      ≡ tree_height (list (items_of l.items));
  low : 1 ≤ l.height;
}
