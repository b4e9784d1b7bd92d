use Rattle.std.proofs.Common.{◌≡◌, ◌≤◌, ◌+◌, ◌-◌, ◌^◌, min, drop}
use Rattle.path_tree.specs.Plain.{list, tree_size, items_size}
use Rattle.path_tree.specs.View.{items_of}
use Rattle.path_tree.proofs.tree.lists.size_of.Given as goal

abbrev pub invariant-loop-item : goal.invariant-loop-item
invariant-loop-item l = record {
  size : min (l.size + items_size (items_of (drop l.item-index l.items))) (2 ^ 64 - 1)
      ≡ min (tree_size (list (items_of l.items))) (2 ^ 64 - 1);
  fits : l.size ≤ 2 ^ 64 - 1;
}
