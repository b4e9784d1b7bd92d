use Rattle.std.proofs.Common.{◌≡◌, drop}
use Rattle.std.specs.List.{list_any}
use Rattle.path_tree.specs.Lists.{is_null}
use Rattle.path_tree.specs.Plain.{AreItems}
use Rattle.path_tree.specs.View.{items_of}
use Rattle.path_tree.proofs.tree.lists.are_values.Given as goal

abbrev pub invariant-loop-item : goal.invariant-loop-item
invariant-loop-item l = record {
  null : list_any is_null (drop l.item-index l.items) ≡ list_any is_null l.items;
  whole : AreItems (items_of (drop l.item-index l.items)) → AreItems (items_of l.items);
}
