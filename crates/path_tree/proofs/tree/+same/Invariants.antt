use Rattle.std.proofs.Common.{◌≡◌, ◌+◌, ◌*◌, ◌↔◌, drop, length}
use Rattle.path_tree.specs.Plain.{tree_size, fields_size, items_size}
use Rattle.path_tree.specs.View.{node_seen, fields_of, items_of}
use Rattle.path_tree.proofs.tree.+same.Given as goal

abbrev pub decreases-Tree::equals : goal.decreases-Tree::equals
decreases-Tree::equals l = 4 * tree_size l.self.now + 1

abbrev pub decreases-comparing::same_node : goal.decreases-comparing::same_node
decreases-comparing::same_node l = 4 * tree_size (node_seen l.first.now)

abbrev pub decreases-comparing::same_entries : goal.decreases-comparing::same_entries
decreases-comparing::same_entries l = 4 * fields_size (fields_of l.first.now) + 3

abbrev pub decreases-comparing::same_items : goal.decreases-comparing::same_items
decreases-comparing::same_items l = 4 * items_size (items_of l.first.now) + 3

abbrev pub invariant-comparing::same_entries-loop-i : goal.invariant-comparing::same_entries-loop-i
invariant-comparing::same_entries-loop-i l = record {
  rest : (fields_of (drop l.i l.first) ≡ fields_of (drop l.i l.second))
      ↔ (fields_of l.first ≡ fields_of l.second);
  lengths : length l.first ≡ length l.second;
}

abbrev pub invariant-comparing::same_items-loop-i : goal.invariant-comparing::same_items-loop-i
invariant-comparing::same_items-loop-i l = record {
  rest : (items_of (drop l.i l.first) ≡ items_of (drop l.i l.second))
      ↔ (items_of l.first ≡ items_of l.second);
  lengths : length l.first ≡ length l.second;
}

abbrev pub decreases-comparing::same_entry : goal.decreases-comparing::same_entry
decreases-comparing::same_entry l = 4 * tree_size l.first.now.value + 2
