use Rattle.std.proofs.Common.{◌≡◌, ◌≤◌, ◌+◌, max, drop}
use Rattle.path_tree.specs.Plain.{dict, tree_height, fields_height}
use Rattle.path_tree.specs.View.{fields_of}
use Rattle.path_tree.proofs.tree.dicts.height_of.Given as goal

abbrev pub invariant-loop-entry : goal.invariant-loop-entry
invariant-loop-entry l = record {
  height : max l.height (1 + fields_height (fields_of (drop l.entry-index l.entries)))
      ≡ tree_height (dict (fields_of l.entries));
  low : 1 ≤ l.height;
}
