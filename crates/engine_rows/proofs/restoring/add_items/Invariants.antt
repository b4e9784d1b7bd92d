use Rattle.std.proofs.Common.{◌≡◌, ◌++◌, map, drop}
use Rattle.read_sets.specs.Items.{pairs_of}
use Rattle.engine_turns.specs.Entering.{entry_pair}
use Rattle.engine_rows.specs.Restoring.{tree_items}
use Rattle.engine_rows.proofs.restoring.add_items.Given as goal

abbrev pub invariant-loop-item : goal.invariant-loop-item
invariant-loop-item g l =
    map entry_pair l.made.items ++ tree_items l.rows (pairs_of (drop l.item-index l.items))
    ≡ map entry_pair l.fn.made.items ++ tree_items l.rows (pairs_of l.items)
