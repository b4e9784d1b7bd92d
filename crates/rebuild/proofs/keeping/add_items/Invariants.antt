use Rattle.std.proofs.Common.{◌≡◌, ◌++◌, map, drop}
use Rattle.read_sets.specs.Items.{pairs_of}
use Rattle.engine_turns.specs.Entering.{entry_pair}
use Rattle.engine_turns.specs.States.{table_in}
use Rattle.rebuild.specs.Keeping.{own_entries}
use Rattle.rebuild.proofs.keeping.add_items.Given as goal

abbrev pub invariant-loop-item : goal.invariant-loop-item
invariant-loop-item g l =
    map entry_pair l.made.items ++ own_entries (table_in l.rows)
    (pairs_of (drop l.item-index l.items)) ≡ map entry_pair l.fn.made.items
    ++ own_entries (table_in l.rows) (pairs_of l.items)
