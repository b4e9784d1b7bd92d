use Rattle.std.proofs.Common.{◌≡◌, ◌++◌, map, drop}
use Rattle.engine_turns.specs.Entering.{entry_pair}
use Rattle.engine_rows.specs.Restoring.{all_items}
use Rattle.engine_rows.proofs.restoring.record_entries.Given as goal

abbrev pub invariant-loop-row : goal.invariant-loop-row
invariant-loop-row g l =
    map entry_pair l.made.items ++ all_items l.rows (drop l.row-index l.rows)
    ≡ all_items l.rows l.rows
