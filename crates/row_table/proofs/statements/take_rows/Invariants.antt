use Rattle.std.proofs.Common.{◌≡◌, ℕ, List, drop}
use Rattle.sqlite.specs.State.{HasCleanDisk}
use Rattle.sqlite.specs.Held.{state}
use Rattle.keepers.specs.Keeping.{all_gone}
use Rattle.row_table.specs.Rows.{held}
use Rattle.row_table.specs.Steps.{IsStep, IsReady}
use Rattle.row_table.proofs.statements.take_rows.Given as goal

abbrev pub invariant-loop-name : goal.invariant-loop-name
invariant-loop-name g l =
    let old = state g.S.Store l.initial.tx.conn.now in
    let now = state g.S.Store l.tx.conn.now in
    (l.tx.conn.ghost_name ≡ l.initial.tx.conn.ghost_name) × IsStep old now
    × (HasCleanDisk now → IsReady old → IsReady now
    × ((n : List ℕ) → all_gone (drop l.name-index l.names) n (held (now.now.trees 0) n)
    ≡ all_gone l.names n (held (old.now.trees 0) n)))
