use Rattle.std.proofs.Common.{◌≡◌, ◌++◌, map, take, drop}
use Rattle.engine_turns.specs.Changes.{forgotten_row}
use Rattle.rebuild.proofs.answers.forget_rows.Given as goal

abbrev pub invariant-loop-row : goal.invariant-loop-row
invariant-loop-row g l =
    l.row-items ≡ map forgotten_row (take l.row-index l.fn.rows.items)
    ++ drop l.row-index l.fn.rows.items
