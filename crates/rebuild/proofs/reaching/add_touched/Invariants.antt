use Rattle.std.proofs.Common.{◌≡◌, ◌++◌, drop}
use Rattle.rebuild.specs.Reaching.{touched_keys}
use Rattle.rebuild.proofs.reaching.add_touched.Given as goal

abbrev pub invariant-loop-row : goal.invariant-loop-row
invariant-loop-row g l =
    l.moved.items ++ touched_keys l.settled (drop l.row-index l.rows) ≡ l.fn.moved.items
    ++ touched_keys l.settled l.rows
