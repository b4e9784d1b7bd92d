use Rattle.std.proofs.Common.{◌≡◌, ◌++◌, drop}
use Rattle.engine_turns.specs.Places.{names}
use Rattle.rebuild.specs.Reaching.{missing}
use Rattle.rebuild.proofs.reaching.add_missing.Given as goal

abbrev pub invariant-loop-at : goal.invariant-loop-at
invariant-loop-at g l = l.moved.items ++ missing (names (drop l.at l.rows)) (names l.others)
    ≡ l.fn.moved.items ++ missing (names l.rows) (names l.others)
