use Rattle.std.proofs.Common.{◌≡◌, ◌++◌, drop}
use Rattle.engine_turns.specs.Places.{names}
use Rattle.rebuild.proofs.answers.names_in.Given as goal

abbrev pub invariant-loop-row : goal.invariant-loop-row
invariant-loop-row g l = l.made.items ++ names (drop l.row-index l.rows) ≡ names l.rows
