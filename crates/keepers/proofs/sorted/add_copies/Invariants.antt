use Rattle.std.proofs.Common.{◌≡◌, ◌++◌, drop}
use Rattle.keepers.proofs.sorted.add_copies.Given as goal

abbrev pub invariant-loop-row : goal.invariant-loop-row
invariant-loop-row l = l.into.items ++ drop l.row-index l.rows ≡ l.initial.into.items ++ l.rows
