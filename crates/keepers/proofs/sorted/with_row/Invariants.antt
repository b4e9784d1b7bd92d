use Rattle.std.proofs.Common.{◌≡◌, ◌++◌, drop}
use Rattle.keepers.specs.Sorted.{with_row}
use Rattle.keepers.proofs.sorted.with_row.Given as goal

abbrev pub invariant-loop-i : goal.invariant-loop-i
invariant-loop-i l = l.next.items ++ with_row l.new (drop l.i l.rows) ≡ with_row l.new l.rows
