use Rattle.std.proofs.Common.{◌≡◌, ◌++◌, drop}
use Rattle.engine_rows.proofs.storing.copy_items.Given as goal

abbrev pub invariant-loop-item : goal.invariant-loop-item
invariant-loop-item l = l.made ++ drop l.item-index l.items ≡ l.items
