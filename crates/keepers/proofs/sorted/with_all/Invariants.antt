use Rattle.std.proofs.Common.{◌≡◌, drop}
use Rattle.keepers.specs.Keeping.{all_set}
use Rattle.keepers.proofs.Rising.{Leaves}
use Rattle.keepers.proofs.sorted.with_all.Given as goal

abbrev pub invariant-loop-row : goal.invariant-loop-row
invariant-loop-row l = Leaves (all_set (drop l.row-index l.set))
    (all_set l.set) l.fn.rows.items l.next.items
