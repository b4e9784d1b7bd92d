use Rattle.std.proofs.Common.{◌+◌, ◌-◌, length}
use Rattle.row_changes.proofs.Walk.{Walked}
use Rattle.row_changes.proofs.difference.Changes.between.Given as goal

abbrev pub invariant-loop-i : goal.invariant-loop-i
invariant-loop-i l = Walked l.last l.wanted l.changes.gone.items l.changes.set.items l.i l.j

abbrev pub decreases-loop-i : goal.decreases-loop-i
decreases-loop-i l = (length l.last - l.i) + (length l.wanted - l.j)
