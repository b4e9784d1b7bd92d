use Rattle.std.proofs.Common.{◌≡◌, map, drop}
use Rattle.stored_rows.specs.Rows.{are_rising}
use Rattle.stored_rows.proofs.rising.are_rising.Given as goal

abbrev pub invariant-loop-i : goal.invariant-loop-i
invariant-loop-i g l = are_rising (map g.T.Named.name_of (drop l.i l.items))
    ≡ are_rising (map g.T.Named.name_of l.items)
