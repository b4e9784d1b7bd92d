use Rattle.std.proofs.Common.{◌≡◌, drop}
use Rattle.keepers.specs.Keeping.{all_gone}
use Rattle.keepers.proofs.Rising.{Leaves}
use Rattle.keepers.proofs.sorted.without_all.Given as goal

abbrev pub invariant-loop-name : goal.invariant-loop-name
invariant-loop-name l = Leaves (all_gone (drop l.name-index l.names))
    (all_gone l.names) l.fn.rows.items l.rest.items
