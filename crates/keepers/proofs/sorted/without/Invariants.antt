use Rattle.std.proofs.Common.{◌≡◌, ◌++◌, drop}
use Rattle.keepers.specs.Sorted.{without}
use Rattle.keepers.proofs.sorted.without.Given as goal

abbrev pub invariant-loop-row : goal.invariant-loop-row
invariant-loop-row l = l.rest.items ++ without l.name (drop l.row-index l.rows) ≡ without l.name
    l.rows
