use Rattle.std.proofs.Common.{◌≡◌, ◌≤◌, take}
use Rattle.publication.specs.Bounds.{removals_over}
use Rattle.publication.proofs.until_failure.count_removals.Given as goal

abbrev pub invariant-loop-name : goal.invariant-loop-name
invariant-loop-name l = record {
  count : l.removals ≡ removals_over l.wants (take l.name-index l.listed);
  most : l.removals ≤ l.name-index;
}
