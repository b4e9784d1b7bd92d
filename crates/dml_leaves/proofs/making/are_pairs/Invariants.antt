use Rattle.std.proofs.Common.{◌≡◌, length}
use Rattle.dml_meaning.specs.Structures.{are_pairs}
use Rattle.dml_leaves.proofs.making.are_pairs.Given as goal

abbrev pub invariant-pairs : goal.invariant-pairs
invariant-pairs l = are_pairs l.rest ≡ are_pairs l.values

abbrev pub decreases-pairs : goal.decreases-pairs
decreases-pairs l = length l.rest
