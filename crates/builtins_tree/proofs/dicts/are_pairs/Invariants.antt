use Rattle.std.proofs.Common.{◌≡◌, length}
use Rattle.builtins_tree.specs.Dicts.{are_pairs}
use Rattle.builtins_tree.proofs.dicts.are_pairs.Given as goal

abbrev pub invariant-loop-key : goal.invariant-loop-key
invariant-loop-key l = are_pairs l.rest ≡ are_pairs l.args

abbrev pub decreases-loop-key : goal.decreases-loop-key
decreases-loop-key l = length l.rest
