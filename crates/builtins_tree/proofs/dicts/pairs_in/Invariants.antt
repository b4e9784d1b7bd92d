use Rattle.std.proofs.Common.{◌≡◌, ◌++◌, length, true}
use Rattle.std.specs.List.{list_all}
use Rattle.builtins_tree.specs.Dicts.{are_pairs, has_key, pairs_in}
use Rattle.builtins_tree.specs.Pairs.{has_value}
use Rattle.builtins_tree.proofs.dicts.pairs_in.Given as goal

abbrev pub invariant-loop-key : goal.invariant-loop-key
invariant-loop-key l =
    (l.pairs.items ++ pairs_in l.rest ≡ pairs_in l.args) × (are_pairs l.rest ≡ true)
    × (list_all has_key l.pairs.items ≡ true) × (list_all has_value l.pairs.items ≡ true)

abbrev pub decreases-loop-key : goal.decreases-loop-key
decreases-loop-key l = length l.rest
