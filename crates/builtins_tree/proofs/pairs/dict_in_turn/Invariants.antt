use Rattle.std.proofs.Common.{◌≡◌, take, false}
use Rattle.path_tree.specs.Lists.{is_too_large}
use Rattle.path_tree.specs.Plain.{dict}
use Rattle.builtins_tree.specs.Merges.{fields_in_turn}
use Rattle.builtins_tree.proofs.pairs.dict_in_turn.Given as goal

abbrev pub invariant-loop-pair : goal.invariant-loop-pair
invariant-loop-pair l = (l.dict ≡ dict (fields_in_turn (take l.pair-index l.pairs)))
    × (is_too_large l.dict ≡ false)
