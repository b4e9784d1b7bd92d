use Rattle.std.proofs.Common.{◌≡◌, drop, false}
use Rattle.path_tree.specs.Lists.{is_too_large}
use Rattle.path_tree.specs.Plain.{dict}
use Rattle.builtins_tree.specs.Dicts.{fields_of_pairs}
use Rattle.builtins_tree.proofs.pairs.dict_of_pairs.Given as goal

abbrev pub invariant-loop-i : goal.invariant-loop-i
invariant-loop-i l = (l.dict ≡ dict (fields_of_pairs (drop l.i l.pairs)))
    × (is_too_large l.dict ≡ false)
