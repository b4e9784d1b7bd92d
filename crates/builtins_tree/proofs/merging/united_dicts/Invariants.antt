use Rattle.std.proofs.Common.{◌≡◌, take, true}
use Rattle.std.specs.List.{flat_map, list_all}
use Rattle.builtins_tree.specs.Merges.{pairs_of}
use Rattle.builtins_tree.specs.Pairs.{has_value}
use Rattle.builtins_tree.proofs.merging.united_dicts.Given as goal

abbrev pub invariant-loop-dict : goal.invariant-loop-dict
invariant-loop-dict l = (l.pairs.items ≡ flat_map pairs_of (take l.dict-index l.dicts))
    × (list_all has_value l.pairs.items ≡ true)
