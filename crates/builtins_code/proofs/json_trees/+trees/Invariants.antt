use Rattle.std.proofs.Common.{◌≡◌, true, List, ◌++◌, Ok, drop, take, map}
use Rattle.path_tree.specs.Lists.{within_limits}
use Rattle.serde_json.proofs.Views.{Entry}
use Rattle.serde_json.specs.View.{view, items_view, members_view}
use Rattle.builtins_code.specs.Json.{items_are_keys, members_are_keys, tree_of}
use Rattle.builtins_code.proofs.Sizes.{dict_of}
use Rattle.builtins_code.proofs.json_trees.+trees.Given as goal

abbrev pub invariant-trees_of-loop-item : goal.invariant-trees_of-loop-item
invariant-trees_of-loop-item l =
    (l.made.items ≡ map (λ v. tree_of (view v)) (take l.item-index l.item-items))
    × (items_are_keys (items_view (drop l.item-index l.item-items)) ≡ true)

abbrev pub invariant-dict_of-loop-name : goal.invariant-dict_of-loop-name
invariant-dict_of-loop-name l =
    (done : List Entry) × (l.members.entries ≡ done ++ l.name-iterator) × (l.dict ≡ dict_of done)
    × (within_limits l.dict ≡ Ok l.dict) × (members_are_keys (members_view l.name-iterator) ≡ true)
