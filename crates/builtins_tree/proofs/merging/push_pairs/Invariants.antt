use Rattle.std.proofs.Common.{◌≡◌, ◌++◌, true}
use Rattle.std.specs.List.{list_all}
use Rattle.path_tree.specs.Children.{child_fields, fields_from}
use Rattle.builtins_tree.specs.Merges.{field_pairs}
use Rattle.builtins_tree.specs.Pairs.{has_value}
use Rattle.builtins_tree.proofs.merging.push_pairs.Given as goal

abbrev pub invariant-loop-i : goal.invariant-loop-i
invariant-loop-i l =
    (l.pairs.items ++ field_pairs (fields_from l.i l.dict) ≡ l.fn.pairs.items
    ++ field_pairs (child_fields l.dict))
    × (list_all has_value l.fn.pairs.items ≡ true → list_all has_value l.pairs.items ≡ true)
