use Rattle.std.proofs.Common.{◌≡◌}
use Rattle.path_tree.specs.Children.{child_fields, fields_from}
use Rattle.builtins_tree.specs.Searches.{found_key}
use Rattle.builtins_tree.proofs.searching.found_key.Given as goal

abbrev pub invariant-loop-i : goal.invariant-loop-i
invariant-loop-i l = found_key l.wanted (fields_from l.i l.dict)
    ≡ found_key l.wanted (child_fields l.dict)
