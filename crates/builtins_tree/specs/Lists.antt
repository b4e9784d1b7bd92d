-- The rows of `append` and `prepend` of two values. `list` is path_tree's `list_of`.
use Rattle.std.specs.Prelude.{List, [], ◌∷◌, Result, Err}
use Rattle.path_tree.specs.Lists.{pushed, pushed_front}
use Rattle.path_tree.specs.Plain.{Plain, list, undef, no_items}
use Rattle.path_tree.specs.declared.refused.Refused.{Refused}
use Rattle.path_tree.specs.declared.refused.Refused.TheVariants.{BadArgument}

-- undef counts as an empty list
abbrev pub or_empty_list : Plain → Plain
or_empty_list undef = list no_items
or_empty_list t = t

abbrev pub append_of : List Plain → Result Plain Refused
append_of (l ∷ v ∷ []) = pushed v (or_empty_list l)
append_of _ = Err BadArgument

abbrev pub prepend_of : List Plain → Result Plain Refused
prepend_of (l ∷ v ∷ []) = pushed_front v (or_empty_list l)
prepend_of _ = Err BadArgument
