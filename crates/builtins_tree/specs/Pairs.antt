-- What is asked of pairs that become a dict.
use Rattle.std.specs.Prelude.{Bool, not}
use Rattle.path_tree.specs.Lists.{is_null}
use Rattle.builtins_tree.specs.declared.pairs.Pair.{Pair}

-- its value is not null
abbrev pub has_value : Pair → Bool
has_value pair = not (is_null pair.value)
