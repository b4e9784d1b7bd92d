-- Lists that are made of trees, and lists with one item more.
use Rattle.std.specs.Prelude.{Bool, true, false, ◌||◌, List, [], ◌∷◌, ◌++◌, Result, Ok, Err, nat_lt, if◌then◌else◌}
use Rattle.std.specs.List.{list_any}
use Rattle.base.specs.declared.limits.TheConstants.{MAX_TREE_SIZE, MAX_TREE_HEIGHT}
use Rattle.path_tree.specs.Plain.{Plain, dict, list, text, long, boolean, undef, null, Items, no_items, item, tree_size, tree_height}
use Rattle.path_tree.specs.View.{items_of}
use Rattle.path_tree.specs.declared.refused.Refused.{Refused}
use Rattle.path_tree.specs.declared.refused.Refused.TheVariants.{BadArgument, TooLarge}

abbrev pub is_null : Plain → Bool
is_null null = true
is_null (dict fs) = false
is_null (list ts) = false
is_null (text bytes) = false
is_null (long z) = false
is_null (boolean b) = false
is_null undef = false

-- over the size or the height that a tree may have
abbrev pub is_too_large : Plain → Bool
is_too_large t = nat_lt MAX_TREE_SIZE (tree_size t) || nat_lt MAX_TREE_HEIGHT (tree_height t)

-- a tree within the limits
abbrev pub within_limits : Plain → Result Plain Refused
within_limits t = if is_too_large t then Err TooLarge else Ok t

-- the list of these trees, of which none may be null
abbrev pub list_of : List Plain → Result Plain Refused
list_of ts = if list_any is_null ts then Err BadArgument else within_limits (list (items_of ts))

-- the items of a list, one by one
abbrev pub items_in : Items → List Plain
items_in no_items = []
items_in (item t ts) = t ∷ items_in ts

-- a list with one item more, behind its last
abbrev pub pushed : Plain → Plain → Result Plain Refused
pushed v (list ts) = list_of (items_in ts ++ v ∷ [])
pushed v _ = Err BadArgument

-- in front of its first
abbrev pub pushed_front : Plain → Plain → Result Plain Refused
pushed_front v (list ts) = list_of (v ∷ items_in ts)
pushed_front v _ = Err BadArgument
