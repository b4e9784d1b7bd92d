-- The row of `merge`.
use Rattle.std.specs.Prelude.{Bool, true, not, ◌&&◌, ℕ, List, [], ◌∷◌, Result, Err, bytes_eq, if◌then◌else◌}
use Rattle.std.specs.List.{flat_map, fold, list_all, list_any}
use Rattle.path_tree.specs.Find.{kind_of}
use Rattle.path_tree.specs.Lists.{list_of, within_limits}
use Rattle.path_tree.specs.Plain.{Plain, dict, Fields, no_fields, field}
use Rattle.path_tree.specs.declared.refused.Refused.{Refused}
use Rattle.path_tree.specs.declared.refused.Refused.TheVariants.{BadArgument}
use Rattle.call_values.specs.Children.{children}
use Rattle.builtins_tree.specs.Dicts.{put_new}
use Rattle.builtins_tree.specs.Kinds.{is_dict, is_list}
use Rattle.builtins_tree.specs.declared.pairs.Pair.{Pair}

-- the fields of a dict in byte order of their keys
abbrev pub field_pairs : Fields → List Pair
field_pairs no_fields = []
field_pairs (field k t fs) = record { key = k; value = t } ∷ field_pairs fs

abbrev pub pairs_of : Plain → List Pair
pairs_of (dict fs) = field_pairs fs
pairs_of t = []

-- a key is among those of pairs
abbrev pub is_among : List ℕ → List Pair → Bool
is_among key pairs = list_any (λ pair. bytes_eq pair.key key) pairs

-- no key stands twice
abbrev pub are_distinct : List Pair → Bool
are_distinct [] = true
are_distinct (pair ∷ pairs) = not (is_among pair.key pairs) && are_distinct pairs

-- the fields of pairs, one put after the other
abbrev pub fields_in_turn : List Pair → Fields
fields_in_turn pairs = fold (λ fs pair. put_new pair fs) no_fields pairs

abbrev pub dict_in_turn : List Pair → Result Plain Refused
dict_in_turn pairs = within_limits (dict (fields_in_turn pairs))

abbrev pub united : List Pair → Result Plain Refused
united pairs = if are_distinct pairs then dict_in_turn pairs else Err BadArgument

-- at least one: lists in a row, or dicts of which no key is in two
abbrev pub merge_of : List Plain → Result Plain Refused
merge_of [] = Err BadArgument
merge_of (x ∷ xs) =
    if list_all (λ v. is_list (kind_of v)) (x ∷ xs) then list_of (flat_map children (x ∷ xs))
    else if list_all (λ v. is_dict (kind_of v)) (x ∷ xs) then united (flat_map pairs_of (x ∷ xs))
    else Err BadArgument
