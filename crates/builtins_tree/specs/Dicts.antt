-- The row of `dict`.
use Rattle.std.specs.Prelude.{Bool, true, false, not, ◌&&◌, List, [], ◌∷◌, Result, Err, is_some, unwrap_or, if◌then◌else◌}
use Rattle.std.specs.List.{list_all}
use Rattle.path_tree.specs.Dicts.{put_new_field}
use Rattle.path_tree.specs.Find.{text_of}
use Rattle.path_tree.specs.Grammar.{is_key}
use Rattle.path_tree.specs.Lists.{is_null, within_limits}
use Rattle.path_tree.specs.Plain.{Plain, dict, Fields, no_fields}
use Rattle.path_tree.specs.declared.refused.Refused.{Refused}
use Rattle.path_tree.specs.declared.refused.Refused.TheVariants.{BadArgument, BadIndex}
use Rattle.builtins_tree.specs.declared.pairs.Pair.{Pair}

-- texts and values in turn, of which no value is null
abbrev pub are_pairs : List Plain → Bool
are_pairs [] = true
are_pairs (k ∷ []) = false
are_pairs (k ∷ v ∷ rest) = is_some (text_of k) && not (is_null v) && are_pairs rest

-- each text with the value behind it
abbrev pub pairs_in : List Plain → List Pair
pairs_in [] = []
pairs_in (k ∷ []) = []
pairs_in (k ∷ v ∷ rest) = record { key = unwrap_or (text_of k) []; value = v } ∷ pairs_in rest

abbrev pub has_key : Pair → Bool
has_key pair = is_key pair.key

-- a pair is put where its key is not there
abbrev pub put_new : Pair → Fields → Fields
put_new pair fs = put_new_field pair.key pair.value fs

-- the fields of pairs: each is put where no later one has its key
abbrev pub fields_of_pairs : List Pair → Fields
fields_of_pairs [] = no_fields
fields_of_pairs (pair ∷ pairs) = put_new pair (fields_of_pairs pairs)

abbrev pub dict_of_pairs : List Pair → Result Plain Refused
dict_of_pairs pairs = within_limits (dict (fields_of_pairs pairs))

abbrev pub dict_of : List Plain → Result Plain Refused
dict_of args =
    if not (are_pairs args) then Err BadArgument
    else if not (list_all has_key (pairs_in args)) then Err BadIndex
    else dict_of_pairs (pairs_in args)
