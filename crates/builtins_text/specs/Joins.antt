-- The row of `join`.
use Rattle.std.specs.Prelude.{Bool, ℕ, List, [], ◌∷◌, ◌++◌, map, Result, Err, is_some, unwrap_or, if◌then◌else◌}
use Rattle.std.specs.List.{flat_map, list_all}
use Rattle.path_tree.specs.Find.{text_of}
use Rattle.path_tree.specs.Lists.{items_in}
use Rattle.path_tree.specs.Plain.{Plain, list, text}
use Rattle.path_tree.specs.Values.{text_value}
use Rattle.path_tree.specs.declared.refused.Refused.{Refused}
use Rattle.path_tree.specs.declared.refused.Refused.TheVariants.{BadArgument}

-- the texts in a row, each but the first behind t
abbrev pub joined : List ℕ → List (List ℕ) → List ℕ
joined t [] = []
joined t (x ∷ xs) = x ++ flat_map (λ y. t ++ y) xs

abbrev pub is_text : Plain → Bool
is_text v = is_some (text_of v)

-- the text that a value is, if it is one
abbrev pub text_or_nothing : Plain → List ℕ
text_or_nothing v = unwrap_or (text_of v) []

-- the texts joined by t
abbrev pub join_texts : List ℕ → List Plain → Result Plain Refused
join_texts t vs =
    if list_all is_text vs then text_value (joined t (map text_or_nothing vs))
    else Err BadArgument

-- a value that stands alone: the items of a list, or itself
abbrev pub values_alone : Plain → List Plain
values_alone (list vs) = items_in vs
values_alone v = v ∷ []

-- the values to be joined: those of a list that stands alone, or the arguments
abbrev pub joined_values : List Plain → List Plain
joined_values [] = []
joined_values (v ∷ []) = values_alone v
joined_values (v ∷ w ∷ vs) = v ∷ w ∷ vs

abbrev pub join_of : List Plain → Result Plain Refused
join_of (text t ∷ vs) = join_texts t (joined_values vs)
join_of _ = Err BadArgument
