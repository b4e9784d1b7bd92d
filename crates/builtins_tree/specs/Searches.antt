-- The row of `index`.
use Rattle.std.specs.Prelude.{ℕ, ◌+◌, ℤ, pos, negsuc, List, [], ◌∷◌, drop, length, nat_eq, Option, Some, None, Result, Ok, Err, encode_utf8_all, if◌then◌else◌}
use Rattle.std.specs.List.{starts_with}
use Rattle.std.specs.Str.{chars}
use Rattle.base.specs.Answers.{given}
use Rattle.path_tree.specs.Find.{kind_of}
use Rattle.path_tree.specs.Lists.{items_in}
use Rattle.path_tree.specs.Plain.{Plain, dict, list, text, long, Fields, no_fields, field}
use Rattle.path_tree.specs.Same.{same_tree}
use Rattle.path_tree.specs.Values.{text_value}
use Rattle.path_tree.specs.declared.refused.Refused.{Refused}
use Rattle.path_tree.specs.declared.refused.Refused.TheVariants.{BadArgument, BadIndex}
use Rattle.call_values.specs.Positions.{number, position_in}
use Rattle.builtins_tree.specs.Kinds.{is_property}

-- the place, or -1
abbrev pub place_or_less : Option ℕ → Plain
place_or_less None = long (negsuc 0)
place_or_less (Some n) = number n

-- the first place at or after i from which on the characters spell a text that begins with x
abbrev pub found_text : List ℕ → ℕ → List ℕ → Option ℕ
found_text x i [] = if starts_with nat_eq [] x then Some i else None
found_text x i (c ∷ cs) =
    if starts_with nat_eq (encode_utf8_all (c ∷ cs)) x then Some i else found_text x (i + 1) cs

-- the first place at or after i of an item that equals x
abbrev pub found_item : Plain → ℕ → List Plain → Option ℕ
found_item x i [] = None
found_item x i (t ∷ ts) = if same_tree x t then Some i else found_item x (i + 1) ts

-- the least key whose value equals x, or the empty text
abbrev pub found_key : Plain → Fields → List ℕ
found_key x no_fields = []
found_key x (field k t fs) = if same_tree x t then k else found_key x fs

abbrev pub index_in_text : List ℕ → List ℕ → ℤ → Result Plain Refused
index_in_text x cs s =
    given BadIndex (position_in (length cs) s) (λ i.
    Ok (place_or_less (found_text x i (drop i cs))))

abbrev pub index_in_list : Plain → List Plain → ℤ → Result Plain Refused
index_in_list x ts s =
    given BadIndex (position_in (length ts) s) (λ i.
    Ok (place_or_less (found_item x i (drop i ts))))

abbrev pub index_from : Plain → Plain → ℤ → Result Plain Refused
index_from (text x) (text t) s = index_in_text x (chars t) s
index_from x (list ts) s =
    if is_property (kind_of x) then index_in_list x (items_in ts) s else Err BadArgument
index_from _ _ s = Err BadArgument

abbrev pub index_of : List Plain → Result Plain Refused
index_of (x ∷ dict fs ∷ []) =
    if is_property (kind_of x) then text_value (found_key x fs) else Err BadArgument
index_of (x ∷ t ∷ []) = index_from x t (pos 0)
index_of (x ∷ t ∷ long s ∷ []) = index_from x t s
index_of _ = Err BadArgument
