-- The rows of `key`, `length` and `clone`.
use Rattle.std.specs.Prelude.{ℕ, ℤ, pos, negsuc, List, [], ◌∷◌, length, Option, Some, None, option_and_then, Result, Ok, Err}
use Rattle.std.specs.Str.{chars}
use Rattle.base.specs.Answers.{given}
use Rattle.path_tree.specs.Find.{field_count, field_key_at, item_count}
use Rattle.path_tree.specs.Plain.{Plain, dict, list, text, long}
use Rattle.path_tree.specs.declared.refused.Refused.{Refused}
use Rattle.call_values.specs.Positions.{number}
use Rattle.path_tree.specs.declared.refused.Refused.TheVariants.{BadArgument, BadIndex}

-- a number from 0
abbrev pub natural : ℤ → Option ℕ
natural (pos n) = Some n
natural (negsuc n) = None

-- the key at n in byte order
abbrev pub key_of : List Plain → Result Plain Refused
key_of (dict fs ∷ long n ∷ []) =
    given BadIndex (option_and_then (λ i. field_key_at i fs) (natural n)) (λ k. Ok (text k))
key_of _ = Err BadArgument

-- how many characters, items or fields
abbrev pub length_of : List Plain → Result Plain Refused
length_of (text t ∷ []) = Ok (number (length (chars t)))
length_of (list ts ∷ []) = Ok (number (item_count ts))
length_of (dict fs ∷ []) = Ok (number (field_count fs))
length_of _ = Err BadArgument

abbrev pub clone_of : List Plain → Result Plain Refused
clone_of (v ∷ []) = Ok v
clone_of _ = Err BadArgument
