-- The row of `splice`.
use Rattle.std.specs.Prelude.{ℕ, ◌+◌, ◌-◌, ℤ, List, [], ◌∷◌, ◌++◌, take, drop, length, Option, option_and_then, option_map, Result, Err, encode_utf8_all}
use Rattle.std.specs.Str.{chars}
use Rattle.base.specs.Answers.{given}
use Rattle.path_tree.specs.Lists.{items_in, list_of}
use Rattle.path_tree.specs.Plain.{Plain, list, text, long}
use Rattle.path_tree.specs.Values.{text_value}
use Rattle.path_tree.specs.declared.refused.Refused.{Refused}
use Rattle.path_tree.specs.declared.refused.Refused.TheVariants.{BadArgument, BadIndex}
use Rattle.call_values.specs.Positions.{position_in}

-- a part that begins at s and has n of so many items: the start and the count
abbrev pub part_in : ℕ → ℤ → ℤ → Option (ℕ × ℕ)
part_in length s n =
    option_and_then (λ i. option_map (λ k. (i, k)) (position_in (length - i) n))
    (position_in length s)

-- the items with ys in the place of those of a part
abbrev pub replaced : {A : Type 0} → ℕ × ℕ → List A → List A → List A
replaced part ys xs = take part.0 xs ++ (ys ++ drop (part.0 + part.1) xs)

abbrev pub spliced_list : List Plain → ℤ → ℤ → List Plain → Result Plain Refused
spliced_list xs s n ys =
    given BadIndex (part_in (length xs) s n) (λ part. list_of (replaced part ys xs))

abbrev pub spliced_text : List ℕ → ℤ → ℤ → List ℕ → Result Plain Refused
spliced_text cs s n ds =
    given BadIndex (part_in (length cs) s n) (λ part.
    text_value (encode_utf8_all (replaced part ds cs)))

abbrev pub splice_of : List Plain → Result Plain Refused
splice_of (list xs ∷ long s ∷ long n ∷ []) = spliced_list (items_in xs) s n []
splice_of (list xs ∷ long s ∷ long n ∷ list ys ∷ []) =
    spliced_list (items_in xs) s n (items_in ys)
splice_of (text t ∷ long s ∷ long n ∷ []) = spliced_text (chars t) s n []
splice_of (text t ∷ long s ∷ long n ∷ text u ∷ []) = spliced_text (chars t) s n (chars u)
splice_of _ = Err BadArgument
