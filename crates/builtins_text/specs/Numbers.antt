-- The row of `to_long`.
use Rattle.std.specs.Prelude.{ℕ, ℤ, pos, neg_ℤ, ◌==◌, List, [], ◌∷◌, Option, None, option_map, Result, Ok, Err, if◌then◌else◌}
use Rattle.base.specs.Answers.{given}
use Rattle.base.specs.Characters.{minus_sign, plus_sign}
use Rattle.base.specs.Integers.{integer_of}
use Rattle.path_tree.specs.Plain.{Plain, text, long, boolean}
use Rattle.path_tree.specs.Values.{within_64_bits}
use Rattle.path_tree.specs.declared.refused.Refused.{Refused}
use Rattle.path_tree.specs.declared.refused.Refused.TheVariants.{BadArgument}

-- the number of an integer behind an optional sign
abbrev pub signed_of : List ℕ → Option ℤ
signed_of [] = None
signed_of (c ∷ cs) =
    if c == minus_sign then option_map (λ n. neg_ℤ (pos n)) (integer_of cs)
    else if c == plus_sign then option_map pos (integer_of cs)
    else option_map pos (integer_of (c ∷ cs))

abbrev pub to_long_of : List Plain → Result Plain Refused
to_long_of (long z ∷ []) = Ok (long z)
to_long_of (boolean b ∷ []) = Ok (long (pos (if b then 1 else 0)))
to_long_of (text t ∷ []) = given BadArgument (signed_of t) within_64_bits
to_long_of _ = Err BadArgument
