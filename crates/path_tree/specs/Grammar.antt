-- Keys, template names and indices, as lists of bytes.
use Rattle.std.specs.Prelude.{ℕ, ◌+◌, ◌-◌, ◌*◌, Bool, false, List, [], ◌∷◌, length, nat_le, nat_lt, ◌==◌, ◌&&◌, ◌||◌, not}
use Rattle.std.specs.List.{list_all, slice_split, fold}
use Rattle.base.specs.Ascii.{between, is_digit, is_letter}
use Rattle.base.specs.Characters.{digit_0, digit_1, digit_9, dot, minus_sign, plus_sign, slash, underscore}
use Rattle.base.specs.declared.limits.TheConstants.{MAX_KEY_BYTES, MAX_NAME_BYTES}

-- a letter, a digit, or one of _ . + -
abbrev pub is_key_byte : ℕ → Bool
is_key_byte c =
    is_letter c || is_digit c || (c == underscore) || (c == dot) || (c == plus_sign)
    || (c == minus_sign)

-- 1 to MAX_KEY_BYTES bytes: a letter or _, and then key bytes
abbrev pub is_key : List ℕ → Bool
is_key [] = false
is_key (c ∷ cs) =
    (is_letter c || (c == underscore)) && list_all is_key_byte cs
    && nat_le (length (c ∷ cs)) MAX_KEY_BYTES

-- one dot, or two
abbrev pub is_dots : List ℕ → Bool
is_dots [] = false
is_dots (c ∷ []) = c == dot
is_dots (c ∷ d ∷ []) = (c == dot) && (d == dot)
is_dots (c ∷ d ∷ e ∷ cs) = false

-- a segment of a template name: one or more key bytes, but not . or ..
abbrev pub is_segment : List ℕ → Bool
is_segment bytes = nat_lt 0 (length bytes) && list_all is_key_byte bytes && not (is_dots bytes)

-- 1 to MAX_NAME_BYTES bytes: segments joined by /
abbrev pub is_name : List ℕ → Bool
is_name bytes =
    nat_le (length bytes) MAX_NAME_BYTES
    && list_all is_segment (slice_split (λ c. c == slash) bytes)

-- decimal digits without a leading zero, at most 999,999
abbrev pub is_index : List ℕ → Bool
is_index [] = false
is_index (c ∷ []) = is_digit c
is_index (c ∷ d ∷ cs) =
    between digit_1 digit_9 c && list_all is_digit (d ∷ cs) && nat_lt (length cs) 5

-- the number that decimal digits give
abbrev pub number_of : List ℕ → ℕ
number_of digits = fold (λ n c. 10 * n + (c - digit_0)) 0 digits
