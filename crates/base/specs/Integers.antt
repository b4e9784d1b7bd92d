-- Integers as texts: hexadecimal behind 0x, octal behind 0, or decimal.
use Rattle.std.specs.Prelude.{ℕ, ◌+◌, ◌-◌, ◌*◌, ◌^◌, min, ◌==◌, ◌&&◌, List, [], ◌∷◌, length, nat_lt, fold, Option, Some, None, if◌then◌else◌}
use Rattle.std.specs.Char.{digit_value, is_digit}
use Rattle.std.specs.List.{list_all}
use Rattle.base.specs.Characters.{digit_0, lower_x}

-- the number that digits of a base spell
abbrev pub digits_value : ℕ → List ℕ → ℕ
digits_value base digits = fold (λ n digit. n * base + digit_value digit) 0 digits

-- the number of a text of one or more digits of a base
abbrev pub numeral_of : ℕ → List ℕ → Option ℕ
numeral_of base text =
    if nat_lt 0 (length text) && list_all (λ c. is_digit c base) text
    then Some (digits_value base text) else None

-- what follows a 0
abbrev pub behind_zero : List ℕ → Option ℕ
behind_zero [] = Some 0
behind_zero (c ∷ cs) = if c == lower_x then numeral_of 16 cs else numeral_of 8 (c ∷ cs)

-- the number of a text that is an integer
abbrev pub integer_of : List ℕ → Option ℕ
integer_of [] = None
integer_of (c ∷ cs) = if c == digit_0 then behind_zero cs else numeral_of 10 (c ∷ cs)

-- a number as an unsigned integer of 64 bits, where a larger one becomes the largest
abbrev pub saturated : ℕ → ℕ
saturated n = min n (2 ^ 64 - 1)
