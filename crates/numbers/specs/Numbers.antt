-- Numbers in decimal digits without a leading zero.
use Rattle.std.specs.Prelude.{ℕ, ◌==◌, Bool, false, List, [], ◌∷◌, Option, Some, None, if◌then◌else◌, nat_eq, length}
use Rattle.std.specs.List.{list_all}
use Rattle.base.specs.Ascii.{is_digit}
use Rattle.base.specs.Characters.{digit_0}
use Rattle.base.specs.Integers.{digits_value}

-- one digit or more; a zero stands alone
abbrev pub is_number : List ℕ → Bool
is_number [] = false
is_number (c ∷ cs) = if c == digit_0 then nat_eq (length cs) 0 else list_all is_digit (c ∷ cs)

abbrev pub number_of : List ℕ → Option ℕ
number_of text = if is_number text then Some (digits_value 10 text) else None
