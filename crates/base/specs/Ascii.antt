-- Classes of ASCII bytes.
use Rattle.std.specs.Prelude.{ℕ, Bool, nat_le, ◌&&◌, ◌||◌}
use Rattle.base.specs.Characters.{digit_0, digit_7, digit_9, upper_A, upper_F, upper_Z, lower_a, lower_f, lower_z}

-- from low to high, both included
abbrev pub between : ℕ → ℕ → ℕ → Bool
between low high byte = nat_le low byte && nat_le byte high

abbrev pub is_letter : ℕ → Bool
is_letter byte = between upper_A upper_Z byte || between lower_a lower_z byte

abbrev pub is_digit : ℕ → Bool
is_digit byte = between digit_0 digit_9 byte

abbrev pub is_octal_digit : ℕ → Bool
is_octal_digit byte = between digit_0 digit_7 byte

abbrev pub is_lower_hexadecimal_digit : ℕ → Bool
is_lower_hexadecimal_digit byte = is_digit byte || between lower_a lower_f byte

abbrev pub is_hexadecimal_digit : ℕ → Bool
is_hexadecimal_digit byte =
    is_digit byte || between upper_A upper_F byte || between lower_a lower_f byte
