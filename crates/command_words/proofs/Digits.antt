-- Numbers that decimal digits spell, and those that 64 bits hold.
use Rattle.std.proofs.Common.{◌≡◌, ℕ, ◌≤◌, ◌<◌, ◌+◌, ◌*◌, ◌^◌, List, [], ◌∷◌, Some, None, true, false, nat_le, fold, refl, ap, sym, ◌∙◌, arith}
use Rattle.std.specs.Char.{digit_value}
use Rattle.command_words.specs.Commands.{within}
use Rattle.command_words.specs.declared.limits.TheConstants.{MAX_START}

abbrev pub with_digit : ℕ → ℕ → ℕ
with_digit n digit = n * 10 + digit_value digit

-- more digits spell no smaller number
grow : (n : ℕ) (digits : List ℕ) → n ≤ fold with_digit n digits
grow n [] = omega arith
grow n (d ∷ digits) = let more = grow (with_digit n d) digits in omega (arith, more)

pub too_large : (n d : ℕ) (digits rest : List ℕ) (value : ℕ) → digits ≡ d ∷ rest
    → fold with_digit n digits ≡ value → 2 ^ 64 ≤ n * 10 + digit_value d → None
    ≡ within 0 MAX_START (Some value)
too_large n d digits rest value split is over =
    let first : fold with_digit (with_digit n d) rest ≡ value =
    ap (fold with_digit n) (sym split) ∙ is in
    let more = grow (with_digit n d) rest in
    let not_within : nat_le value MAX_START ≡ false = grind (arith, first, more, over) in
    let low : nat_le 0 value ≡ true = grind arith in
    rw (low, not_within) refl

pub is_start : (n : ℕ) → n < 2 ^ 64 → Some n ≡ within 0 MAX_START (Some n)
is_start n small =
    let fits : nat_le n MAX_START ≡ true = grind (arith, small) in
    let low : nat_le 0 n ≡ true = grind arith in
    rw (low, fits) refl
