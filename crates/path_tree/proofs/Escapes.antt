-- Escaped texts are read back.
use Rattle.std.proofs.Common.{◌≡◌, ℕ, suc, ◌+◌, ◌*◌, ◌/◌, ◌%◌, ◌<◌, ◌≤◌, Bool, true, false, cond, List, [], ◌∷◌, ◌++◌, length, get_or, drop, ◌==◌, ◌&&◌, ◌||◌, refl, ap, ◌∙◌, arith}
use Rattle.std.specs.Char.{digit_char, digit_value}
use Rattle.std.proofs.lemmas.Bool.Decides.{nat_tests}
use Rattle.base.specs.Ascii.{is_digit, is_letter, is_lower_hexadecimal_digit}
use Rattle.base.specs.Characters.{underscore}
use Rattle.path_tree.specs.Escape.{escape, escape_rest, escaped_byte, unescape, unescape_rest}
use Rattle.path_tree.specs.Reading.{begins_escaped}

-- an escaped byte
pub record Escaped (ks : List ℕ) : Type 0 where
  pub long : 3 ≤ length ks
  pub high : is_lower_hexadecimal_digit (get_or ks 1 0) ≡ true
  pub low : is_lower_hexadecimal_digit (get_or ks 2 0) ≡ true
  pub rest : unescape_rest ks
      ≡ (16 * digit_value (get_or ks 1 0) + digit_value (get_or ks 2 0)) ∷ unescape_rest (drop 3 ks)

first : (p q : Bool) → (p && q) ≡ true → p ≡ true
first true q h = refl
first false q h = cc

second : (p q : Bool) → (p && q) ≡ true → q ≡ true
second true q h = h
second false q h = cc

pub escaped : (ks : List ℕ) → begins_escaped ks ≡ true → Escaped ks
escaped [] h = cc
escaped (c ∷ []) h = cc
escaped (c ∷ a ∷ []) h = cc
escaped (c ∷ a ∷ b ∷ cs) h = record {
  long = omega arith;
  high = second (c == underscore) (is_lower_hexadecimal_digit a)
      (first ((c == underscore) && is_lower_hexadecimal_digit a) (is_lower_hexadecimal_digit b) h);
  low = second ((c == underscore) && is_lower_hexadecimal_digit a) (is_lower_hexadecimal_digit b) h;
  rest = rw h refl;
}

-- the law
hex_digit : (d : ℕ) → d < 16 → is_lower_hexadecimal_digit (digit_char d) ≡ true
hex_digit d h = grind (arith, nat_tests)

hex_number : (d : ℕ) → d < 16 → digit_value (digit_char d) ≡ d
hex_number d h = grind (arith, nat_tests)

escaped_is : (c : ℕ) → c < 256 → (r : List ℕ) → unescape_rest (escaped_byte c ++ r)
    ≡ c ∷ unescape_rest r
escaped_is c h r =
    let high : c / 16 < 16 = omega arith in
    let low : c % 16 < 16 = omega arith in
    let is : 16 * (c / 16) + c % 16 ≡ c = omega arith in
    rw (
      hex_digit (c / 16) high,
      hex_digit (c % 16) low,
      hex_number (c / 16) high,
      hex_number
          (c % 16) low,
      is,
    ) refl

plain : (c : ℕ) (r : List ℕ) → (c == underscore) ≡ false → unescape_rest (c ∷ r)
    ≡ c ∷ unescape_rest r
plain c [] h = refl
plain c (a ∷ []) h = refl
plain c (a ∷ b ∷ cs) h = rw h refl

no_mark : (c : ℕ) → (is_letter c || is_digit c) ≡ true → (c == underscore) ≡ false
no_mark c h = grind (arith, nat_tests)

-- bytes
abbrev pub AreBytes : List ℕ → Type 0
AreBytes [] = Unit {0}
AreBytes (c ∷ cs) = (c < 256) × AreBytes cs

one : (b : Bool) (c : ℕ) (r : List ℕ) → c < 256 → (b ≡ true → (c == underscore) ≡ false)
    → unescape_rest (cond b (c ∷ []) (escaped_byte c) ++ r) ≡ c ∷ unescape_rest r
one true c r h plain_if = plain c r (plain_if refl)
one false c r h plain_if = escaped_is c h r

rest_undone : (cs : List ℕ) → AreBytes cs → unescape_rest (escape_rest cs) ≡ cs
rest_undone [] h = refl
rest_undone (c ∷ cs) h =
    one (is_letter c || is_digit c) c (escape_rest cs) h.0 (no_mark c)
    ∙ ap (λ ds. c ∷ ds) (rest_undone cs h.1)

letter_plain : (c : ℕ) → is_letter c ≡ true → (c == underscore) ≡ false
letter_plain c h = grind (arith, nat_tests)

long : (c d : ℕ) (r : List ℕ) → unescape (c ∷ d ∷ r) ≡ unescape_rest (c ∷ d ∷ r)
long c d r = refl

-- one byte that is no mark
short : (c : ℕ) (r : List ℕ) → (c == underscore) ≡ false → unescape (c ∷ r) ≡ unescape_rest (c ∷ r)
short c [] h = rw h refl
short c (d ∷ r) h = refl

begun : (b : Bool) (c : ℕ) (r : List ℕ) → (b ≡ true → (c == underscore) ≡ false)
    → unescape (cond b (c ∷ []) (escaped_byte c) ++ r)
    ≡ unescape_rest (cond b (c ∷ []) (escaped_byte c) ++ r)
begun true c r h = short c r (h refl)
begun false c r h = refl

pub undone : (t : List ℕ) → AreBytes t → unescape (escape t) ≡ t
undone [] h = refl
undone (c ∷ cs) h = begun (is_letter c) c (escape_rest cs) (letter_plain c)
    ∙ one (is_letter c) c (escape_rest cs) h.0 (letter_plain c)
    ∙ ap (λ ds. c ∷ ds) (rest_undone cs h.1)

pub are_bytes : (cs : List ℕ) → ((i : ℕ) → i < length cs → get_or cs i 0 < 256) → AreBytes cs
are_bytes [] h = tt
are_bytes (c ∷ cs) h = (h 0 (omega arith), are_bytes cs (λ i lt. h (suc i) (omega arith)))
