-- Texts as keys: a key that stands for any text, and the way back.
use Rattle.std.specs.Prelude.{ℕ, ◌+◌, ◌*◌, ◌/◌, ◌%◌, Bool, List, [], ◌∷◌, ◌++◌, ◌==◌, ◌&&◌, ◌||◌, flat_map, if◌then◌else◌}
use Rattle.std.specs.Char.{digit_char, digit_value}
use Rattle.base.specs.Ascii.{is_digit, is_letter, is_lower_hexadecimal_digit}
use Rattle.base.specs.Characters.{underscore}

-- _ and two lower-case hexadecimal digits
abbrev pub escaped_byte : ℕ → List ℕ
escaped_byte c = underscore ∷ digit_char (c / 16) ∷ digit_char (c % 16) ∷ []

-- each byte that is no ASCII letter or digit is escaped
abbrev pub escape_rest : List ℕ → List ℕ
escape_rest bytes =
    flat_map (λ c. if is_letter c || is_digit c then c ∷ [] else escaped_byte c) bytes

-- and a leading digit too; the empty text gives _
abbrev pub escape : List ℕ → List ℕ
escape [] = underscore ∷ []
escape (c ∷ cs) = (if is_letter c then c ∷ [] else escaped_byte c) ++ escape_rest cs

-- an escaped byte: _ and two hexadecimal digits
abbrev pub is_escape : ℕ → ℕ → ℕ → Bool
is_escape c a b = (c == underscore) && is_lower_hexadecimal_digit a && is_lower_hexadecimal_digit b

-- every _ with two lower-case hexadecimal digits replaced by that byte
abbrev pub unescape_rest : List ℕ → List ℕ
unescape_rest [] = []
unescape_rest (c ∷ []) = c ∷ []
unescape_rest (c ∷ a ∷ []) = c ∷ unescape_rest (a ∷ [])
unescape_rest (c ∷ a ∷ b ∷ cs) =
    if is_escape c a b then (16 * digit_value a + digit_value b) ∷ unescape_rest cs
    else (c ∷ unescape_rest (a ∷ b ∷ cs))

-- the text _ gives the empty text
abbrev pub unescape : List ℕ → List ℕ
unescape [] = []
unescape (c ∷ []) = if c == underscore then [] else (c ∷ [])
unescape (c ∷ d ∷ cs) = unescape_rest (c ∷ d ∷ cs)
