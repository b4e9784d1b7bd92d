-- The last line of a text.
use Rattle.std.specs.Prelude.{ℕ, Bool, false, List, [], ◌∷◌, ◌||◌, nat_eq, if◌then◌else◌}

-- a line ends in the text, and another one follows
abbrev pub has_lines : List ℕ → Bool
has_lines [] = false
has_lines (b ∷ []) = false
has_lines (b ∷ c ∷ bs) = nat_eq b 10 || has_lines (c ∷ bs)

abbrev pub last_line : List ℕ → List ℕ
last_line [] = []
last_line (b ∷ bs) = if has_lines (b ∷ bs) then last_line bs else b ∷ bs
