-- What the functions that read a path or an escaped text answer.
use Rattle.std.specs.Prelude.{false, ◌≡◌, ℕ, ◌+◌, ◌≤◌, Bool, List, length, [], ◌∷◌, ◌==◌, ◌&&◌, not, if◌then◌else◌, Option, Some, None}
use Rattle.base.specs.Characters.{slash}
use Rattle.base.specs.Parts.{bytes_from_to}
use Rattle.path_tree.specs.Escape.{is_escape}
use Rattle.path_tree.specs.Paths.{pieces, inside_after}

-- the bytes stand in a whole from this position on
pub record StandsAt (position : ℕ) (bytes whole : List ℕ) : Type 0 where
  pub within : position + length bytes ≤ length whole
  pub same : bytes_from_to position (position + length bytes) whole ≡ bytes

-- how many bytes stand before the first slash outside of braces
abbrev pub piece_length : Bool → List ℕ → ℕ
piece_length inside [] = 0
piece_length inside (c ∷ cs) =
    if (c == slash) && not inside then 0 else (piece_length (inside_after inside c) cs + 1)

abbrev pub optional_pieces : Option (List ℕ) → List (List ℕ)
optional_pieces None = []
optional_pieces (Some text) = pieces text

-- the first byte stands escaped
abbrev pub begins_escaped : List ℕ → Bool
begins_escaped [] = false
begins_escaped (c ∷ []) = false
begins_escaped (c ∷ a ∷ []) = false
begins_escaped (c ∷ a ∷ b ∷ cs) = is_escape c a b
