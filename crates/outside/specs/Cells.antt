-- What a shelf tells of its names.
use Rattle.std.specs.Prelude.{◌≡◌, ℕ, List, [], take, Option, Some, None, IfSome, is_some, option_map, Bool, true, false, if◌then◌else◌, bytes_eq}
use Rattle.std.specs.List.{list_any}

-- A shelf tells nothing of a name (None), or that it is absent (Some None), or its bytes (Some
-- (Some b)).
abbrev pub Cell : Type 0
Cell = Option (Option (List ℕ))

-- what it tells after the name got other bytes, or none
abbrev pub with_content : Option (List ℕ) → Cell → Cell
with_content content cell = option_map (λ _. content) cell

-- the name has this content, all other names are as they were
abbrev pub Sets : (List ℕ → Cell) → List ℕ → Option (List ℕ) → (List ℕ → Cell) → Type 0
Sets old name content new =
    (n : List ℕ) → new n ≡ (if bytes_eq name n then with_content content (old n) else old n)

-- the name is unspecified, all other names are as they were
abbrev pub AllBut : (List ℕ → Cell) → List ℕ → (List ℕ → Cell) → Type 0
AllBut old name new = (n : List ℕ) → bytes_eq name n ≡ false → new n ≡ old n

-- true and the first `most` bytes where they are there, else false and nothing
abbrev pub IsReadOf : ℕ → Bool → List ℕ → Option (List ℕ) → Type 0
IsReadOf most there into None = (there ≡ false) × (into ≡ [])
IsReadOf most there into (Some bytes) = (there ≡ true) × (into ≡ take most bytes)

-- the same names with the same contents
abbrev pub AreSame : (List ℕ → Cell) → (List ℕ → Cell) → Type 0
AreSame old new = (n : List ℕ) → new n ≡ old n

-- the names are those that are there, and no other
abbrev pub Names : (List ℕ → Cell) → List (List ℕ) → Type 0
Names cell names = (n : List ℕ) → IfSome (cell n) (λ content. is_some content
    ≡ list_any (λ m. bytes_eq m n) names)

-- what it tells of, it goes on telling of
abbrev pub TellsAsMuch : (List ℕ → Cell) → (List ℕ → Cell) → Type 0
TellsAsMuch old new = (n : List ℕ) → is_some (new n) ≡ is_some (old n)
