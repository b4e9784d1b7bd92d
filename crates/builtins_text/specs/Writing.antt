-- A text that a call adds where there is one.
use Rattle.std.specs.Prelude.{ℕ, List, Option, Some, None}
use Rattle.call_values.specs.Drafts.{Adds}

-- there is a text, and it is added behind what was drafted
abbrev pub Writes : Option (List ℕ) → Option (List ℕ) → Option (List ℕ) → Type 0
Writes None old new = ⊥
Writes (Some t) old new = Adds old new t
