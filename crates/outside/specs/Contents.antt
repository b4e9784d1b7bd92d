-- The bytes that a sink holds, where it tells them.
use Rattle.std.specs.Prelude.{◌≡◌, ℕ, List, ◌++◌, take, Option, option_map}

-- all the bytes are appended
abbrev pub Appends : Option (List ℕ) → List ℕ → Option (List ℕ) → Type 0
Appends old bytes new = new ≡ option_map (λ held. held ++ bytes) old

-- some first part of them is
abbrev pub AppendsPart : Option (List ℕ) → List ℕ → Option (List ℕ) → Type 0
AppendsPart old bytes new = (n : ℕ) × (new ≡ option_map (λ held. held ++ take n bytes) old)
