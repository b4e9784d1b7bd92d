-- Functions by their names.
use Rattle.std.specs.Prelude.{ℕ, List, [], ◌∷◌, Option, Some, None, bytes_eq, if◌then◌else◌}

-- what stands beside a name in a table
abbrev pub found_in : {A : Type 0} → List (List ℕ × A) → List ℕ → Option A
found_in [] name = None
found_in (entry ∷ entries) name =
    if bytes_eq name entry.0 then Some entry.1 else found_in entries name
