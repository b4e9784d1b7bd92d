-- What stands under the names of a shelf some of whose calls failed.
use Rattle.std.specs.Prelude.{◌≡◌, ℕ, List, Option, is_some}
use Rattle.outside.specs.Cells.{Cell, with_content}

-- What stands under a name: what stood there at the start, these bytes or none, or nobody can say.
pub data Stand : Type 0 where
  AtStart : Stand
  Has : Option (List ℕ) → Stand
  Unspecified : Stand

-- what the shelf tells of a name now, from what it told at the start
abbrev pub Meets : Stand → Cell → Cell → Type 0
Meets AtStart start now = now ≡ start
Meets (Has content) start now = now ≡ with_content content start
Meets Unspecified start now = is_some now ≡ is_some start

-- of each name
abbrev pub Stands : (List ℕ → Stand) → (List ℕ → Cell) → (List ℕ → Cell) → Type 0
Stands shelf start now = (n : List ℕ) → Meets (shelf n) (start n) (now n)

-- nothing was changed
abbrev pub untouched : List ℕ → Stand
untouched n = AtStart
