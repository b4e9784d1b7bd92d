-- A shelf in memory as a map from names to bytes.
use Rattle.std.specs.Prelude.{ℕ, List, [], ◌∷◌, Option, Some, None, if◌then◌else◌, bytes_eq}
use Rattle.outside.specs.Cells.{Cell}
use Rattle.outside.specs.declared.sure_shelf.Held.{Held}

-- the bytes of the first entry with the name
abbrev pub kept : List Held → List ℕ → Option (List ℕ)
kept [] n = None
kept (h ∷ hs) n = if bytes_eq h.name n then Some h.bytes else kept hs n

-- what such a shelf tells of a name
abbrev pub cell_of : List Held → List ℕ → Cell
cell_of hs n = Some (kept hs n)

-- all entries with other names
abbrev pub without : List ℕ → List Held → List Held
without m [] = []
without m (h ∷ hs) = if bytes_eq h.name m then without m hs else h ∷ without m hs
