-- Where the entry of a name stands among others.
use Rattle.std.specs.Prelude.{ℕ, ◌+◌, List, [], ◌∷◌, Option, Some, None, bytes_eq, if◌then◌else◌}
use Rattle.path_tree.specs.Plain.{undef}
use Rattle.dml_meaning.specs.declared.local.Local.{Local}

-- n: how many entries stand before
abbrev pub place_from : List ℕ → ℕ → List Local → Option ℕ
place_from x n [] = None
place_from x n (l ∷ ls) = if bytes_eq l.name x then Some n else place_from x (n + 1) ls

-- a name keeps its place without its value
abbrev pub emptied : List ℕ → List Local → List Local
emptied x [] = []
emptied x (l ∷ ls) =
    if bytes_eq l.name x then record l { value = undef } ∷ ls else l ∷ emptied x ls
