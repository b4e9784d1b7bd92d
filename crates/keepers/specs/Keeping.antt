-- What a keeper tells of its row names, and what becomes of them.
use Rattle.std.specs.Prelude.{◌≡◌, ◌⊎◌, ℕ, List, [], ◌∷◌, Option, Some, None, IfSome, option_map, map, true, if◌then◌else◌, bytes_eq}
use Rattle.outside.specs.Cells.{Cell}
use Rattle.stored_rows.specs.declared.row.StoredRow.{StoredRow}
use Rattle.stored_rows.specs.Rows.{are_rising, bytes_under, row_name}

-- what becomes of the content of a name
abbrev pub Change : Type 0
Change = List ℕ → Option (List ℕ) → Option (List ℕ)

abbrev pub unchanged : Change
unchanged n content = content

abbrev pub gone : List ℕ → Change
gone name n content = if bytes_eq name n then None else content

abbrev pub set : List ℕ → List ℕ → Change
set name bytes n content = if bytes_eq name n then Some bytes else content

-- the names are taken out, one after the other
abbrev pub all_gone : List (List ℕ) → Change
all_gone [] n content = content
all_gone (name ∷ names) n content = all_gone names n (gone name n content)

-- the rows are set, one after the other
abbrev pub all_set : List StoredRow → Change
all_set [] n content = content
all_set (r ∷ rs) n content = all_set rs n (set r.name r.bytes n content)

-- first the names are taken out, then the rows are set
abbrev pub replaced : List (List ℕ) → List StoredRow → Change
replaced names rows n content = all_set rows n (all_gone names n content)

-- What is told now was told before, and this became of it.
abbrev pub Follows : Change → (List ℕ → Cell) → (List ℕ → Cell) → Type 0
Follows change old new =
    (n : List ℕ) → (new n ≡ None) ⊎ (new n ≡ option_map (change n) (old n))

-- all rows that are told, in byte order of their names
pub record Lists (cell : List ℕ → Cell) (rows : List StoredRow) : Type 0 where
  pub rise : are_rising (map row_name rows) ≡ true
  pub each : (n : List ℕ) → IfSome (cell n) (λ content. content ≡ bytes_under rows n)
