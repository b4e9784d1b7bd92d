-- Which names and rows differ between the rows last kept and those that are wanted.
use Rattle.std.specs.Prelude.{ℕ, List, [], ◌∷◌, map, Some, Bool, true, false, not, is_some, bytes_eq}
use Rattle.std.specs.List.{filter}
use Rattle.std.specs.Option.{option_eq}
use Rattle.stored_rows.specs.declared.row.StoredRow.{StoredRow}
use Rattle.stored_rows.specs.Rows.{row_name, bytes_under}

-- a row of that name is among them
abbrev pub has_name : List StoredRow → List ℕ → Bool
has_name rows n = is_some (bytes_under rows n)

-- the row is among them, with the same bytes
abbrev pub has_row : List StoredRow → StoredRow → Bool
has_row rows r = option_eq bytes_eq (bytes_under rows r.name) (Some r.bytes)

-- the names of rows that are not wanted any more
abbrev pub gone_from : List StoredRow → List StoredRow → List (List ℕ)
gone_from last wanted = filter (λ n. not (has_name wanted n)) (map row_name last)

-- the wanted rows that were not kept, or with other bytes
abbrev pub set_from : List StoredRow → List StoredRow → List StoredRow
set_from last wanted = filter (λ r. not (has_row last r)) wanted

-- no name is gone and no row set
abbrev pub is_nothing : List (List ℕ) → List StoredRow → Bool
is_nothing [] [] = true
is_nothing [] (r ∷ rs) = false
is_nothing (n ∷ ns) set = false
