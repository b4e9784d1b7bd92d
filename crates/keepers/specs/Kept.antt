-- A keeper in memory: its rows, in byte order of their names.
use Rattle.std.specs.Prelude.{ℕ, List, Option, Some}
use Rattle.outside.specs.Cells.{Cell}
use Rattle.stored_rows.specs.declared.row.StoredRow.{StoredRow}
use Rattle.stored_rows.specs.Rows.{bytes_under}

pub record Stock : Type 0 where
  pub opened : Option (List ℕ)  -- the file that it was opened with
  pub rows : List StoredRow

-- what such a keeper tells of a name
abbrev pub cell_of : List StoredRow → List ℕ → Cell
cell_of rows n = Some (bytes_under rows n)
