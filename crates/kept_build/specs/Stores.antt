-- What was loaded from a keeper, and what is kept in its place.
use Rattle.std.specs.Prelude.{ℕ, List, Option, Some, None}
use Rattle.keepers.specs.Keeping.{Follows, Lists, unchanged}
use Rattle.outside.specs.Cells.{Cell}
use Rattle.kept_state.specs.Stored.{Stored}
use Rattle.record_rows.specs.Rows.{Give}
use Rattle.state_file.specs.Refused.{GiveNothing}
use Rattle.stored_rows.specs.declared.row.StoredRow.{StoredRow}
pub use Rattle.row_changes.specs.Stores.{Saves, Store, store_of}

-- the keeper held these rows, and they give this
pub record Loads (last : List StoredRow) (found : Stored) (cell : List ℕ → Cell) : Type 0 where
  pub listed : Lists cell last
  pub gives : Give last found

-- the keeper holds rows that give nothing
abbrev pub HoldsBadRows : (List ℕ → Cell) → Type 0
HoldsBadRows cell = (rows : List StoredRow) × Lists cell rows × GiveNothing rows

-- the rows that are wanted, if any are, were kept
abbrev pub Keeps : List StoredRow → Option (List StoredRow) → (List ℕ → Cell) → (List ℕ → Cell)
    → Type 0
Keeps last None old new = Follows unchanged old new
Keeps last (Some wanted) old new = Saves last wanted old new
