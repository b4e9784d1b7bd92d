-- What a keeper tells, and what becomes of it where rows are kept in place of others.
use Rattle.std.specs.Prelude.{ℕ, List, Option}
use Rattle.keepers.specs.Keeping.{Follows, Lists, replaced}
use Rattle.keepers.specs.declared.keeper.Keeper as keeper
use Rattle.outside.specs.Cells.{Cell}
use Rattle.row_changes.specs.Differing.{gone_from, set_from}
use Rattle.stored_rows.specs.declared.row.StoredRow.{StoredRow}

-- the file that a keeper was opened with, what it tells of its rows, and how often it failed
pub record Store : Type 0 where
  pub opened : Option (List ℕ)
  pub cell : List ℕ → Cell
  pub count : ℕ

abbrev pub store_of : {K : Type 0} → keeper.Ghosts K → K → Store
store_of K k = record { opened = K.opened k; cell = K.cell k; count = K.fault_count k }

-- what differs between the rows last kept and the wanted ones was changed, and nothing else: it
-- holds the wanted rows
pub record Saves (last wanted : List StoredRow) (old new : List ℕ → Cell) : Type 0 where
  pub changed : Follows (replaced (gone_from last wanted) (set_from last wanted)) old new
  pub holds : Lists old last → Lists new wanted
