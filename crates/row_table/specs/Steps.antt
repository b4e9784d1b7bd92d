-- What a statement of the keeper does to a connection, and what its calls leave.
use Rattle.std.specs.Prelude.{◌≡◌, ◌⊎◌, ℕ, List, [], Result, Ok, Err, map, true, IsTrue}
use Rattle.sqlite_value.specs.Order.{Row}
use Rattle.sqlite.specs.declared.error.Error.{Error}
use Rattle.sqlite_trees.specs.Tree.{Trees}
use Rattle.sqlite.specs.Effect.{Database, IsDatabase}
use Rattle.sqlite.specs.State.{State, HasCleanDisk, KeepsCommit, Survives, IsUnchanged, IsRolledBack}
use Rattle.stored_rows.specs.declared.row.StoredRow.{StoredRow}
use Rattle.keepers.specs.Keeping.{Change}
use Rattle.stored_rows.specs.Rows.{bytes_under, row_name, are_rising}
use Rattle.row_table.specs.Table.{row_schema, no_schema}
use Rattle.row_table.specs.Rows.{held, rows_in, AreNumbered, ends, spelled}

-- a transaction over a sound database that has the keeper's table and nothing else
pub record IsReady (s : State) : Type 0 where
  pub schema : s.now.schema ≡ row_schema
  pub sound : IsDatabase s.now
  pub inside : IsTrue s.in_transaction
  pub numbered : AreNumbered (s.now.trees 0)

pub record Edits (f : Change) (old new : State) : Type 0 where
  pub ready : IsReady new
  pub rows : (n : List ℕ) → held (new.now.trees 0) n ≡ f n (held (old.now.trees 0) n)

-- the change was made, on a disk that is clean to the end
abbrev pub Makes : Change → State → State → Type 0
Makes f old new = HasCleanDisk new → IsReady old → Edits f old new

-- nothing was committed, and a crash leaves what it left before
pub record IsStep (old new : State) : Type 0 where
  pub kept : HasCleanDisk new → KeepsCommit old new
  pub survives : Survives old new (λ _. ⊥)

-- between transactions, an open connection over the keeper's table
pub record IsWhole (s : State) : Type 0 where
  pub is_open : IsTrue s.is_open
  pub schema : s.now.schema ≡ row_schema
  pub sound : IsDatabase s.now
  pub numbered : AreNumbered (s.now.trees 0)
  pub settled : s.now ≡ s.committed

abbrev pub IsOurs : State → Type 0
IsOurs s = HasCleanDisk s → IsWhole s

-- a database with the keeper's table, whose names hold what the change makes of what they held; a
-- missing table held nothing
pub record Holds (f : Change) (s : State) (trees : Trees) : Type 0 where
  pub db : Database
  pub is : trees ≡ db.trees
  pub sound : IsDatabase db
  pub schema : db.schema ≡ row_schema
  pub rows : (n : List ℕ) → held (rows_in db) n ≡ f n (held (rows_in s.now) n)

-- a transaction over a database that has nothing in it
pub record IsBare (s : State) : Type 0 where
  pub schema : s.now.schema ≡ no_schema
  pub inside : IsTrue s.in_transaction

-- the keeper's table, with no row in it
pub record IsNew (s : State) : Type 0 where
  pub ready : IsReady s
  pub none : s.now.trees 0 ≡ []

pub record IsMade (db : Database) : Type 0 where
  pub schema : db.schema ≡ row_schema
  pub none : db.trees 0 ≡ []

-- where it is still open, all rows are as they were
abbrev pub StaysAs : State → State → Type 0
StaysAs old new = HasCleanDisk new → IsTrue new.is_open → IsTrue old.is_open × (new.now ≡ old.now)

-- a query leaves the connection as it was, or a failure took the transaction back
abbrev pub IsReading : {T : Type 0} → State → State → Result T Error → Type 0
IsReading old new (Ok rows) = IsUnchanged old new
IsReading old new (Err e) = IsUnchanged old new ⊎ IsRolledBack old new

-- the rows of the answer, read as names that rise and their bytes, are what the table holds
abbrev pub Spells : State → List Row → Type 0
Spells s rows = (into : List StoredRow) → map spelled into ≡ map ends rows
    → are_rising (map row_name into) ≡ true
    → (n : List ℕ) → held (s.now.trees 0) n ≡ bytes_under into n
