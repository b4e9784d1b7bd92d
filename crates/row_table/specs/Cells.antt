-- What a connection tells of each row name, and what becomes of it.
use Rattle.std.specs.Prelude.{◌≡◌, ℕ, List, Some, None, Bool, true, false, IsTrue, ◌&&◌, if◌then◌else◌}
use Rattle.sqlite.specs.State.{State, HasCleanDisk}
use Rattle.keepers.specs.Keeping.{Change, unchanged}
use Rattle.outside.specs.Cells.{Cell}
use Rattle.row_table.specs.Rows.{held, rows_in}

-- an open connection, whose disk has returned what was written, tells what its database holds
abbrev pub cells : State → List ℕ → Cell
cells s n = if s.is_open && s.is_clean then Some (held (rows_in s.now) n) else None

-- where it is still open, each name holds what the change makes of it
abbrev pub Turns : Change → State → State → Type 0
Turns f old new = HasCleanDisk new → IsTrue new.is_open → IsTrue old.is_open
    × ((n : List ℕ) → held (rows_in new.now) n ≡ f n (held (rows_in old.now) n))

-- the change was made, or nothing
abbrev pub TurnsIf : Bool → Change → State → State → Type 0
TurnsIf true f old new = Turns f old new
TurnsIf false f old new = Turns unchanged old new
