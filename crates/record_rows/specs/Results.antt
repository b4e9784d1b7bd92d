-- What a reading of rows returns.
use Rattle.std.specs.Prelude.{◌≡◌, Option, Some, None, Result, Ok, Err}
use Rattle.record_rows.specs.declared.error.RowsError.{RowsError}
use Rattle.record_rows.specs.declared.error.RowsError.TheVariants as errors

-- rows are refused exactly where nothing is there to be read, unless memory was wanting
abbrev pub Fails : {Y : Type 0} → RowsError → Option Y → Type 0
Fails errors.Memory read = Unit {0}
Fails errors.BadRows read = read ≡ None

-- what was returned, seen by view, is what is there to be read
abbrev pub Reads : {X Y : Type 0} → (X → Y) → Result X RowsError → Option Y → Type 0
Reads view (Ok x) read = read ≡ Some (view x)
Reads view (Err e) read = Fails e read
