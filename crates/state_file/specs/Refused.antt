-- Rows that no state has.
use Rattle.std.specs.Prelude.{ℕ, List}
use Rattle.outside.specs.Cells.{Cell}
use Rattle.kept_state.specs.Stored.{Stored}
use Rattle.stored_rows.specs.declared.row.StoredRow.{StoredRow}
use Rattle.record_rows.specs.Rows.{Give}
use Rattle.keepers.specs.Keeping.{Lists}
use Rattle.state_file.specs.declared.loading.LoadError.{LoadError}
use Rattle.state_file.specs.declared.loading.LoadError.TheVariants as errors

-- no state has these rows
abbrev pub GiveNothing : List StoredRow → Type 0
GiveNothing rows = (s : Stored) → Give rows s → ⊥

-- where rows were refused, the keeper lists rows that no state has
abbrev pub IsBad : LoadError → (List ℕ → Cell) → Type 0
IsBad errors.BadRows cell = (rows : List StoredRow) × Lists cell rows × GiveNothing rows
IsBad errors.Failed cell = Unit {0}
IsBad errors.Memory cell = Unit {0}
