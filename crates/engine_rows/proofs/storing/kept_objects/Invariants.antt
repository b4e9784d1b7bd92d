use Rattle.std.proofs.Common.{◌≡◌, ◌++◌, drop}
use Rattle.engine_rows.specs.Storing.{kept_rows}
use Rattle.engine_rows.proofs.storing.kept_objects.Given as goal

abbrev pub invariant-loop-row : goal.invariant-loop-row
invariant-loop-row g l = l.made.items ++ kept_rows (drop l.row-index l.rows) ≡ kept_rows l.rows
