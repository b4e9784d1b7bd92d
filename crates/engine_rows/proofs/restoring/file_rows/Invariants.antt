use Rattle.std.proofs.Common.{◌≡◌, ◌++◌, map}
use Rattle.engine_rows.specs.Restoring.{file_row}
use Rattle.engine_rows.proofs.restoring.file_rows.Given as goal

abbrev pub invariant-loop-file : goal.invariant-loop-file
invariant-loop-file l = l.rows.items ++ map file_row l.file-iterator.rest.items
    ≡ map file_row l.fn.files.items
