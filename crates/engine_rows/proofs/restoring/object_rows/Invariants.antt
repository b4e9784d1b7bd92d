use Rattle.std.proofs.Common.{◌≡◌, ◌++◌, map}
use Rattle.engine_rows.specs.Restoring.{restored_row}
use Rattle.engine_rows.proofs.restoring.object_rows.Given as goal

abbrev pub invariant-loop-object : goal.invariant-loop-object
invariant-loop-object g l =
    l.rows.items ++ map restored_row l.object-iterator.rest.items
    ≡ map restored_row l.fn.objects.items
