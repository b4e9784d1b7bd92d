use Rattle.std.proofs.Common.{◌≡◌, ◌++◌, map, drop}
use Rattle.engine_turns.specs.Entering.{entry_pair}
use Rattle.rebuild.specs.Keeping.{kept_entries}
use Rattle.rebuild.proofs.keeping.kept_entries.Given as goal

abbrev pub invariant-loop-at : goal.invariant-loop-at
invariant-loop-at g l = map entry_pair l.made.items ++ kept_entries l.rows (drop l.at l.objects)
    ≡ kept_entries l.rows l.objects
