use Rattle.std.proofs.Common.{◌≡◌, ◌++◌, drop}
use Rattle.rebuild.specs.Reaching.{changed_files}
use Rattle.rebuild.proofs.reaching.add_changed.Given as goal

abbrev pub invariant-loop-at : goal.invariant-loop-at
invariant-loop-at l = l.moved.items ++ changed_files (drop l.at l.files) l.others ≡ l.fn.moved.items
    ++ changed_files l.files l.others
