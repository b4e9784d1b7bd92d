use Rattle.std.proofs.Common.{◌≡◌, ◌++◌, drop}
use Rattle.engine_session.specs.KeptDeps.{asked_lines, item_lines}
use Rattle.engine_session.proofs.kept_deps.all_asked.Given as goal

abbrev pub invariant-loop-item : goal.invariant-loop-item
invariant-loop-item l =
    asked_lines l.made.items ++ item_lines (drop l.item-index l.items) ≡ item_lines l.items
