use Rattle.std.proofs.Common.{◌≡◌, take, length}
use Rattle.engine_session.specs.KeptDeps.{asked_lines, item_lines}
use Rattle.engine_session.proofs.kept_deps.are_asked.Given as goal

abbrev pub invariant-loop-i : goal.invariant-loop-i
invariant-loop-i l = record {
  lines : asked_lines (take l.i l.asked) ≡ item_lines (take l.i l.items);
  lengths : length l.asked ≡ length l.items;
}
