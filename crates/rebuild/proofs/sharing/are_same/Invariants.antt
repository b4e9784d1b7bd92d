use Rattle.std.proofs.Common.{◌≡◌, take, length}
use Rattle.rebuild.proofs.sharing.are_same.Given as goal

abbrev pub invariant-loop-i : goal.invariant-loop-i
invariant-loop-i g l = record {
  same : take l.i l.items ≡ take l.i l.others;
  lengths : length l.items ≡ length l.others;
}
