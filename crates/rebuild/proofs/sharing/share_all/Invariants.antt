use Rattle.std.proofs.Common.{◌≡◌, ◌++◌, drop}
use Rattle.rebuild.proofs.sharing.share_all.Given as goal

abbrev pub invariant-loop-item : goal.invariant-loop-item
invariant-loop-item g l = l.same.items ++ drop l.item-index l.items ≡ l.items
