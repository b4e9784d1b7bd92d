use Rattle.std.proofs.Common.{length}
use Rattle.wanted_types.proofs.bound.+behind.Given as goal

abbrev pub decreases-behind : goal.decreases-behind
decreases-behind l = length l.first.now
