use Rattle.std.proofs.Common.{length}
use Rattle.path_tree.proofs.name.+are_segments.Given as goal

abbrev pub decreases-are_segments : goal.decreases-are_segments
decreases-are_segments l = length l.bytes.now
