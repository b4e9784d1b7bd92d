use Rattle.std.proofs.Common.{◌+◌, ◌*◌, length}
use Rattle.path_tree.proofs.tree.+plan.Given as goal

abbrev pub decreases-Tree::plan : goal.decreases-Tree::plan
decreases-Tree::plan l = 2 * length l.terms.now

abbrev pub decreases-planning::plan_field : goal.decreases-planning::plan_field
decreases-planning::plan_field l = 2 * length l.terms.now + 1

abbrev pub decreases-planning::plan_item : goal.decreases-planning::plan_item
decreases-planning::plan_item l = 2 * length l.terms.now + 1
