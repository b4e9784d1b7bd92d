use Rattle.std.proofs.Common.{◌+◌, ◌*◌, length}
use Rattle.path_tree.proofs.tree.removing.+remove.Given as goal

abbrev pub decreases-remove_in : goal.decreases-remove_in
decreases-remove_in l = 4 * length l.terms.now

abbrev pub decreases-remove_key : goal.decreases-remove_key
decreases-remove_key l = 4 * length l.terms.now + 3

abbrev pub decreases-remove_field : goal.decreases-remove_field
decreases-remove_field l = 4 * length l.terms.now + 2

abbrev pub decreases-remove_below : goal.decreases-remove_below
decreases-remove_below l = 4 * length l.terms.now + 1

abbrev pub decreases-remove_index : goal.decreases-remove_index
decreases-remove_index l = 4 * length l.terms.now + 3

abbrev pub decreases-remove_item : goal.decreases-remove_item
decreases-remove_item l = 4 * length l.terms.now + 2

abbrev pub decreases-remove_under : goal.decreases-remove_under
decreases-remove_under l = 4 * length l.terms.now + 1
