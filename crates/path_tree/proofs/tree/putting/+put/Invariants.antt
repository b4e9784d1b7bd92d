use Rattle.std.proofs.Common.{◌+◌, ◌*◌, length}
use Rattle.path_tree.proofs.tree.putting.+put.Given as goal

abbrev pub decreases-put_in : goal.decreases-put_in
decreases-put_in l = 4 * length l.terms.now

abbrev pub decreases-put_key : goal.decreases-put_key
decreases-put_key l = 4 * length l.terms.now + 3

abbrev pub decreases-put_field : goal.decreases-put_field
decreases-put_field l = 4 * length l.terms.now + 2

abbrev pub decreases-change_field : goal.decreases-change_field
decreases-change_field l = 4 * length l.terms.now + 1

abbrev pub decreases-put_index : goal.decreases-put_index
decreases-put_index l = 4 * length l.terms.now + 3

abbrev pub decreases-put_item : goal.decreases-put_item
decreases-put_item l = 4 * length l.terms.now + 2

abbrev pub decreases-change_item : goal.decreases-change_item
decreases-change_item l = 4 * length l.terms.now + 1
