use Rattle.std.proofs.Common.{◌≡◌, ◌+◌, ◌*◌}
use Rattle.path_tree.specs.Plain.{tree_size}
use Rattle.validate.specs.Checked.{undef_in_fields, undef_in_items}
use Rattle.path_tree.specs.Children.{child_fields, child_items, fields_from, items_from}
use Rattle.validate.proofs.undefs.+undefs.Given as goal

abbrev pub decreases-first_undef : goal.decreases-first_undef
decreases-first_undef l = 3 * tree_size l.tree.now + 2

abbrev pub decreases-undef_in_list : goal.decreases-undef_in_list
decreases-undef_in_list l = 3 * tree_size l.tree.now + 1

abbrev pub decreases-undef_in_dict : goal.decreases-undef_in_dict
decreases-undef_in_dict l = 3 * tree_size l.tree.now + 1

abbrev pub decreases-undef_at_index : goal.decreases-undef_at_index
decreases-undef_at_index l = 3 * tree_size l.tree.now

abbrev pub decreases-undef_at_key : goal.decreases-undef_at_key
decreases-undef_at_key l = 3 * tree_size l.tree.now

abbrev pub invariant-undef_in_list-loop-i : goal.invariant-undef_in_list-loop-i
invariant-undef_in_list-loop-i l =
    undef_in_items l.i (items_from l.i l.tree) ≡ undef_in_items 0 (child_items l.tree)

abbrev pub invariant-undef_in_dict-loop-i : goal.invariant-undef_in_dict-loop-i
invariant-undef_in_dict-loop-i l =
    undef_in_fields (fields_from l.i l.tree) ≡ undef_in_fields (child_fields l.tree)
