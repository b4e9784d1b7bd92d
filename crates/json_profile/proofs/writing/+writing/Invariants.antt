use Rattle.std.proofs.Common.{◌≡◌, ◌+◌, ◌*◌, ◌++◌}
use Rattle.json.specs.Tree.{json_tokens}
use Rattle.path_tree.specs.Plain.{tree_size}
use Rattle.json_profile.specs.Json.{json}
use Rattle.json_profile.specs.Children.{fields_tokens, children_tokens}
use Rattle.json_profile.proofs.writing.+writing.Given as goal

abbrev pub decreases-write : goal.decreases-write
decreases-write l = 3 * tree_size l.tree.now + 2

abbrev pub decreases-write_dict : goal.decreases-write_dict
decreases-write_dict l = 3 * tree_size l.tree.now + 1

abbrev pub decreases-write_field : goal.decreases-write_field
decreases-write_field l = 3 * tree_size l.tree.now

abbrev pub decreases-write_list : goal.decreases-write_list
decreases-write_list l = 3 * tree_size l.tree.now + 1

abbrev pub decreases-write_item : goal.decreases-write_item
decreases-write_item l = 3 * tree_size l.tree.now

abbrev pub invariant-write_dict-loop-i : goal.invariant-write_dict-loop-i
invariant-write_dict-loop-i l =
    (l.out.tokens ++ fields_tokens l.i l.tree ≡ l.fn.out.tokens ++ json_tokens (json l.tree))
    × (l.out.before ≡ l.fn.out.before)

abbrev pub invariant-write_list-loop-i : goal.invariant-write_list-loop-i
invariant-write_list-loop-i l =
    (l.out.tokens ++ children_tokens l.i l.tree ≡ l.fn.out.tokens ++ json_tokens (json l.tree))
    × (l.out.before ≡ l.fn.out.before)
