use Rattle.std.proofs.Common.{◌≡◌, ◌+◌, ◌*◌, drop}
use Rattle.std.specs.List.{list_any}
use Rattle.call_values.specs.Children.{children}
use Rattle.path_tree.specs.Plain.{tree_size}
use Rattle.builtins_code.specs.Json.{holds_undef}
use Rattle.builtins_code.proofs.json_writing.+undef.Given as goal

abbrev pub decreases-holds_undef : goal.decreases-holds_undef
decreases-holds_undef l = 2 * tree_size l.tree.now + 1

abbrev pub decreases-child_holds_undef : goal.decreases-child_holds_undef
decreases-child_holds_undef l = 2 * tree_size l.tree.now

abbrev pub invariant-child_holds_undef-loop-i : goal.invariant-child_holds_undef-loop-i
invariant-child_holds_undef-loop-i l =
    list_any holds_undef (drop l.i (children l.tree)) ≡ list_any holds_undef (children l.tree)
