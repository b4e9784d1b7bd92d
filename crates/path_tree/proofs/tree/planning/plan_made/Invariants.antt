use Rattle.std.proofs.Common.{◌≡◌, ◌≤◌, length, drop}
use Rattle.base.specs.declared.limits.TheConstants.{MAX_TREE_SIZE}
use Rattle.path_tree.specs.Plain.{tree_size, tree_height}
use Rattle.path_tree.specs.Put.{chain}
use Rattle.path_tree.proofs.tree.planning.plan_made.Given as goal

abbrev pub invariant-loop-i : goal.invariant-loop-i
invariant-loop-i l = record {
  size : tree_size (chain (drop l.i l.terms) l.value) ≡ l.made.size;
  height : tree_height (chain (drop l.i l.terms) l.value) ≡ l.made.height;
  small : l.made.size ≤ MAX_TREE_SIZE;
  flat : l.made.height ≤ MAX_TREE_SIZE;
  within : l.i ≤ length l.terms;
}

abbrev pub decreases-loop-i : goal.decreases-loop-i
decreases-loop-i l = l.i
