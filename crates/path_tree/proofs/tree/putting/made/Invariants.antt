use Rattle.std.proofs.Common.{◌≡◌, ◌≤◌, length, drop}
use Rattle.path_tree.specs.Put.{chain}
use Rattle.path_tree.specs.Kept.{IsInside}
use Rattle.path_tree.proofs.tree.putting.made.Given as goal

abbrev pub invariant-loop-i : goal.invariant-loop-i
invariant-loop-i l = record {
  made : l.tree ≡ chain (drop l.i l.terms) l.fn.value;
  inside : IsInside l.tree;
  within : l.i ≤ length l.terms;
}

abbrev pub decreases-loop-i : goal.decreases-loop-i
decreases-loop-i l = l.i
