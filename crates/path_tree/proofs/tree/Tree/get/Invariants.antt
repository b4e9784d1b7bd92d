use Rattle.std.proofs.Common.{◌≡◌, ◌≤◌, drop}
use Rattle.path_tree.specs.Find.{get}
use Rattle.path_tree.specs.Plain.{tree_size}
use Rattle.path_tree.proofs.tree.Tree.get.Given as goal

abbrev pub invariant-loop-term : goal.invariant-loop-term
invariant-loop-term l = record {
  value : get (drop l.term-index l.terms) l.at ≡ get l.terms l.self;
  smaller : tree_size l.at ≤ tree_size l.self;
}
