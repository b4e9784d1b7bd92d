use Rattle.std.proofs.Common.{◌≡◌, ◌≤◌, Some, drop, length, map}
use Rattle.pan_ast.specs.Seen.{step_seen}
use Rattle.pan_ast.specs.Syntax.{none}
use Rattle.dml_leaves.specs.References.{indexed, indexes_back}
use Rattle.dml_leaves.proofs.references.push_rest.Given as goal

abbrev pub invariant-steps : goal.invariant-steps
invariant-steps l = record {
  made : indexed (map step_seen (drop l.left l.steps)) (indexes_back l.fn.indexes.items none)
      ≡ Some (indexes_back l.indexes.items none);
  within : l.left ≤ length l.steps;
}

abbrev pub decreases-steps : goal.decreases-steps
decreases-steps l = l.left
