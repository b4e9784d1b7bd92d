use Rattle.std.proofs.Common.{◌≡◌}
use Rattle.pan_ast.specs.Seen.{node_seen}
use Rattle.pan_ast.specs.Syntax.{none}
use Rattle.dml_meaning.specs.References.{reference_on}
use Rattle.dml_leaves.specs.References.{indexes_back}
use Rattle.dml_leaves.specs.Weights.{node_weight}
use Rattle.dml_leaves.proofs.references.reference_on.Given as goal

abbrev pub invariant-chain : goal.invariant-chain
invariant-chain l = reference_on (node_seen l.node) (indexes_back l.indexes.items none)
    ≡ reference_on (node_seen l.fn.node) none

abbrev pub decreases-chain : goal.decreases-chain
decreases-chain l = node_weight (node_seen l.node)
