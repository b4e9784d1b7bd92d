use Rattle.std.proofs.Common.{map}
use Rattle.pan_ast.specs.Seen.{node_seen, step_seen}
use Rattle.dml_leaves.proofs.Weights.{weight_left}
use Rattle.dml_leaves.proofs.references.reference_on.Goals as goal

pub chain-smaller : goal.chain-smaller
chain-smaller c = weight_left _ (node_seen c.in-Chain.first.now) (step_seen c.in-Chain.step.now)
    (map step_seen c.in-Chain.rest.now) _ c.in-Chain.ensures
