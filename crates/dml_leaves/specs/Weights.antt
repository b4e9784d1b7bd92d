-- How many turns of a loop over its operators a node takes at most.
use Rattle.std.specs.Prelude.{ℕ, ◌+◌, List, [], ◌∷◌}
use Rattle.pan_ast.specs.Syntax.{Node, Step, Index, Binary, And, Or, AtIndex, AtBinary, AtAnd, AtOr}

abbrev pub node_weight : Node → ℕ
node_weight (Index p x i) = 2 + node_weight x
node_weight (Binary p op x y) = 3 + node_weight x + node_weight y
node_weight (And p x y) = 3 + node_weight x + node_weight y
node_weight (Or p x y) = 3 + node_weight x + node_weight y
node_weight _ = 0

abbrev pub step_weight : Step → ℕ
step_weight (AtIndex i) = 1
step_weight (AtBinary op y) = 2 + node_weight y
step_weight (AtAnd y) = 2 + node_weight y
step_weight (AtOr y) = 2 + node_weight y

abbrev pub steps_weight : List Step → ℕ
steps_weight [] = 0
steps_weight (s ∷ ss) = step_weight s + steps_weight ss
