-- What a chain in memory weighs.
use Rattle.std.proofs.Common.{◌≡◌, ap, ◌+◌, ◌<◌, ◌≤◌, List, [], ◌∷◌, map, arith}
use Rattle.std.specs.declared.vec.Vec.{Vec}
use Rattle.std.specs.declared.boxed.Box.{Box}
use Rattle.std.specs.declared.alloc.Global.{Global}
use Rattle.pan_ast.specs.declared.place.Place.{Place}
use Rattle.pan_ast.specs.declared.syntax.Node.{Node as RNode}
use Rattle.pan_ast.specs.declared.syntax.Step.{Step as RStep}
use Rattle.pan_ast.specs.declared.syntax.Form.TheVariants as form
use Rattle.pan_ast.specs.Syntax.{Node, Step, AtIndex, AtBinary, AtAnd, AtOr, stepped, steps_on}
use Rattle.pan_ast.specs.Seen.{node_seen, step_seen}
use Rattle.pan_ast.proofs.Forms.{seen_spine}
use Rattle.dml_leaves.specs.Weights.{node_weight, step_weight, steps_weight}

weight_stepped : (s : Step) (p : Place) (x : Node)
    → 1 + node_weight x + step_weight s ≤ node_weight (stepped p x s)
weight_stepped (AtIndex i) p x = omega arith
weight_stepped (AtBinary op y) p x = omega arith
weight_stepped (AtAnd y) p x = omega arith
weight_stepped (AtOr y) p x = omega arith

weight_steps : (ss : List Step) (p : Place) (x : Node)
    → node_weight x + steps_weight ss ≤ node_weight (steps_on p x ss)
weight_steps [] p x = omega arith
weight_steps (s ∷ ss) p x = let h = weight_steps ss p (stepped p x s) in let k =
    weight_stepped s p x in omega (arith, h, k)

-- a chain in memory
pub weight_spine : (n : RNode) (x : Box RNode Global) (s : Box RStep Global) (ss : Vec RStep Global)
    → n.form ≡ form.Spine x s ss → 1 + node_weight (node_seen x.value) + step_weight
    (step_seen s.value) + steps_weight (map step_seen ss.items) ≤ node_weight (node_seen n)
weight_spine n x s ss is =
    let k = weight_stepped (step_seen s.value) n.place (node_seen x.value) in
    let l = weight_steps (map step_seen ss.items) n.place
    (stepped n.place (node_seen x.value) (step_seen s.value)) in
    let e = ap node_weight (seen_spine n x s ss is) in
    omega (arith, k, l, e)

-- and its left end weighs less
pub weight_left : (n x : Node) (s : Step) (ss : List Step) (p : Place) → n
    ≡ steps_on p (stepped p x s) ss → node_weight x < node_weight n
weight_left n x s ss p is =
    let k = weight_stepped s p x in
    let l = weight_steps ss p (stepped p x s) in
    let e = ap node_weight is in
    omega (arith, k, l, e)
