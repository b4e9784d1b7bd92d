-- Chains whose operands are chains: what is next, what waits for its value, and what is left to do.
use Rattle.std.specs.Prelude.{◌≡◌, ℕ, ◌+◌, ◌≤◌, List, [], ◌∷◌, map, Result, Ok, Err}
use Rattle.path_tree.specs.Plain.{Plain}
use Rattle.pan_ast.specs.declared.place.Place.{Place}
use Rattle.pan_ast.specs.Syntax.{Step}
use Rattle.pan_ast.specs.declared.syntax.Node.{Node}
use Rattle.pan_ast.specs.Seen.{item_seen, node_seen, step_seen}
use Rattle.questions.specs.Contents.{Answers}
use Rattle.questions.specs.Run.{Meter, Outcome, then, ◌>>=◌}
use Rattle.questions.specs.Told.{ToldEnough}
use Rattle.dml_meaning.specs.Run.{Env, Run}
use Rattle.dml_meaning.specs.Around.{Around}
use Rattle.dml_meaning.specs.Means.{Means}
use Rattle.dml_meaning.specs.Leaves.{apply_binary, apply_boolean, apply_index}
use Rattle.dml_meaning.specs.Meaning.{node_run, spine_run, step_run, steps_run}
use Rattle.dml_world.specs.declared.stop.Exit.{Exit}
use Rattle.dml_world.specs.declared.evaluation.Evaluation.{Evaluation}
use Rattle.dml_world.specs.declared.world.World as world
use Rattle.dml_leaves.specs.Weights.{node_weight, step_weight, steps_weight}
use Rattle.dml_eval.specs.declared.chains.Chain.{Chain}
use Rattle.dml_eval.specs.declared.chains.Role.{Role}
use Rattle.dml_eval.specs.declared.chains.Role.TheVariants as role
use Rattle.dml_eval.specs.declared.chains.Waiting.{Waiting}
use Rattle.dml_eval.specs.declared.chains.Turn.{Turn}
use Rattle.dml_eval.specs.declared.chains.Turn.TheVariants as turn
use Rattle.dml_eval.specs.declared.pairs.Pair.{Pair}
use Rattle.dml_eval.specs.declared.pairs.Element.{Element}
use Rattle.dml_world.specs.Evaluations.{env_of, meter_of}
use Rattle.dml_world.specs.Exits.{Ends}

-- What each means.

abbrev pub chain_run : Means → Around → Chain → Run Plain
chain_run go a c = spine_run go a c.place.now (node_seen c.first.now) (step_seen c.step.now
    ∷ map step_seen c.rest.now)

-- a run, and then the steps to its right
abbrev pub with_steps : Means → Around → Place → List Step → Run Plain → Run Plain
with_steps go a p ss r = r >>= steps_run go a p ss

-- the value of an operand, in its role
abbrev pub in_role : Means → Around → Place → Role → Plain → Run Plain
in_role go a p (role.Left s) t = step_run go a p t (step_seen s.now)
in_role go a p (role.Right op s) t = apply_binary p op s t
in_role go a p role.Deciding t = apply_boolean p t

-- a chain that waits, once the value is there
abbrev pub resume : Means → Around → Waiting → Plain → Run Plain
resume go a w t =
    with_steps go a w.place.now (map step_seen w.rest.now) (in_role go a w.place.now w.role t)

abbrev pub turn_run : Means → Around → Turn → Run Plain
turn_run go a (turn.Steps t p ss) = steps_run go a p.now (map step_seen ss.now) t
turn_run go a (turn.Inner c w) = chain_run go a c >>= resume go a w

-- all that wait, the outermost first
unfoldable pub resumed : Means → Around → Answers → List Waiting → Outcome Env Plain
    → Outcome Env Plain
resumed go a answers [] o = o
resumed go a answers (w ∷ ws) o =
    then (resumed go a answers ws o) (λ t. resume go a w t answers)

-- a run comes to what a function left, as it goes on, or ends as the function did
abbrev pub GoesOn : {X : Type 0} → (X → Run Plain) → Result X Exit → Answers → Env → Meter
    → Outcome Env Plain → Type 0
GoesOn left (Ok x) told e m o = o ≡ left x told e m
GoesOn left (Err x) told e m o = Ends x e m o

-- told the world's answers, from what stood there and was asked to what stands there and was asked
-- then
abbrev pub Leads : {W C L X : Type 0} → (X → Run Plain) → Result X Exit → world.Ghosts W C
    → Evaluation W L → Evaluation W L → Run Plain → Type 0
Leads left r M before after run = ToldEnough M.answers (M.asked before.world.now)
    (M.asked after.world.now) (λ told. GoesOn left r told (env_of after) (meter_of M after)
    (run told (env_of before) (meter_of M before)))

-- How many turns are left at most.

abbrev pub chain_weight : Chain → ℕ
chain_weight c = 1 + node_weight (node_seen c.first.now) + step_weight (step_seen c.step.now)
    + steps_weight (map step_seen c.rest.now)

-- a node in memory that is no chain has no operator to its right
abbrev pub IsOperand : Node → Type 0
IsOperand n = node_weight (node_seen n) ≡ 0

-- a node in memory that is a chain means what the chain does, and is no lighter
abbrev pub IsChainOf : Node → Chain → Type 0
IsChainOf n c = ((go : Means) (a : Around) → node_run go a (node_seen n) ≡ chain_run go a c)
    × (chain_weight c ≤ node_weight (node_seen n))

-- two operands, and then the operator
abbrev pub pair_run : Means → Around → Pair → Run Plain
pair_run go a p = do
  s ← node_run go a (node_seen p.left.now)
  t ← node_run go a (node_seen p.right.now)
  apply_binary p.place.now p.op s t

-- an operand and an index, and then what is there
abbrev pub element_run : Means → Around → Element → Run Plain
element_run go a x = do
  t ← node_run go a (node_seen x.container.now)
  k ← go.opens a (item_seen x.index.now)
  apply_index x.place.now t k

-- a chain means what the pair does, whose operands are no chains
abbrev pub IsPairOf : Chain → Pair → Type 0
IsPairOf c p = ((go : Means) (a : Around) → chain_run go a c ≡ pair_run go a p)
    × IsOperand p.left.now × IsOperand p.right.now

abbrev pub IsElementOf : Chain → Element → Type 0
IsElementOf c x = ((go : Means) (a : Around) → chain_run go a c ≡ element_run go a x)
    × IsOperand x.container.now

abbrev pub role_weight : Role → ℕ
role_weight (role.Left s) = step_weight (step_seen s.now)
role_weight _ = 1

abbrev pub waiting_weight : Waiting → ℕ
waiting_weight w = role_weight w.role + steps_weight (map step_seen w.rest.now)

abbrev pub turn_weight : Turn → ℕ
turn_weight (turn.Steps t p ss) = steps_weight (map step_seen ss.now)
turn_weight (turn.Inner c w) = chain_weight c + waiting_weight w

abbrev pub waits_weight : List Waiting → ℕ
waits_weight [] = 0
waits_weight (w ∷ ws) = waiting_weight w + waits_weight ws
