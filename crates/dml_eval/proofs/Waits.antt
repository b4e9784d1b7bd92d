-- What waits, when one more does, and how much is left to do.
use Rattle.std.proofs.Common.{◌≡◌, ◌∙◌, ap, subst, sym, refl, ℕ, ◌+◌, List, [], ◌∷◌, ◌++◌, length, map, arith}
use std.Path.{fun_ext}
use Rattle.std.specs.declared.vec.Vec.{Vec}
use Rattle.std.specs.declared.boxed.Box.{Box}
use Rattle.std.specs.declared.alloc.Global.{Global}
use Rattle.path_tree.specs.Plain.{Plain}
use Rattle.pan_ast.specs.declared.fault.Fault.{Fault}
use Rattle.questions.specs.declared.key.Key.{Key}
use Rattle.questions.specs.Contents.{Answers}
use Rattle.questions.specs.Run.{Meter, Outcome, Done, Returned, Failed, Asks, then, ◌>>=◌}
use Rattle.dml_meaning.specs.Run.{Env}
use Rattle.dml_meaning.specs.Around.{Around}
use Rattle.questions.specs.Laws.{MayAsk}
use Rattle.questions.specs.Told.{LeavesAtMost}
use Rattle.questions.proofs.Lawful.{Lawful}
use Rattle.questions.proofs.Runs.{Leaves, left_within}
use Rattle.pan_ast.specs.declared.place.Place.{Place}
use Rattle.pan_ast.specs.Seen.{item_seen, node_seen, step_seen}
use Rattle.pan_ast.proofs.Forms.{seen_step_binary, seen_step_index}
use Rattle.pan_ast.specs.Syntax.{Step, AtBinary, AtIndex}
use Rattle.path_tree.specs.declared.operators.BinaryOp.{BinaryOp}
use Rattle.pan_ast.specs.declared.syntax.Node.{Node as RNode}
use Rattle.pan_ast.specs.declared.syntax.Step.{Step as RStep}
use Rattle.pan_ast.specs.declared.syntax.Item.{Item as RItem}
use Rattle.pan_ast.specs.declared.syntax.Step.TheVariants as step
use Rattle.pan_ast.specs.declared.syntax.Form.TheVariants as form
use Rattle.dml_meaning.specs.Laws.{IsReading}
use Rattle.dml_meaning.specs.Means.{Means}
use Rattle.dml_meaning.specs.Meaning.{eval, node_run, spine_run, step_run, steps_run}
use Rattle.dml_meaning.specs.Leaves.{apply_binary, apply_index}
use Rattle.dml_meaning.proofs.Chains.{at_spine, chain_run as at_steps, stepped_run}
use Rattle.dml_meaning.proofs.Leaves.{Fits, LawfulMeans, pieces}
use Rattle.dml_meaning.proofs.Values.{apply_binary_lawful, apply_boolean_lawful}
use Rattle.dml_meaning.proofs.Items.{node_lawful, step_lawful, chain_lawful, eval_lawful}
use Rattle.dml_meaning.proofs.Evaluated.{fits}
use Rattle.dml_meaning.proofs.Leaving.{chain_leaves, then_leaves}
use Rattle.dml_eval.specs.declared.chains.Chain.{Chain}
use Rattle.dml_eval.specs.declared.chains.Role.{Role}
use Rattle.dml_eval.specs.declared.chains.Turn.{Turn}
use Rattle.dml_eval.specs.declared.chains.Turn.TheVariants as turn
use Rattle.dml_eval.specs.declared.chains.Role.TheVariants as role
use Rattle.dml_world.specs.declared.stop.Exit.{Exit}
use Rattle.dml_world.specs.declared.stop.Exit.TheVariants as exit
use Rattle.dml_eval.specs.declared.chains.Waiting.{Waiting}
use Rattle.dml_world.specs.Exits.{Ends}
use Rattle.dml_leaves.proofs.Weights.{weight_spine}
use Rattle.dml_eval.specs.Waits.{IsOperand, chain_run, in_role, resume, resumed, turn_run, with_steps, waiting_weight, waits_weight}

-- a chain in memory means its left operand, and then its steps
pub spine_is : (n : RNode) (x : Box RNode Global) (s : Box RStep Global) (ss : Vec RStep Global)
    → n.form ≡ form.Spine x s ss → (go : Means) (a : Around) → node_run go a (node_seen n)
    ≡ spine_run go a n.place (node_seen x.value) (step_seen s.value ∷ map step_seen ss.items)
spine_is n x s ss is go a =
    fun_ext (λ o. fun_ext (λ e. fun_ext (λ m. at_spine go a n x s ss o e m is)))

-- and is no operand
pub no_operand : (n : RNode) (x : Box RNode Global) (s : Box RStep Global) (ss : Vec RStep Global)
    → n.form ≡ form.Spine x s ss → IsOperand n → ⊥
no_operand n x s ss is none =
    let heavy = weight_spine n x s ss is in
    omega (arith, heavy, none)

-- the steps of a chain that has one
one_step : (s : RStep) (ss : List RStep) (t : Step) → step_seen s ≡ t → length ss ≡ 0
    → step_seen s ∷ map step_seen ss ≡ t ∷ []
one_step s [] t is none = ap (λ u. u ∷ []) is
one_step s (r ∷ rs) t is none = absurd (omega arith)

-- a chain of one step means its left operand, and then the step
lone_step : (c : Chain) (t : Step) → step_seen c.step.now ≡ t → length c.rest.now ≡ 0
    → (go : Means) (a : Around) (o : Answers) (e : Env) (m : Meter) → chain_run go a c o e m
    ≡ then (node_run go a (node_seen c.first.now) o e m) (λ v. step_run go a c.place.now v t o)
lone_step c t is none go a o e m =
    ap (λ ss. spine_run go a c.place.now (node_seen c.first.now) ss o e m)
    (one_step c.step.now c.rest.now t is none)
    ∙ sym (at_steps (t ∷ []) go a c.place.now (node_seen c.first.now) o e m)
    ∙ stepped_run t go a c.place.now (node_seen c.first.now) o e m

pub pair_is : (c : Chain) (op : BinaryOp) (y : RNode) → c.step.now ≡ step.Binary op y
    → length c.rest.now ≡ 0 → (go : Means) (a : Around) → chain_run go a c
    ≡ (node_run go a (node_seen c.first.now)
    >>= (λ s. node_run go a (node_seen y) >>= apply_binary c.place.now op s))
unfolding step_run
pair_is c op y is none go a =
    fun_ext (λ o. fun_ext (λ e. fun_ext (λ m.
    lone_step c (AtBinary op (node_seen y)) (seen_step_binary c.step.now op y is) none go a o e m)))

pub element_is : (c : Chain) (i : RItem) → c.step.now ≡ step.Index i → length c.rest.now ≡ 0
    → (go : Means) (a : Around) → chain_run go a c
    ≡ (node_run go a (node_seen c.first.now)
    >>= (λ s. go.opens a (item_seen i) >>= apply_index c.place.now s))
unfolding step_run
element_is c i is none go a =
    fun_ext (λ o. fun_ext (λ e. fun_ext (λ m.
    lone_step c (AtIndex (item_seen i)) (seen_step_index c.step.now i is) none go a o e m)))

-- one more that waits is the first to go on
pub resumed_more : (go : Means) (a : Around) (answers : Answers) (ws : List Waiting) (w : Waiting)
    (o : Outcome Env Plain) → resumed go a answers (ws ++ w ∷ []) o
    ≡ resumed go a answers ws (then o (λ t. resume go a w t answers))
unfolding resumed
resumed_more go a answers [] w o = refl
resumed_more go a answers (v ∷ ws) w o =
    ap (λ n. then n (λ t. resume go a v t answers)) (resumed_more go a answers ws w o)

-- the step that is next, and those behind it
pub steps_more : (go : Means) (a : Around) (p : Place) (ss rest : List Step) (s : Step) (t : Plain)
    (o : Answers) (e : Env) (m : Meter) → ss ≡ s ∷ rest → steps_run go a p ss t o e m
    ≡ with_steps go a p rest (step_run go a p t s) o e m
unfolding steps_run
steps_more go a p ss rest s t o e m is = ap (λ xs. steps_run go a p xs t o e m) is

-- no step is next
pub steps_end : (go : Means) (a : Around) (p : Place) (ss : List Step) (t : Plain) (o : Answers)
    (e : Env) (m : Meter) → ss ≡ [] → steps_run go a p ss t o e m ≡ Done t e m
unfolding steps_run
steps_end go a p ss t o e m is = ap (λ xs. steps_run go a p xs t o e m) is

-- an early end ends all that wait
resumed_failed : (go : Means) (a : Around) (answers : Answers) (ws : List Waiting) (f : Fault)
    (m : Meter) → resumed go a answers ws (Failed f m) ≡ Failed f m
unfolding resumed
resumed_failed go a answers [] f m = refl
resumed_failed go a answers (w ∷ ws) f m =
    ap (λ n. then n (λ t. resume go a w t answers)) (resumed_failed go a answers ws f m)

resumed_asks : (go : Means) (a : Around) (answers : Answers) (ws : List Waiting) (k : Key)
    (m : Meter) → resumed go a answers ws (Asks k m) ≡ Asks k m
unfolding resumed
resumed_asks go a answers [] k m = refl
resumed_asks go a answers (w ∷ ws) k m =
    ap (λ n. then n (λ t. resume go a w t answers)) (resumed_asks go a answers ws k m)

resumed_returned : (go : Means) (a : Around) (answers : Answers) (ws : List Waiting) (t : Plain)
    (e : Env) (m : Meter) → resumed go a answers ws (Returned t e m) ≡ Returned t e m
unfolding resumed
resumed_returned go a answers [] t e m = refl
resumed_returned go a answers (w ∷ ws) t e m =
    ap (λ n. then n (λ u. resume go a w u answers)) (resumed_returned go a answers ws t e m)

-- and goes on leaving no more
in_role_lawful : (may : Key → Type 0) (go : Means) → LawfulMeans may go → (a : Around) → Fits may a
    → (p : Place) (r : Role) (t : Plain) → Lawful may 0 (in_role go a p r t)
in_role_lawful may go h a w p (role.Left s) t = step_lawful may go h a w p t (step_seen s.now)
in_role_lawful may go h a w p (role.Right op s) t = apply_binary_lawful may p op s t
in_role_lawful may go h a w p role.Deciding t = apply_boolean_lawful may p t

module _ (a : Around) (w : IsReading a.reading) (n : ℕ) where
  turn_leaves : (t : Turn) → Leaves (turn_run (eval n) a t)
  turn_leaves (turn.Steps v p ss) = chain_leaves a w n p.now (map step_seen ss.now) v
  turn_leaves (turn.Inner c v) =
      let go = eval_lawful (MayAsk a.object) n in
      let suited = fits a w in
      left_within (MayAsk a.object) 0 (turn_run (eval n) a (turn.Inner c v))
      (search (pieces, node_lawful, in_role_lawful, chain_lawful))

  resume_leaves : (v : Waiting) (t : Plain) → Leaves (resume (eval n) a v t)
  resume_leaves v t =
      let go = eval_lawful (MayAsk a.object) n in
      let suited = fits a w in
      left_within (MayAsk a.object) 0 (resume (eval n) a v t)
      (search (pieces, in_role_lawful, chain_lawful))

  resumed_leaves : (answers : Answers) (ws : List Waiting) (k : ℕ) (o : Outcome Env Plain)
      → LeavesAtMost k o → LeavesAtMost k (resumed (eval n) a answers ws o)
  unfolding resumed
  resumed_leaves answers [] k o h = h
  resumed_leaves answers (v ∷ ws) k o h =
      then_leaves k (resumed (eval n) a answers ws o) (λ t. resume (eval n) a v t answers)
      (λ t. resume_leaves v t answers) (resumed_leaves answers ws k o h)

  -- where what is next has not begun
  pub turns_leave : (answers : Answers) (ws : List Waiting) (t : Turn) (e : Env) (m : Meter)
      (p : Outcome Env Plain) → resumed (eval n) a answers ws (turn_run (eval n) a t answers e m)
      ≡ p → LeavesAtMost m.left p
  turns_leave answers ws t e m p same =
      subst (LeavesAtMost m.left) same (resumed_leaves answers ws m.left
      (turn_run (eval n) a t answers e m) (turn_leaves t answers e m))

  pub resumed_ends : (answers : Answers) (ws : List Waiting) (x : Exit) (e : Env) (m : Meter)
      (o p : Outcome Env Plain) → Ends x e m o → resumed (eval n) a answers ws o ≡ p → Ends x e m p
  resumed_ends answers ws exit.Memory e m o p h k =
      subst (LeavesAtMost m.left) k (resumed_leaves answers ws m.left o h)
  resumed_ends answers ws (exit.Fault f) e m o p h k =
      sym k ∙ ap (resumed (eval n) a answers ws) h ∙ resumed_failed (eval n) a answers ws f.value m
  resumed_ends answers ws (exit.Need q) e m o p h k =
      sym k ∙ ap (resumed (eval n) a answers ws) h ∙ resumed_asks (eval n) a answers ws _ m
  resumed_ends answers ws (exit.Return t) e m o p h k =
      sym k ∙ ap (resumed (eval n) a answers ws) h
      ∙ resumed_returned (eval n) a answers ws t.value e m

pub weight_more : (ws : List Waiting) (w : Waiting) → waits_weight (ws ++ w ∷ [])
    ≡ waits_weight ws + waiting_weight w
weight_more [] w = omega arith
weight_more (v ∷ ws) w = let h = weight_more ws w in omega (arith, h)

-- nothing waits
pub resumed_none : (go : Means) (a : Around) (answers : Answers) (ws : List Waiting)
    (o p : Outcome Env Plain) → length ws ≡ 0 → o ≡ p → resumed go a answers ws o ≡ p
unfolding resumed
resumed_none go a answers [] o p h is = is
resumed_none go a answers (w ∷ ws) o p h is = absurd (omega arith)

pub ruleset waits = (resumed_more, resumed_ends, weight_more)
