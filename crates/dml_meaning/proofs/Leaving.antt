-- No run of DML leaves more work than it began with: of each definition by which code goes on, so
-- that it is known what is left at least where memory is wanting.
use Rattle.std.proofs.Common.{ℕ, List, Option, Bool, arith}
use Rattle.path_tree.specs.Plain.{Plain}
use Rattle.path_tree.specs.declared.operators.UnaryOp.{UnaryOp}
use Rattle.path_tree.specs.declared.path.Anchor.{Anchor}
use Rattle.path_tree.specs.declared.path.Term.{Term}
use Rattle.pan_ast.specs.declared.place.Place.{Place}
use Rattle.pan_ast.specs.Syntax.{Item, Node, Items, Reference, Step}
use Rattle.pan_ast.specs.Templates.{Statement, StatementForm}
use Rattle.questions.specs.Laws.{MayAsk}
use Rattle.questions.specs.Run.{Meter, Outcome, Done, Returned, Failed, Asks, then}
use Rattle.questions.specs.Told.{LeavesAtMost}
use Rattle.questions.proofs.Runs.{Leaves, left_within}
use Rattle.dml_meaning.specs.declared.words.Own.{Own}
use Rattle.dml_meaning.specs.declared.words.Side.{Side}
use Rattle.dml_meaning.specs.Around.{Around, ValueCall}
use Rattle.dml_meaning.specs.Laws.{IsReading}
use Rattle.dml_meaning.specs.Lookups.{first_present, template_named, structure_named, look, look_at}
use Rattle.dml_meaning.specs.Means.{Purpose, Reached}
use Rattle.dml_meaning.specs.Names.{change}
use Rattle.dml_meaning.specs.References.{block_from, values_from, reach_from, reach_run}
use Rattle.dml_meaning.specs.Loops.{condition_run, while_turn, for_turn, while_turns, for_turns, pair_turn, pair_turns, each_of}
use Rattle.dml_meaning.specs.Structures.{dml_run, assignment_run, statement_run, statements_from, included, set_keys, create_named}
use Rattle.dml_meaning.specs.BuiltIns.{extend_reached, text_run, own_run, own_call_run}
use Rattle.dml_meaning.specs.Calls.{body_run, function_run, call_by}
use Rattle.dml_meaning.specs.Meaning.{node_run, step_run, steps_run, steps, set_run, assign_run, item_run, eval}
use Rattle.dml_meaning.proofs.Leaves.{LawfulMeans, first_lawful, template_lawful, structure_lawful, look_at_lawful, look_lawful}
use Rattle.dml_meaning.proofs.Values.{change_lawful, steps_lawful, set_keys_lawful}
use Rattle.dml_meaning.proofs.Items.{block_lawful, values_lawful, reach_from_lawful, reach_lawful, condition_lawful, while_turn_lawful, for_turn_lawful, while_lawful, for_lawful, pair_turn_lawful, pairs_lawful, each_lawful, body_lawful, function_lawful, text_run_lawful, own_lawful, own_call_lawful, call_by_lawful, extend_reached_lawful, node_lawful, step_lawful, chain_lawful, set_lawful, assign_lawful, item_lawful, eval_lawful}
use Rattle.dml_meaning.proofs.Create.{LawfulIncludes, dml_lawful, assignment_lawful, statement_lawful, statements_lawful, included_lawful, named_lawful}
use Rattle.dml_meaning.proofs.Evaluated.{fits}

-- where a run goes on, as long as what goes on leaves no more
pub then_leaves : {S X Y : Type 0} → (n : ℕ) (z : Outcome S X) (f : X → S → Meter → Outcome S Y)
    → ((x : X) (s : S) (m : Meter) → LeavesAtMost m.left (f x s m)) → LeavesAtMost n z
    → LeavesAtMost n (then z f)
then_leaves n (Done x s m) f k h = let l = k x s m in omega arith
then_leaves n (Returned t s m) f k h = h
then_leaves n (Failed d m) f k h = h
then_leaves n (Asks q m) f k h = h

pub steps_leave : (n : ℕ) (p : Place) → Leaves (steps n p)
steps_leave n p = left_within (λ k. Unit {0}) 0 (steps n p) (steps_lawful (λ k. Unit {0}) n p)

pub set_keys_leave : (p : Place) (pairs : List Plain) (t : Plain) → Leaves (set_keys p pairs t)
set_keys_leave p pairs t =
    left_within (λ k. Unit {0}) 0 (set_keys p pairs t) (set_keys_lawful (λ k. Unit {0}) p pairs t)

pub first_leaves : (p : Place) (fs : List (List ℕ)) → Leaves (first_present p fs)
first_leaves p fs = left_within (λ k. Unit {0}) 0 (first_present p fs)
    (first_lawful (λ k. Unit {0}) (λ f. tt) p fs)

pub change_leaves : (p : Place) (x : List ℕ) (ks : List Plain) (v : Plain)
    → Leaves (change p x ks v)
change_leaves p x ks v =
    left_within (λ k. Unit {0}) 0 (change p x ks v) (change_lawful (λ k. Unit {0}) p x ks v)

pub extend_leaves : (a : Around) (p : Place) (s : Side) (x : List ℕ) (r : Reached) (u : Plain)
    → Leaves (extend_reached a p s x r u)
extend_leaves a p s x r u =
    left_within (λ k. Unit {0}) 0 (extend_reached a p s x r u)
    (extend_reached_lawful (λ k. Unit {0}) a p s x r u)

module _ (a : Around) (w : IsReading a.reading) where
  pub template_leaves : (p : Place) (name : List ℕ) → Leaves (template_named a p name)
  template_leaves p name = left_within _ 0 _ (template_lawful (MayAsk a.object) a (fits a w) p name)

  pub structure_leaves : (p : Place) (name : List ℕ) → Leaves (structure_named a p name)
  structure_leaves p name =
      left_within _ 0 _ (structure_lawful (MayAsk a.object) a (fits a w) p name)

  pub look_leaves : (p : Place) (t : List ℕ) → Leaves (look a p t)
  look_leaves p t = left_within _ 1 _ (look_lawful (MayAsk a.object) a (fits a w) p t)

  pub look_at_leaves : (p : Place) (t : List ℕ) (from : Anchor) (ms : List Term)
      → Leaves (look_at a p t from ms)
  look_at_leaves p t from ms =
      left_within _ 1 _ (look_at_lawful (MayAsk a.object) a (fits a w) p t from ms)

  pub text_leaves : (p : Place) (b : Own) (t : List ℕ) → Leaves (text_run a p b t)
  text_leaves p b t = left_within _ 1 _ (text_run_lawful (MayAsk a.object) a (fits a w) p b t)

  pub own_leaves : (p : Place) (b : Own) (ts : List Plain) → Leaves (own_run a p b ts)
  own_leaves p b ts = left_within _ 1 _ (own_lawful (MayAsk a.object) a (fits a w) p b ts)

  module _ (n : ℕ) where
    go : LawfulMeans (MayAsk a.object) (eval n)
    go = eval_lawful (MayAsk a.object) n

    pub opens_leaves : (i : Item) → Leaves ((eval n).opens a i)
    opens_leaves i = left_within _ 0 _ (go.opens a (fits a w) i)

    pub signs_leaves : (p : Place) (op : UnaryOp) (x : Node) → Leaves ((eval n).signs a p op x)
    signs_leaves p op x = left_within _ 0 _ (go.signs a (fits a w) p op x)

    pub reaches_leaves : (u : Purpose) (p : Place) (r : Reference)
        → Leaves ((eval n).reaches a u p r)
    reaches_leaves u p r = left_within _ 0 _ (go.reaches a (fits a w) u p r)

    pub block_leaves : (is : Items) (last : Plain) → Leaves (block_from (eval n) a is last)
    block_leaves is last = left_within _ 0 _ (block_lawful _ _ go a (fits a w) is last)

    pub values_leave : (is : Items) (done : List Plain) → Leaves (values_from (eval n) a is done)
    values_leave is done = left_within _ 0 _ (values_lawful _ _ go a (fits a w) is done)

    pub reach_from_leaves : (all : Bool) (p : Place) (is : Items) (ks : List Plain)
        (t : Option Plain) → Leaves (reach_from all (eval n) a p is ks t)
    reach_from_leaves all p is ks t =
        left_within _ 0 _ (reach_from_lawful _ all _ go a (fits a w) p is ks t)

    pub reach_leaves : (u : Purpose) (r : Reference) → Leaves (reach_run (eval n) a u r)
    reach_leaves u r = left_within _ 0 _ (reach_lawful _ _ go a (fits a w) u r)

    pub condition_leaves : (c : Item) → Leaves (condition_run (eval n) a c)
    condition_leaves c = left_within _ 0 _ (condition_lawful _ _ go a (fits a w) c)

    pub while_turn_leaves : (k : ℕ) (p : Place) (c b : Item)
        → Leaves (while_turn k (eval n) a p c b)
    while_turn_leaves k p c b = left_within _ 0 _ (while_turn_lawful _ k _ go a (fits a w) p c b)

    pub for_turn_leaves : (k : ℕ) (p : Place) (c s b : Item)
        → Leaves (for_turn k (eval n) a p c s b)
    for_turn_leaves k p c s b = left_within _ 0 _ (for_turn_lawful _ k _ go a (fits a w) p c s b)

    pub while_leaves : (k : ℕ) (p : Place) (c b : Item) (last : Plain)
        → Leaves (while_turns k (eval n) a p c b last)
    while_leaves k p c b last = left_within _ 0 _ (while_lawful _ k _ go a (fits a w) p c b last)

    pub for_leaves : (k : ℕ) (p : Place) (c s b : Item) (last : Plain)
        → Leaves (for_turns k (eval n) a p c s b last)
    for_leaves k p c s b last = left_within _ 0 _ (for_lawful _ k _ go a (fits a w) p c s b last)

    pub pair_turn_leaves : (k : ℕ) (p : Place) (x y : List ℕ) (b : Item) (pair : Plain × Plain)
        → Leaves (pair_turn k (eval n) a p x y b pair)
    pair_turn_leaves k p x y b pair =
        left_within _ 0 _ (pair_turn_lawful _ k _ go a (fits a w) p x y b pair)

    pub pairs_leave : (k : ℕ) (p : Place) (x y : List ℕ) (b : Item) (pairs : List (Plain × Plain))
        (last : Plain) → Leaves (pair_turns k (eval n) a p x y b pairs last)
    pairs_leave k p x y b pairs last =
        left_within _ 0 _ (pairs_lawful _ k _ go a (fits a w) p x y b pairs last)

    pub each_leaves : (p : Place) (x y : List ℕ) (b : Item) (t : Plain)
        → Leaves (each_of (eval n) a p x y b t)
    each_leaves p x y b t = left_within _ 0 _ (each_lawful _ _ go a (fits a w) p x y b t)

    pub body_leaves : (b : Item) → Leaves (body_run (eval n) a b)
    body_leaves b = left_within _ 0 _ (body_lawful _ _ go a (fits a w) b)

    pub function_leaves : (p : Place) (f : List ℕ) (args : Items) (b : Option Item)
        → Leaves (function_run (eval n) a p f args b)
    function_leaves p f args b = left_within _ 0 _ (function_lawful _ _ go a (fits a w) p f args b)

    pub own_call_leaves : (p : Place) (b : Own) (args : Items)
        → Leaves (own_call_run (eval n) a p b args)
    own_call_leaves p b args = left_within _ 1 _ (own_call_lawful _ _ go a (fits a w) p b args)

    pub call_leaves : (p : Place) (f : List ℕ) (args : Items) (b : Option Own)
        (v : Option ValueCall) → Leaves (call_by (eval n) a p f args b v)
    call_leaves p f args b v = left_within _ 1 _ (call_by_lawful _ _ go a (fits a w) p f args b v)

    pub node_leaves : (x : Node) → Leaves (node_run (eval n) a x)
    node_leaves x = left_within _ 0 _ (node_lawful _ _ go a (fits a w) x)

    pub step_leaves : (p : Place) (t : Plain) (s : Step) → Leaves (step_run (eval n) a p t s)
    step_leaves p t s = left_within _ 0 _ (step_lawful _ _ go a (fits a w) p t s)

    pub chain_leaves : (p : Place) (ss : List Step) (t : Plain)
        → Leaves (steps_run (eval n) a p ss t)
    chain_leaves p ss t = left_within _ 0 _ (chain_lawful _ _ go a (fits a w) p ss t)

    pub set_leaves : (p : Place) (x : List ℕ) (is : Items) (i : Item)
        → Leaves (set_run (eval n) a p x is i)
    set_leaves p x is i = left_within _ 0 _ (set_lawful _ _ go a (fits a w) p x is i)

    pub assign_leaves : (r : Reference) (i : Item) → Leaves (assign_run (eval n) a r i)
    assign_leaves r i = left_within _ 0 _ (assign_lawful _ _ go a (fits a w) r i)

    pub item_leaves : (i : Item) → Leaves (item_run (eval n) a i)
    item_leaves i = left_within _ 0 _ (item_lawful _ _ go a (fits a w) i)

    pub dml_leaves : {S : Type 0} → (fixed : Bool) (s : Plain) (i : Item)
        → Leaves {S = S} (dml_run (eval n) a fixed s i)
    dml_leaves fixed s i = left_within _ 0 _ (dml_lawful _ _ go a (fits a w) fixed s i)

    pub assignment_leaves : {S : Type 0} → (p : Place) (d : List ℕ) (ms : List Term)
        (conditional : Bool) (i : Item) (t : Plain) → Leaves {S = S}
        (assignment_run (eval n) a p d ms conditional i t)
    assignment_leaves p d ms conditional i t =
        left_within _ 0 _ (assignment_lawful _ _ go a (fits a w) p d ms conditional i t)

    pub create_leaves : (p : Place) (pairs : List Plain) (name : List ℕ)
        → Leaves (create_named (eval n) a p pairs name)
    create_leaves p pairs name = left_within _ 0 _ (named_lawful _ _ go a (fits a w) p pairs name)

    module _ (k : ℕ) where
      including : LawfulIncludes (MayAsk a.object) (included k (eval n))
      including = included_lawful _ k _ go

      pub included_leaves : (p : Place) (name : List ℕ) (t : Plain)
          → Leaves (included k (eval n) a p name t)
      included_leaves p name t = left_within _ 0 _ (including a (fits a w) p name t)

      pub statement_leaves : (p : Place) (form : StatementForm) (t : Plain)
          → Leaves (statement_run (included k (eval n)) (eval n) a p form t)
      statement_leaves p form t =
          left_within _ 0 _ (statement_lawful _ _ including _ go a (fits a w) p form t)

      pub statements_leave : (ss : List Statement) (t : Plain)
          → Leaves (statements_from (included k (eval n)) (eval n) a ss t)
      statements_leave ss t = left_within _ 0 _ (statements_lawful _ _ including _ go a (fits a w)
          ss t)

pub ruleset leaving = (
  steps_leave,
  set_keys_leave,
  first_leaves,
  template_leaves,
  structure_leaves,
  look_leaves,
  text_leaves,
  own_leaves,
  opens_leaves,
  signs_leaves,
  reaches_leaves,
  block_leaves,
  values_leave,
  reach_from_leaves,
  reach_leaves,
  condition_leaves,
  while_turn_leaves,
  for_turn_leaves,
  while_leaves,
  for_leaves,
  pair_turn_leaves,
  pairs_leave,
  each_leaves,
  body_leaves,
  function_leaves,
  own_call_leaves,
  call_leaves,
  node_leaves,
  step_leaves,
  chain_leaves,
  set_leaves,
  assign_leaves,
  item_leaves,
  dml_leaves,
  assignment_leaves,
  create_leaves,
  included_leaves,
  statement_leaves,
  statements_leave,
)
