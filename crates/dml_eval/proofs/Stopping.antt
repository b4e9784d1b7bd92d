-- How an evaluation ends where a part of it does: with what the part ends with, and at want of
-- memory
-- as what goes on behind it leaves no more work.
use Rattle.std.proofs.Common.{◌≡◌, ◌∙◌, ap, refl, subst, ℕ, zero, suc, ◌+◌, ◌-◌, ◌<◌, nat_eq, Bool, true, false, not, ◌&&◌, cond, List, [], ◌∷◌, ◌++◌, map, length, drop, get_or, Option, Some, None, is_none, arith}
use Rattle.std.specs.Borrow.{Bor}
use Rattle.std.proofs.lemmas.Bool.Decides.{nat_tests}
use Rattle.path_tree.specs.Plain.{Plain, dict, no_fields, undef}
use Rattle.path_tree.specs.Paths.{path_of}
use Rattle.path_tree.specs.declared.operators.BinaryOp.{BinaryOp}
use Rattle.path_tree.specs.declared.operators.UnaryOp.{UnaryOp}
use Rattle.path_tree.specs.declared.path.Term.{Term}
use Rattle.pan_ast.specs.declared.place.Place.{Place}
use Rattle.pan_ast.specs.declared.fault.Code.TheVariants as code
use Rattle.pan_ast.specs.declared.syntax.Item.{Item as RItem}
use Rattle.pan_ast.specs.declared.template.Statement.{Statement as RStatement}
use Rattle.pan_ast.specs.Seen.{item_seen, items_seen}
use Rattle.pan_ast.specs.Syntax.{Item, Items, Node, Reference, Refer, Step, AtBinary, AtAnd, AtOr, more, none}
use Rattle.pan_ast.specs.Templates.{Template}
use Rattle.pan_ast.specs.Templates as statement
use Rattle.pan_ast.specs.TemplatesSeen.{statement_seen}
use Rattle.questions.specs.Laws.{MayAsk}
use Rattle.questions.specs.Contents.{Answers}
use Rattle.questions.specs.Run.{Meter, Done, ◌>>=◌, give, fail, step, still, then}
use Rattle.questions.specs.Told.{LeavesAtMost}
use Rattle.questions.proofs.Lawful.{Lawful}
use Rattle.questions.proofs.Runs.{Leaves, left_within}
use Rattle.dml_meaning.specs.declared.words.Side.{Side}
use Rattle.dml_meaning.specs.Run.{Env, Run}
use Rattle.dml_meaning.specs.Around.{Around, in_create, in_include, in_template}
use Rattle.dml_meaning.specs.Laws.{IsReading}
use Rattle.dml_meaning.specs.Lookups.{structure_named}
use Rattle.dml_meaning.specs.Means.{Purpose, ToChange, Reached}
use Rattle.dml_meaning.specs.Leaves.{apply_binary, apply_boolean, apply_index, apply_unary, both, either, on_text}
use Rattle.dml_meaning.specs.References.{block_from, index_step, is_change, reach_from, reach_run, reference_in, started, values_from}
use Rattle.dml_meaning.specs.Loops.{after_turn, and_step, body_turn, condition_run, for_turn, for_turns, pair_turn, set_pair, while_turn, while_turns}
use Rattle.dml_meaning.specs.Structures.{assign_by, assign_value, assignment_run, begin_statement, created, dml_run, include_value, included, relative_terms, statement_run, statements_from}
use Rattle.dml_meaning.specs.BuiltIns.{copy_extended, delete_by, exists_by, extend_list, extend_reached, path_exists_run, reference_extended, value_or_nothing}
use Rattle.dml_meaning.specs.Meaning.{eval, node_run, second_run, set_run, set_value, spine_run, step_run, steps_run}
use Rattle.dml_meaning.proofs.Leaves.{LawfulMeans, pieces}
use Rattle.dml_meaning.proofs.Values.{apply_binary_lawful, apply_index_lawful, apply_unary_lawful, set_value_lawful, text_lawful}
use Rattle.dml_meaning.proofs.Create.{assign_value_lawful, include_lawful, included_lawful}
use Rattle.dml_meaning.proofs.Items.{and_step_lawful, argument_lawful, body_turn_lawful, delete_lawful, eval_lawful, exists_by_lawful, exists_lawful, extend_list_lawful, extend_reached_lawful, index_step_lawful, node_lawful, reach_from_lawful}
use Rattle.dml_meaning.proofs.Evaluated.{fits}
use Rattle.dml_meaning.proofs.Leaving.{assignment_leaves, block_leaves, chain_leaves, extend_leaves, for_leaves, opens_leaves, reach_from_leaves, reach_leaves, statements_leave, values_leave, while_leaves}
use Rattle.dml_world.specs.declared.stop.Exit.{Exit}
use Rattle.dml_world.specs.Exits.{Ends}
use Rattle.dml_world.proofs.Ends.{ends_then}
use Rattle.dml_leaves.specs.References.{indexes_back}
use Rattle.dml_eval.specs.Waits.{with_steps}
use Rattle.dml_eval.proofs.Lists.{block_more, no_values, one_value, values_more}
use Rattle.dml_eval.proofs.Owns.{exists_other, one_include, statements_more}
use Rattle.dml_eval.proofs.Reaching.{reach_more}

give_leaves : {X : Type 0} → (x : X) → Leaves {S = Env} (give x)
give_leaves x o s m = omega arith

after_leaves : (next : Plain → Run Plain) (last : Plain) (t : Option Plain)
    → ((u : Plain) → Leaves (next u)) → Leaves (after_turn next last t)
after_leaves next last None h = give_leaves last
after_leaves next last (Some t) h = h t

not_none : (j : ℕ) → 0 < j → nat_eq j 0 ≡ false
not_none j some = grind (arith, nat_tests)

module _ (a : Around) (w : IsReading a.reading) where
  -- where one more may be open

  pub sign_stops : (n : ℕ) (x : Exit) (p : Place) (op : UnaryOp) (y : Node) (o : Answers)
      (e s : Env) (m k : Meter) → 0 < n → Ends x s k (node_run (eval (n - 1)) a y o e m)
      → Ends x s k ((eval n).signs a p op y o e m)
  unfolding eval
  sign_stops zero x p op y o e s m k some end = absurd (omega arith)
  sign_stops (suc n) x p op y o e s m k some end =
      let same : suc n - 1 ≡ n = omega arith in
      let law = λ (t : Plain). left_within (MayAsk a.object) 0 (apply_unary p op t)
      (apply_unary_lawful (MayAsk a.object) p op t) in
      ends_then x s k (node_run (eval n) a y o e m) (λ t. apply_unary p op t o) (λ t. law t o)
      (subst (λ i. Ends x s k (node_run (eval i) a y o e m)) same end)

  pub reference_stops : (n : ℕ) (x : Exit) (u : Purpose) (p : Place) (r : Reference) (o : Answers)
      (e s : Env) (m k : Meter) → Ends x s k (step p o e m)
      → Ends x s k ((eval n).reaches a u p r o e m)
  unfolding eval
  reference_stops zero x u p r o e s m k end =
      ends_then x s k (step p o e m) (λ _. fail {S = Env} {X = Reached} code.CallDepth p o)
      (λ _ t l. omega arith) end
  reference_stops (suc n) x u p r o e s m k end =
      ends_then x s k (step p o e m) (λ _. reach_run (eval n) a u r o)
      (λ _. reach_leaves a w n u r o) end

  pub start_stops : (n : ℕ) (x : Exit) (u : Purpose) (p q : Place) (y : List ℕ) (is : Items)
      (o : Answers) (e s c : Env) (m k l : Meter) → 0 < n → step p o e m ≡ Done tt s l
      → Ends x c k (started a u (Refer q y is) o s l)
      → Ends x c k ((eval n).reaches a u p (Refer q y is) o e m)
  unfolding eval reach_run
  start_stops zero x u p q y is o e s c m k l some begun end = absurd (omega arith)
  start_stops (suc n) x u p q y is o e s c m k l some begun end =
      rw begun (ends_then x c k (started a u (Refer q y is) o s l)
      (λ v. reach_from (is_change u) (eval n) a q is [] v o)
      (λ v. reach_from_leaves a w n (is_change u) q is [] v o) end)

  pub reference_goes : (n : ℕ) (u : Purpose) (p q : Place) (y : List ℕ) (is : Items)
      (v : Option Plain) (o : Answers) (e s t : Env) (m k l : Meter) → 0 < n → step p o e m
      ≡ Done tt s l → started a u (Refer q y is) o s l ≡ Done v t k
      → (eval n).reaches a u p (Refer q y is) o e m
      ≡ reach_from (is_change u) (eval (n - 1)) a q is [] v o t k
  unfolding eval reach_run
  reference_goes zero u p q y is v o e s t m k l some begun found = absurd (omega arith)
  reference_goes (suc n) u p q y is v o e s t m k l some begun found = let same : suc n - 1 ≡ n =
      omega arith in rw (begun, found, same) refl

  module _ (n : ℕ) where
    go : LawfulMeans (MayAsk a.object) (eval n)
    go = eval_lawful (MayAsk a.object) n

    leaves : {X : Type 0} → (r : Run X) → Lawful (MayAsk a.object) 0 r → Leaves r
    leaves r h = left_within (MayAsk a.object) 0 r h

    -- items, one after the other

    pub block_stops : (x : Exit) (is : List RItem) (i : ℕ) (f : RItem) (last : Plain) (o : Answers)
        (e s : Env) (m k : Meter) → i < length is → f ≡ get_or is i f
        → Ends x s k ((eval n).opens a (item_seen f) o e m)
        → Ends x s k (block_from (eval n) a (items_seen (drop i is)) last o e m)
    block_stops x is i f last o e s m k below same end =
        rw (block_more (eval n) a is i f last o e m below same)
        (ends_then x s k ((eval n).opens a (item_seen f) o e m)
        (λ t. block_from (eval n) a (items_seen (drop (i + 1) is)) t o)
        (λ t. block_leaves a w n (items_seen (drop (i + 1) is)) t o) end)

    pub values_stop : (x : Exit) (is : List RItem) (i : ℕ) (f : RItem) (done : List Plain)
        (o : Answers) (e s : Env) (m k : Meter) → i < length is → f ≡ get_or is i f
        → Ends x s k ((eval n).opens a (item_seen f) o e m)
        → Ends x s k (values_from (eval n) a (items_seen (drop i is)) done o e m)
    values_stop x is i f done o e s m k below same end =
        rw (values_more (eval n) a is i f done o e m below same)
        (ends_then x s k ((eval n).opens a (item_seen f) o e m)
        (λ t. values_from (eval n) a (items_seen (drop (i + 1) is)) (done ++ t ∷ []) o)
        (λ t. values_leave a w n (items_seen (drop (i + 1) is)) (done ++ t ∷ []) o) end)

    -- a value that cannot be kept
    pub values_left : (is : List RItem) (i : ℕ) (f : RItem) (done : List Plain) (t : Plain)
        (o : Answers) (e s : Env) (m k : Meter) → i < length is → f ≡ get_or is i f
        → (eval n).opens a (item_seen f) o e m ≡ Done t s k
        → LeavesAtMost k.left (values_from (eval n) a (items_seen (drop i is)) done o e m)
    values_left is i f done t o e s m k below same opened =
        rw (values_more (eval n) a is i f done o e m below same, opened)
        (values_leave a w n (items_seen (drop (i + 1) is)) (done ++ t ∷ []) o s k)

    -- assignments

    right_leaves : (p : Place) (y : List ℕ) (i : Item) (ks : List Plain)
        → Leaves ((eval n).opens a i >>= set_value p y ks)
    right_leaves p y i ks = let suited = fits a w in
        leaves ((eval n).opens a i >>= set_value p y ks) (search (pieces, go, set_value_lawful))

    pub keys_stop : (x : Exit) (p : Place) (y : List ℕ) (is : Items) (i : Item) (o : Answers)
        (e s : Env) (m k : Meter) → Ends x s k (values_from (eval n) a is [] o e m)
        → Ends x s k (set_run (eval n) a p y is i o e m)
    unfolding set_run
    keys_stop x p y is i o e s m k end =
        ends_then x s k (values_from (eval n) a is [] o e m)
        (λ ks. ((eval n).opens a i >>= set_value p y ks) o) (λ ks. right_leaves p y i ks o) end

    pub right_stops : (x : Exit) (p : Place) (y : List ℕ) (is : Items) (i : Item) (ks : List Plain)
        (o : Answers) (e s c : Env) (m k l : Meter) → values_from (eval n) a is [] o e m
        ≡ Done ks s l → Ends x c k ((eval n).opens a i o s l)
        → Ends x c k (set_run (eval n) a p y is i o e m)
    unfolding set_run
    right_stops x p y is i ks o e s c m k l keys end =
        rw keys (ends_then x c k ((eval n).opens a i o s l) (λ v. set_value p y ks v o)
        (λ v. leaves (set_value p y ks v) (set_value_lawful (MayAsk a.object) p y ks v) o) end)

    pub whole_stops : (x : Exit) (p : Place) (y : List ℕ) (i : Item) (o : Answers) (e s : Env)
        (m k : Meter) → Ends x s k ((eval n).opens a i o e m)
        → Ends x s k (set_run (eval n) a p y none i o e m)
    whole_stops x p y i o e s m k end =
        right_stops x p y none i [] o e e s m k m (no_values (eval n) a [] o e m) end

    pub place_stops : (x : Exit) (p : Place) (y : List ℕ) (h i : Item) (o : Answers) (e s : Env)
        (m k : Meter) → Ends x s k ((eval n).opens a h o e m)
        → Ends x s k (set_run (eval n) a p y (more h none) i o e m)
    place_stops x p y h i o e s m k end =
        keys_stop x p y (more h none) i o e s m k
        (rw (one_value (eval n) a h o e m) (ends_then x s k ((eval n).opens a h o e m)
        (λ t. give (t ∷ []) o) (λ t. give_leaves (t ∷ []) o) end))

    pub set_stops : (x : Exit) (p : Place) (y : List ℕ) (h i : Item) (t : Plain) (o : Answers)
        (e s c : Env) (m k l : Meter) → (eval n).opens a h o e m ≡ Done t s l
        → Ends x c k ((eval n).opens a i o s l)
        → Ends x c k (set_run (eval n) a p y (more h none) i o e m)
    set_stops x p y h i t o e s c m k l opened end =
        right_stops x p y (more h none) i (t ∷ []) o e s c m k l
        (one_value (eval n) a h o e m ∙ ap (λ z. then z (λ u. give (u ∷ []) o)) opened) end

    -- chains

    pub spine_stops : (x : Exit) (p : Place) (y : Node) (ss : List Step) (o : Answers) (e s : Env)
        (m k : Meter) → Ends x s k (node_run (eval n) a y o e m)
        → Ends x s k (spine_run (eval n) a p y ss o e m)
    spine_stops x p y ss o e s m k end =
        ends_then x s k (node_run (eval n) a y o e m) (λ t. steps_run (eval n) a p ss t o)
        (λ t. chain_leaves a w n p ss t o) end

    right_after : (p : Place) (op : BinaryOp) (y : Node) (t : Plain)
        → Leaves (node_run (eval n) a y >>= apply_binary p op t)
    right_after p op y t = let suited = fits a w in
        leaves (node_run (eval n) a y >>= apply_binary p op t)
        (search (pieces, go, node_lawful, apply_binary_lawful))

    pub pair_stops_left : (x : Exit) (p : Place) (op : BinaryOp) (y z : Node) (o : Answers)
        (e s : Env) (m k : Meter) → Ends x s k (node_run (eval n) a y o e m)
        → Ends x s k ((node_run (eval n) a y
        >>= (λ t. node_run (eval n) a z >>= apply_binary p op t)) o e m)
    pair_stops_left x p op y z o e s m k end =
        ends_then x s k (node_run (eval n) a y o e m)
        (λ t. (node_run (eval n) a z >>= apply_binary p op t) o) (λ t. right_after p op z t o) end

    pub pair_stops_right : (x : Exit) (p : Place) (op : BinaryOp) (y z : Node) (t : Plain)
        (o : Answers) (e s c : Env) (m k l : Meter) → node_run (eval n) a y o e m ≡ Done t s l
        → Ends x c k (node_run (eval n) a z o s l)
        → Ends x c k ((node_run (eval n) a y
        >>= (λ u. node_run (eval n) a z >>= apply_binary p op u)) o e m)
    pair_stops_right x p op y z t o e s c m k l ready end =
        rw ready (ends_then x c k (node_run (eval n) a z o s l) (λ u. apply_binary p op t u o)
        (λ u. leaves (apply_binary p op t u) (apply_binary_lawful (MayAsk a.object) p op t u) o) end)

    index_after : (p : Place) (i : Item) (t : Plain)
        → Leaves ((eval n).opens a i >>= apply_index p t)
    index_after p i t = let suited = fits a w in
        leaves ((eval n).opens a i >>= apply_index p t)
        (search (pieces, go, apply_index_lawful))

    pub container_stops : (x : Exit) (p : Place) (y : Node) (i : Item) (o : Answers) (e s : Env)
        (m k : Meter) → Ends x s k (node_run (eval n) a y o e m)
        → Ends x s k ((node_run (eval n) a y >>= (λ t. (eval n).opens a i >>= apply_index p t)) o
        e m)
    container_stops x p y i o e s m k end =
        ends_then x s k (node_run (eval n) a y o e m)
        (λ t. ((eval n).opens a i >>= apply_index p t) o) (λ t. index_after p i t o) end

    pub element_stops : (x : Exit) (p : Place) (y : Node) (i : Item) (t : Plain) (o : Answers)
        (e s c : Env) (m k l : Meter) → node_run (eval n) a y o e m ≡ Done t s l
        → Ends x c k ((eval n).opens a i o s l)
        → Ends x c k ((node_run (eval n) a y >>= (λ u. (eval n).opens a i >>= apply_index p u)) o
        e m)
    element_stops x p y i t o e s c m k l ready end =
        rw ready (ends_then x c k ((eval n).opens a i o s l) (λ u. apply_index p t u o)
        (λ u. leaves (apply_index p t u) (apply_index_lawful (MayAsk a.object) p t u) o) end)

    pub chain_stops : (x : Exit) (p : Place) (ss : List Step) (r : Run Plain) (o : Answers)
        (e s : Env) (m k : Meter) → Ends x s k (r o e m)
        → Ends x s k (with_steps (eval n) a p ss r o e m)
    chain_stops x p ss r o e s m k end =
        ends_then x s k (r o e m) (λ t. steps_run (eval n) a p ss t o)
        (λ t. chain_leaves a w n p ss t o) end

    pub operand_stops : (x : Exit) (p : Place) (t : Plain) (op : BinaryOp) (y : Node) (o : Answers)
        (e s : Env) (m k : Meter) → Ends x s k (node_run (eval n) a y o e m)
        → Ends x s k (step_run (eval n) a p t (AtBinary op y) o e m)
    unfolding step_run
    operand_stops x p t op y o e s m k end =
        ends_then x s k (node_run (eval n) a y o e m) (λ u. apply_binary p op t u o)
        (λ u. leaves (apply_binary p op t u) (apply_binary_lawful (MayAsk a.object) p op t u) o) end

    pub applied_stops : (x : Exit) (p : Place) (t u : Plain) (op : BinaryOp) (y : Node)
        (o : Answers) (e s c : Env) (m k l : Meter) → node_run (eval n) a y o e m ≡ Done u s l
        → Ends x c k (apply_binary p op t u o s l) → Ends x c k
        (step_run (eval n) a p t (AtBinary op y) o e m)
    unfolding step_run
    applied_stops x p t u op y o e s c m k l ready end = rw ready end

    pub both_stop : (x : Exit) (p : Place) (t : Plain) (y : Node) (o : Answers) (e s : Env)
        (m k : Meter) → both p (node_run (eval n) a y) t o e m ≡ apply_boolean p t o e m
        → Ends x s k (apply_boolean p t o e m) → Ends x s k
        (step_run (eval n) a p t (AtAnd y) o e m)
    unfolding step_run
    both_stop x p t y o e s m k same end = rw same end

    pub either_stops : (x : Exit) (p : Place) (t : Plain) (y : Node) (o : Answers) (e s : Env)
        (m k : Meter) → either p (node_run (eval n) a y) t o e m ≡ apply_boolean p t o e m
        → Ends x s k (apply_boolean p t o e m) → Ends x s k (step_run (eval n) a p t (AtOr y) o e m)
    unfolding step_run
    either_stops x p t y o e s m k same end = rw same end

    pub second_stops : (x : Exit) (p : Place) (u : Plain) (y : Node) (o : Answers) (e s c : Env)
        (m k l : Meter) → node_run (eval n) a y o e m ≡ Done u s l
        → Ends x c k (apply_boolean p u o s l) → Ends x c k (second_run (eval n) a p y o e m)
    second_stops x p u y o e s c m k l ready end = rw ready end

    -- arguments

    pub value_leaves : (i : Item) (r : Option Reference) → Leaves (value_or_nothing (eval n) a i r)
    value_leaves i r = leaves (value_or_nothing (eval n) a i r)
        (argument_lawful _ _ go a (fits a w) i r)

    pub exists_leaves : (p : Place) (i : Item) (r : Option Reference)
        → Leaves (exists_by (eval n) a p i r)
    exists_leaves p i r = left_within (MayAsk a.object) 1 (exists_by (eval n) a p i r)
        (exists_by_lawful _ _ go a (fits a w) p i r)

    path_leaves : (p : Place) (t : Plain) → Leaves (on_text p (path_exists_run a p) t)
    path_leaves p t = left_within (MayAsk a.object) 1 (on_text p (path_exists_run a p) t)
        (text_lawful (MayAsk a.object) 1 p (path_exists_run a p) t
        (exists_lawful (MayAsk a.object) a (fits a w) p))

    pub exists_stops : (x : Exit) (p : Place) (i : Item) (o : Answers) (e s : Env) (m k : Meter)
        → None ≡ reference_in i → Ends x s k ((eval n).opens a i o e m)
        → Ends x s k (exists_by (eval n) a p i (reference_in i) o e m)
    exists_stops x p i o e s m k other end =
        rw (exists_other (eval n) a p i o e m other) (ends_then x s k ((eval n).opens a i o e m)
        (λ t. on_text p (path_exists_run a p) t o) (λ t. path_leaves p t o) end)

    pub delete_leaves : (p : Place) (i : Item) (r : Option Reference)
        → Leaves (delete_by (eval n) a p i r)
    delete_leaves p i r = leaves (delete_by (eval n) a p i r)
        (delete_lawful _ _ go a (fits a w) p i r)

    copied_leaves : (p : Place) (side : Side) (v : Item) (t : Plain)
        → Leaves ((eval n).opens a v >>= extend_list p side t)
    copied_leaves p side v t = let suited = fits a w in
        leaves ((eval n).opens a v >>= extend_list p side t)
        (search (pieces, go, extend_list_lawful))

    pub copy_stops : (x : Exit) (p : Place) (side : Side) (l v : Item) (o : Answers) (e s : Env)
        (m k : Meter) → Ends x s k ((eval n).opens a l o e m)
        → Ends x s k (copy_extended (eval n) a p side l v o e m)
    copy_stops x p side l v o e s m k end =
        ends_then x s k ((eval n).opens a l o e m) (λ t.
        ((eval n).opens a v >>= extend_list p side t) o) (λ t. copied_leaves p side v t o) end

    extended_leaves : (p : Place) (side : Side) (y : List ℕ) (v : Item) (r : Reached)
        → Leaves ((eval n).opens a v >>= extend_reached a p side y r)
    extended_leaves p side y v r = let suited = fits a w in
        leaves ((eval n).opens a v >>= extend_reached a p side y r)
        (search (pieces, go, extend_reached_lawful))

    pub reached_stops : (x : Exit) (p : Place) (side : Side) (q z : Place) (y : List ℕ) (is : Items)
        (v : Item) (o : Answers) (e s : Env) (m k : Meter)
        → Ends x s k ((eval n).reaches a ToChange q (Refer z y is) o e m)
        → Ends x s k (reference_extended (eval n) a p side q (Refer z y is) v o e m)
    reached_stops x p side q z y is v o e s m k end =
        ends_then x s k ((eval n).reaches a ToChange q (Refer z y is) o e m)
        (λ r. ((eval n).opens a v >>= extend_reached a p side y r) o)
        (λ r. extended_leaves p side y v r o) end

    pub extended_stops : (x : Exit) (p : Place) (side : Side) (q z : Place) (y : List ℕ)
        (is : Items) (v : Item) (r : Reached) (o : Answers) (e s c : Env) (m k l : Meter)
        → (eval n).reaches a ToChange q (Refer z y is) o e m ≡ Done r s l
        → Ends x c k ((eval n).opens a v o s l) → Ends x c k
        (reference_extended (eval n) a p side q (Refer z y is) v o e m)
    extended_stops x p side q z y is v r o e s c m k l reached end =
        rw reached (ends_then x c k ((eval n).opens a v o s l)
        (λ u. extend_reached a p side y r u o) (λ u. extend_leaves a p side y r u o) end)

    -- the indexes of a reference, the last of which stands first
    pub index_stops : (x : Exit) (all : Bool) (p : Place) (is js : List (Bor RItem)) (i : Bor RItem)
        (ks : List Plain) (t : Option Plain) (o : Answers) (e s : Env) (m k : Meter)
        → (is_none t && not all) ≡ false → is ≡ js ++ i ∷ []
        → Ends x s k ((eval n).opens a (item_seen i.now) o e m)
        → Ends x s k (reach_from all (eval n) a p (indexes_back is none) ks t o e m)
    index_stops x all p is js i ks t o e s m k goes last end =
        rw (last, reach_more all (eval n) a p js i ks t o e m goes)
        (ends_then x s k ((eval n).opens a (item_seen i.now) o e m)
        (λ u. (index_step p t u >>= reach_from all (eval n) a p (indexes_back js none)
        (ks ++ u ∷ [])) o) (λ u. reached_leaves u o) end)
      where
        reached_leaves : (u : Plain)
            → Leaves (index_step p t u >>= reach_from all (eval n) a p (indexes_back js none)
            (ks ++ u ∷ []))
        reached_leaves u = let suited = fits a w in
            leaves (index_step p t u >>= reach_from all (eval n) a p (indexes_back js none)
            (ks ++ u ∷ [])) (search (pieces, go, index_step_lawful, reach_from_lawful))

    -- loops

    turn_leaves : (j : ℕ) (p : Place) (b : Item) (holds : Bool)
        → Leaves (cond holds (body_turn j p ((eval n).opens a b) >>= (λ t. give (Some t)))
        (give None))
    turn_leaves j p b holds = let suited = fits a w in
        leaves (cond holds (body_turn j p ((eval n).opens a b) >>= (λ t. give (Some t)))
        (give None)) (search (pieces, go, body_turn_lawful))

    pub condition_stops : (x : Exit) (j : ℕ) (p : Place) (c b : Item) (o : Answers) (e s : Env)
        (m k : Meter) → Ends x s k (condition_run (eval n) a c o e m)
        → Ends x s k (while_turn j (eval n) a p c b o e m)
    unfolding while_turn
    condition_stops x j p c b o e s m k end =
        ends_then x s k (condition_run (eval n) a c o e m)
        (λ holds. cond holds (body_turn j p ((eval n).opens a b) >>= (λ t. give (Some t)))
        (give None) o) (λ holds. turn_leaves j p b holds o) end

    pub while_stops : (j : ℕ) (x : Exit) (p : Place) (c b : Item) (last : Plain) (o : Answers)
        (e s : Env) (m k : Meter) → Ends x s k (while_turn j (eval n) a p c b o e m)
        → Ends x s k (while_turns j (eval n) a p c b last o e m)
    unfolding while_turns
    while_stops zero x p c b last o e s m k end =
        ends_then x s k (while_turn 0 (eval n) a p c b o e m) (λ t. after_turn give last t o)
        (λ t. after_leaves give last t give_leaves o) end
    while_stops (suc j) x p c b last o e s m k end =
        ends_then x s k (while_turn (suc j) (eval n) a p c b o e m)
        (λ t. after_turn (while_turns j (eval n) a p c b) last t o)
        (λ t. after_leaves (while_turns j (eval n) a p c b) last t (while_leaves a w n j p c b) o)
        end

    step_leaves : (i : Item) (t : Option Plain) → Leaves (and_step ((eval n).opens a i) t)
    step_leaves i t = leaves (and_step ((eval n).opens a i) t)
        (and_step_lawful (MayAsk a.object) ((eval n).opens a i) t (go.opens a (fits a w) i))

    pub turn_stops : (x : Exit) (j : ℕ) (p : Place) (c i b : Item) (o : Answers) (e s : Env)
        (m k : Meter) → Ends x s k (while_turn j (eval n) a p c b o e m)
        → Ends x s k (for_turn j (eval n) a p c i b o e m)
    unfolding for_turn
    turn_stops x j p c i b o e s m k end =
        ends_then x s k (while_turn j (eval n) a p c b o e m)
        (λ t. and_step ((eval n).opens a i) t o) (λ t. step_leaves i t o) end

    pub for_stops : (j : ℕ) (x : Exit) (p : Place) (c i b : Item) (last : Plain) (o : Answers)
        (e s : Env) (m k : Meter) → Ends x s k (for_turn j (eval n) a p c i b o e m)
        → Ends x s k (for_turns j (eval n) a p c i b last o e m)
    unfolding for_turns
    for_stops zero x p c i b last o e s m k end =
        ends_then x s k (for_turn 0 (eval n) a p c i b o e m) (λ t. after_turn give last t o)
        (λ t. after_leaves give last t give_leaves o) end
    for_stops (suc j) x p c i b last o e s m k end =
        ends_then x s k (for_turn (suc j) (eval n) a p c i b o e m)
        (λ t. after_turn (for_turns j (eval n) a p c i b) last t o)
        (λ t. after_leaves (for_turns j (eval n) a p c i b) last t (for_leaves a w n j p c i b) o)
        end

    pub pair_stops : (j : ℕ) (x : Exit) (p : Place) (y z : List ℕ) (b : Item) (pair : Plain × Plain)
        (o : Answers) (e s : Env) (m k : Meter) → 0 < j → Ends x s k (set_pair a p y z pair o e m)
        → Ends x s k (pair_turn j (eval n) a p y z b pair o e m)
    unfolding pair_turn
    pair_stops j x p y z b pair o e s m k some end =
        rw (not_none j some) (ends_then x s k (set_pair a p y z pair o e m)
        (λ _. (eval n).opens a b o) (λ _. opens_leaves a w n b o) end)

    -- structure templates

    pub made_leaves : (p : Place) (y : List ℕ) (z : Template) (o : Answers) (e s : Env)
        (m k : Meter) → still (structure_named a p y) o e m ≡ Done z s k
        → LeavesAtMost k.left (created (eval n) a p y o e m)
    made_leaves p y z o e s m k found =
        rw found (statements_leave (in_template (in_create a) z.name) w n a.includes_left
        z.statements (dict no_fields) o s k)

    pub statements_stop : (x : Exit) (j : ℕ) (ss : List RStatement) (i : ℕ) (f : RStatement)
        (t : Plain) (o : Answers) (e s : Env) (m k : Meter) → i < length ss → f ≡ get_or ss i f
        → Ends x s k (begin_statement (included j (eval n)) (eval n) a (statement_seen f) t o e m)
        → Ends x s k (statements_from (included j (eval n)) (eval n) a
        (map statement_seen (drop i ss)) t o e m)
    statements_stop x j ss i f t o e s m k below same end =
        rw (statements_more (included j (eval n)) (eval n) a ss i f t o e m below same)
        (ends_then x s k (begin_statement (included j (eval n)) (eval n) a (statement_seen f) t o e
        m) (λ u. statements_from (included j (eval n)) (eval n) a
        (map statement_seen (drop (i + 1) ss)) u o) (λ u. statements_leave a w n j
        (map statement_seen (drop (i + 1) ss)) u o) end)

    pub terms_stop : (x : Exit) (p : Place) (d : List ℕ) (c : Bool) (i : Item) (t : Plain)
        (o : Answers) (e s : Env) (m k : Meter) → Ends x s k (relative_terms p d (path_of d) o e m)
        → Ends x s k (assign_by (eval n) a p d c i t o e m)
    terms_stop x p d c i t o e s m k end =
        ends_then x s k (relative_terms p d (path_of d) o e m)
        (λ ms. assignment_run (eval n) a p d ms c i t o)
        (λ ms. assignment_leaves a w n p d ms c i t o) end

    pub assigned_leaves : (p : Place) (d : List ℕ) (ms : List Term) (i : Item) (t : Plain)
        → Leaves {S = Env} (assign_value (eval n) a p d ms i t)
    assigned_leaves p d ms i t =
        leaves (assign_value (eval n) a p d ms i t) (assign_value_lawful _ _ go a (fits a w) p d ms
        i t)

    pub include_stops : (x : Exit) (j : ℕ) (p : Place) (i : Item) (t : Plain) (o : Answers)
        (e s : Env) (m k : Meter) → Ends x s k (dml_run (eval n) a true undef i o e m)
        → Ends x s k (statement_run (included j (eval n)) (eval n) a p (statement.Include i) t o e
        m)
    unfolding statement_run
    include_stops x j p i t o e s m k end =
        ends_then x s k (dml_run (eval n) a true undef i o e m)
        (λ v. include_value (included j (eval n)) a p t v o)
        (λ v. leaves (include_value (included j (eval n)) a p t v)
        (include_lawful (MayAsk a.object) (included j (eval n))
        (included_lawful (MayAsk a.object) j (eval n) go) a (fits a w) p t v) o) end

    pub included_stops : (j : ℕ) (x : Exit) (p : Place) (y : List ℕ) (t : Plain) (o : Answers)
        (e s : Env) (m k : Meter) → 0 < j → Ends x s k (still (structure_named a p y) o e m)
        → Ends x s k (included j (eval n) a p y t o e m)
    included_stops j x p y t o e s m k some end =
        rw (one_include j (eval n) a p y t o e m some)
        (ends_then x s k (still (structure_named a p y) o e m)
        (λ z. statements_from (included (j - 1) (eval n)) (eval n)
        (in_template (in_include a) z.name) z.statements t o)
        (λ z. statements_leave (in_template (in_include a) z.name) w n (j - 1) z.statements t o)
        end)
