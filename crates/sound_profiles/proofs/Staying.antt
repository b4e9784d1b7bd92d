-- Checks never return: DML that returns ends itself alone.
use Rattle.std.proofs.Common.{ℕ, ◌+◌, List, [], ◌∷◌, Option, Some, None, Bool, true, false, cond, Result, Ok, Err, nat_eq}
use Rattle.path_tree.specs.Plain.{Plain, Items, no_items, item, Fields as Values, no_fields, field}
use Rattle.path_tree.specs.Find.{find_field}
use Rattle.path_tree.specs.declared.path.Path.{Path}
use Rattle.path_tree.specs.declared.path.Anchor.{Anchor}
use Rattle.path_tree.specs.declared.path.Anchor.TheVariants as anchor
use Rattle.path_tree.specs.declared.path.Term.{Term}
use Rattle.pan_ast.specs.declared.fault.Fault.{Fault}
use Rattle.pan_ast.specs.declared.place.Place.{Place}
use Rattle.pan_ast.specs.Syntax.{Item}
use Rattle.questions.specs.declared.key.Key.{Key}
use Rattle.questions.specs.Contents.{Content, Answers}
use Rattle.questions.specs.Contents as content
use Rattle.questions.specs.Run.{Meter, Outcome, Done, Returned, Failed, Asks, Run, then, ◌>>=◌, give, fail_with, step, stepped, ask, answered, ended, scoped}
use Rattle.dml_meaning.specs.Around.{Around}
use Rattle.dml_meaning.specs.Lookups.{looked_under, look_at}
use Rattle.dml_meaning.specs.Means.{Means as Opens}
use Rattle.dml_meaning.specs.Structures.{dml_run}
use Rattle.type_defs.specs.Bindings.{Bound, Valid}
use Rattle.type_defs.specs.Resolved.{Resolved, Known, Shape, OfBase, Named, Ranged, ListOf, DictOf, Link, Record, Choice, Fields, none, more}
use Rattle.validate.specs.Check.{visit, truth, condition_run, target_run, items_run, values_run, field_run, no_other, check, shape_run, fields_run}
use Rattle.validate.specs.Checked.{undef_run, placed, bound_run, bounds_run, valid_run, valids_run, checked}
use Rattle.validate.specs.Means.{Means, found_run}
use Rattle.validate.specs.Refusals.{Refusal, Checks, unless_refused, or_refuse}

abbrev pub IsNoReturn : {S X : Type 0} → Outcome S X → Type 0
IsNoReturn (Returned t s m) = ⊥
IsNoReturn z = Unit {0}

pub record Stays {S X : Type 0} (r : Run S X) : Type 0 where
  pub ends : (o : Answers) (s : S) (m : Meter) → IsNoReturn (r o s m)

then_stays : {S X Y : Type 0} → (z : Outcome S X) (f : X → S → Meter → Outcome S Y)
    → ((x : X) (s : S) (m : Meter) → IsNoReturn (f x s m)) → IsNoReturn z → IsNoReturn (then z f)
then_stays (Done x s m) f h e = h x s m
then_stays (Returned t s m) f h e = absurd e
then_stays (Failed d m) f h e = tt
then_stays (Asks k m) f h e = tt

stepped_stays : {S : Type 0} → (b : Bool) (p : Place) (s : S) (m : Meter)
    → IsNoReturn (stepped b p s m)
stepped_stays true p s m = tt
stepped_stays false p s m = tt

answered_stays : {S : Type 0} → (a : Option Content) (k : Key) (s : S) (m : Meter)
    → IsNoReturn (answered a k s m)
answered_stays None k s m = tt
answered_stays (Some c) k s m = tt

ended_stays : {S T : Type 0} → (out : T → S) (z : Outcome T Plain) → IsNoReturn (ended out z)
ended_stays out (Done t s m) = tt
ended_stays out (Returned t s m) = tt
ended_stays out (Failed f m) = tt
ended_stays out (Asks k m) = tt

module _ {S : Type 0} where
  give_stays : {X : Type 0} → (x : X) → Stays {S = S} (give x)
  give_stays x = record { ends = λ o s m. tt }

  fail_stays : {X : Type 0} → (f : Fault) → Stays {S = S} {X = X} (fail_with f)
  fail_stays f = record { ends = λ o s m. tt }

  cond_stays : {X : Type 0} → (b : Bool) (r r' : Run S X) → Stays r → Stays r' → Stays (cond b r r')
  cond_stays true r r' h k = h
  cond_stays false r r' h k = k

  bind_stays : {X Y : Type 0} → (r : Run S X) (f : X → Run S Y) → Stays r → ((x : X) → Stays (f x))
      → Stays (r >>= f)
  bind_stays r f a b = record {
    ends =
        λ o s m. then_stays (r o s m) (λ x. f x o) (λ x. (b x).ends o) (a.ends o s m);
  }

  step_stays : (p : Place) → Stays {S = S} (step p)
  step_stays p = record { ends = λ o s m. stepped_stays (nat_eq m.left 0) p s m }

  ask_stays : (k : Key) → Stays {S = S} (ask k)
  ask_stays k = record { ends = λ o s m. answered_stays (o k) k s m }

scoped_stays : {S T : Type 0} → (inner : S → T) (outer : S → T → S) (r : Run T Plain)
    → Stays (scoped inner outer r)
scoped_stays inner outer r = record { ends = λ o s m. ended_stays (outer s) (r o (inner s) m) }

-- what a check takes of the language

pub dml_stays : {S : Type 0} → (go : Opens) (a : Around) (fixed : Bool) (v : Plain) (i : Item)
    → Stays {S = S} (dml_run go a fixed v i)
unfolding dml_run
dml_stays go a fixed v i = search scoped_stays

ruleset runs = (bind_stays, give_stays, fail_stays, cond_stays, step_stays, ask_stays)

under_stays : (p : Place) (o : List ℕ) (c : Content) → Stays (looked_under p o c)
under_stays p o content.Failed = search runs
under_stays p o content.Circular = search runs
under_stays p o content.NoValue = search runs
under_stays p o (content.Value t) = search runs
under_stays p o _ = search runs

pub look_stays : (a : Around) (p : Place) (t : List ℕ) (from : Anchor) (ms : List Term)
    → Stays (look_at a p t from ms)
look_stays a p t anchor.Absolute ms = search runs
look_stays a p t anchor.Relative ms = search runs
look_stays a p t (anchor.External o) ms = search (runs, under_stays)

-- checks

pub record StayingMeans (e : Means) : Type 0 where
  pub dml : (template : List ℕ) (i : Item) (v : Plain) → Stays (e.dml template i v)
  pub look : (p : Place) (path : Path) → Stays (e.look p path)

test_stays : (e : Means) → StayingMeans e → (template : List ℕ) (i : Item) (v : Plain)
    → Stays (e.dml template i v)
test_stays e h = h.dml

there_stays : (e : Means) → StayingMeans e → (p : Place) (path : Path) → Stays (e.look p path)
there_stays e h = h.look

unless_stays : {X Y : Type 0} → (f : X → Checks Y) (x : Result X Refusal) → ((y : X) → Stays (f y))
    → Stays (unless_refused f x)
unless_stays f (Ok y) h = h y
unless_stays f (Err r) h = give_stays (Err r)

refuse_stays : {X : Type 0} → (c : _) (x : Option X) → Stays (or_refuse c x)
refuse_stays c None = search runs
refuse_stays c (Some x) = search runs

truth_stays : (p : Place) (b : Option Bool) → Stays (truth p b)
truth_stays p None = search runs
truth_stays p (Some b) = search runs

ruleset pieces = (runs, unless_stays, test_stays, there_stays, refuse_stays, truth_stays)

module _ (e : Means) (h : StayingMeans e) where
  condition_stays : (p : Place) (c : Option Item) (template : List ℕ) (v : Plain)
      → Stays (condition_run e p c template v)
  unfolding condition_run
  condition_stays p None template v = search pieces
  condition_stays p (Some i) template v = search pieces

  target_stays : (p : Place) (path : Option Path) → Stays (target_run e p path)
  unfolding target_run found_run
  target_stays p None = search pieces
  target_stays p (Some path) = search pieces

  items_stay : (f : Plain → Checks (Unit {0})) → ((v : Plain) → Stays (f v)) → (i : ℕ) (ts : Items)
      → Stays (items_run f i ts)
  unfolding items_run
  items_stay f k i no_items = search pieces
  items_stay f k i (item t ts) = let next = items_stay f k (i + 1) ts in search pieces

  values_stay : (f : Plain → Checks (Unit {0})) → ((v : Plain) → Stays (f v)) → (fs : Values)
      → Stays (values_run f fs)
  unfolding values_run
  values_stay f k no_fields = search pieces
  values_stay f k (field l t fs) = let next = values_stay f k fs in search pieces

  field_stays : (f : Plain → Checks (Unit {0})) → ((v : Plain) → Stays (f v))
      → (k : List ℕ) (required : Bool) (v : Option Plain) → Stays (field_run k required f v)
  unfolding field_run
  field_stays f g k required None = search pieces
  field_stays f g k required (Some v) = search pieces

  no_other_stays : (k : Option (List ℕ)) → Stays (no_other k)
  no_other_stays None = search pieces
  no_other_stays (Some k) = search pieces

  mutual
    unfolding visit

    check_stays : (p : Place) (t : Resolved) (v : Plain) → Stays (check e p t v)
    check_stays p (Known s c template d) v =
        let shape = shape_stays p s v in
        search (pieces, condition_stays)

    shape_stays : (p : Place) (s : Shape) (v : Plain) → Stays (shape_run e p s v)
    shape_stays p (OfBase b) v = search pieces
    shape_stays p (Named t) v = check_stays p t v
    shape_stays p (Ranged t r) v =
        let inner = check_stays p t v in
        search pieces
    shape_stays p (ListOf t r) v =
        let each = items_stay (check e p t) (check_stays p t) in
        search pieces
    shape_stays p (DictOf t r) v =
        let each = values_stay (check e p t) (check_stays p t) in
        search pieces
    shape_stays p (Link t) v =
        let inner = check_stays p t in
        search (pieces, target_stays)
    shape_stays p (Record x fs) v =
        let each = fields_stay p fs in
        search (pieces, no_other_stays) depth 9
    shape_stays p (Choice texts) v = search pieces

    fields_stay : (p : Place) (fs : Fields) (gs : Values) → Stays (fields_run e p fs gs)
    fields_stay p none gs = search pieces
    fields_stay p (more k required t fs) gs =
        let first = field_stays (check e p t) (check_stays p t) k required (find_field k gs) in
        let next = fields_stay p fs gs in
        search pieces

  undef_stays : (header : Place) (ms : Option (List Term)) → Stays (undef_run header ms)
  undef_stays header None = search pieces
  undef_stays header (Some ms) = search pieces

  placed_stays : {X : Type 0} → (p : Place) (ms : List Term) (x : Result X Refusal)
      → Stays (placed p ms x)
  placed_stays p ms (Ok x) = search pieces
  placed_stays p ms (Err r) = search pieces

  bound_stays : (b : Bound) (v : Option Plain) → Stays (bound_run e b v)
  unfolding bound_run
  bound_stays b None = search pieces
  bound_stays b (Some v) = search (pieces, check_stays, placed_stays)

  bounds_stay : (root : Plain) (bs : List Bound) → Stays (bounds_run e root bs)
  unfolding bounds_run
  bounds_stay root [] = search pieces
  bounds_stay root (b ∷ bs) = let next = bounds_stay root bs in search (pieces, bound_stays)

  valid_stays : (s : Valid) (v : Option Plain) → Stays (valid_run e s v)
  unfolding valid_run
  valid_stays s None = search pieces
  valid_stays s (Some v) = search pieces

  valids_stay : (root : Plain) (ss : List Valid) → Stays (valids_run e root ss)
  unfolding valids_run
  valids_stay root [] = search pieces
  valids_stay root (s ∷ ss) = let next = valids_stay root ss in search (pieces, valid_stays)

  pub checked_stays : (header : Place) (root : Plain) (bounds : List Bound) (valids : List Valid)
      → Stays (checked e header root bounds valids)
  unfolding checked
  checked_stays header root bounds valids = search (pieces, undef_stays, bounds_stay, valids_stay)
