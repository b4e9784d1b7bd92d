-- No check leaves more work than it began with: of each definition by which code goes on, so that
-- it
-- is known what is left at least where memory is wanting.
use Rattle.std.proofs.Common.{ℕ, ◌+◌, List, [], ◌∷◌, Option, Some, None, Bool, true, false, cond, nat_eq, Result, Ok, Err, arith}
use Rattle.path_tree.specs.Plain.{Plain, Items, no_items, item, Fields as Values, no_fields, field}
use Rattle.path_tree.specs.Find.{find_field}
use Rattle.path_tree.specs.declared.path.Path.{Path}
use Rattle.path_tree.specs.declared.path.Term.{Term}
use Rattle.pan_ast.specs.declared.fault.Fault.{Fault}
use Rattle.pan_ast.specs.declared.place.Place.{Place}
use Rattle.pan_ast.specs.Syntax.{Item}
use Rattle.questions.specs.Run.{Meter, ◌>>=◌, give, fail_with, stepped}
use Rattle.questions.specs.Told.{LeavesAtMost}
use Rattle.questions.proofs.Runs.{Leaves}
use Rattle.dml_meaning.specs.Run.{Look}
use Rattle.dml_meaning.proofs.Leaving.{then_leaves}
use Rattle.type_defs.specs.Bindings.{Bound, Valid}
use Rattle.type_defs.specs.Resolved.{Resolved, Known, Shape, OfBase, Named, Ranged, ListOf, DictOf, Link, Record, Choice, Fields, none, more}
use Rattle.validate.specs.declared.refusal.Misfit.{Misfit}
use Rattle.validate.specs.Check.{visit, truth, condition_run, target_run, items_run, values_run, field_run, no_other, check, shape_run, fields_run}
use Rattle.validate.specs.Checked.{undef_run, placed, bound_run, bounds_run, valid_run, valids_run, checked}
use Rattle.validate.specs.Means.{LeaveNoMore, Means, found_run}
use Rattle.validate.specs.Refusals.{Refusal, Checks, behind, go_on, unless_refused, or_refuse}

-- by the ways in which checks are made

bind_leaves : {X Y : Type 0} → (r : Look X) (f : X → Look Y) → Leaves r → ((x : X) → Leaves (f x))
    → Leaves (r >>= f)
bind_leaves r f a b o s m = then_leaves m.left (r o s m) (λ x. f x o) (λ x. b x o) (a o s m)

give_leaves : {X : Type 0} → (x : X) → Leaves {S = Unit {0}} (give x)
give_leaves x o s m = omega arith

fail_leaves : (X : Type 0) (f : Fault) → Leaves {S = Unit {0}} {X = X} (fail_with f)
fail_leaves X f o s m = omega arith

cond_leaves : {X : Type 0} → (b : Bool) (r r' : Look X) → Leaves r → Leaves r'
    → Leaves (cond b r r')
cond_leaves true r r' h k = h
cond_leaves false r r' h k = k

pub unless_leaves : {X Y : Type 0} → (f : X → Checks Y) (x : Result X Refusal)
    → ((y : X) → Leaves (f y)) → Leaves (unless_refused f x)
unless_leaves f (Ok y) h = h y
unless_leaves f (Err r) h = λ o s m. omega arith

ruleset pieces = (bind_leaves, give_leaves, fail_leaves, cond_leaves, unless_leaves)

stepped_leaves : (b : Bool) (p : Place) (s : Unit {0}) (m : Meter)
    → LeavesAtMost m.left (stepped b p s m)
stepped_leaves true p s m = omega arith
stepped_leaves false p s m = omega arith

pub visit_leaves : (p : Place) → Leaves (visit p)
unfolding visit
visit_leaves p o s m = stepped_leaves (nat_eq m.left 0) p s m

refuse_leaves : {X : Type 0} → (c : Misfit) (x : Option X) → Leaves (or_refuse c x)
refuse_leaves c None = search pieces
refuse_leaves c (Some x) = search pieces

truth_leaves : (p : Place) (b : Option Bool) → Leaves (truth p b)
truth_leaves p None = search pieces
truth_leaves p (Some b) = search pieces

no_other_leaves : (k : Option (List ℕ)) → Leaves (no_other k)
no_other_leaves None = search pieces
no_other_leaves (Some k) = search pieces

undef_leaves : (header : Place) (ms : Option (List Term)) → Leaves (undef_run header ms)
undef_leaves header None = search pieces
undef_leaves header (Some ms) = search pieces

placed_leaves : {X : Type 0} → (p : Place) (ms : List Term) (x : Result X Refusal)
    → Leaves (placed p ms x)
placed_leaves p ms (Ok x) = search pieces
placed_leaves p ms (Err r) = search pieces

-- a check of the parts of a value

module _ (f : Plain → Checks (Unit {0})) (k : (v : Plain) → Leaves (f v)) where
  each_item : (i : ℕ) (ts : Items) → Leaves (items_run f i ts)
  unfolding items_run
  each_item i no_items = search pieces
  each_item i (item t ts) = let next = each_item (i + 1) ts in search pieces

  each_value : (fs : Values) → Leaves (values_run f fs)
  unfolding values_run
  each_value no_fields = search pieces
  each_value (field l t fs) = let next = each_value fs in search pieces

  each_field : (l : List ℕ) (required : Bool) (v : Option Plain) → Leaves (field_run l required f v)
  unfolding field_run
  each_field l required None = search pieces
  each_field l required (Some v) = search pieces

module _ (e : Means) (h : LeaveNoMore e) where
  pub dml_leaves : (template : List ℕ) (i : Item) (v : Plain) → Leaves (e.dml template i v)
  dml_leaves = h.dml

  pub look_leaves : (p : Place) (path : Path) → Leaves (e.look p path)
  look_leaves = h.look

  pub found_leaves : (p : Place) (path : Path) → Leaves (found_run e p path)
  unfolding found_run
  found_leaves p path = search (pieces, look_leaves)

  pub condition_leaves : (p : Place) (c : Option Item) (template : List ℕ) (v : Plain)
      → Leaves (condition_run e p c template v)
  unfolding condition_run
  condition_leaves p None template v = search pieces
  condition_leaves p (Some i) template v = search (pieces, truth_leaves, dml_leaves)

  pub target_leaves : (p : Place) (path : Option Path) → Leaves (target_run e p path)
  unfolding target_run
  target_leaves p None = search pieces
  target_leaves p (Some path) = search (pieces, found_leaves, refuse_leaves)

  mutual
    pub check_leaves : (p : Place) (t : Resolved) (v : Plain) → Leaves (check e p t v)
    check_leaves p (Known s c template d) v =
        let inside = shape_leaves p s v in
        search (pieces, visit_leaves, condition_leaves)

    pub shape_leaves : (p : Place) (s : Shape) (v : Plain) → Leaves (shape_run e p s v)
    shape_leaves p (OfBase b) v = search pieces
    shape_leaves p (Named t) v = check_leaves p t v
    shape_leaves p (Ranged t r) v = let inner = check_leaves p t v in search pieces
    shape_leaves p (ListOf t r) v =
        let each = each_item (check e p t) (check_leaves p t) in
        search (pieces, refuse_leaves)
    shape_leaves p (DictOf t r) v =
        let each = each_value (check e p t) (check_leaves p t) in
        search (pieces, refuse_leaves)
    shape_leaves p (Link t) v = let inner = check_leaves p t in search (pieces, target_leaves)
    shape_leaves p (Record x fs) v =
        let each = fields_leave p fs in
        search (pieces, refuse_leaves, no_other_leaves) depth 9
    shape_leaves p (Choice texts) v = search (pieces, refuse_leaves)

    pub fields_leave : (p : Place) (fs : Fields) (gs : Values) → Leaves (fields_run e p fs gs)
    fields_leave p none gs = search pieces
    fields_leave p (more k required t fs) gs =
        let first = each_field (check e p t) (check_leaves p t) k required (find_field k gs) in
        let next = fields_leave p fs gs in
        search pieces

  -- what follows a visit, and what a link leads to
  pub inside_leaves : (p : Place) (s : Shape) (c : Option Item) (template : List ℕ) (v : Plain)
      → Leaves (go_on (shape_run e p s v) (λ _. condition_run e p c template v))
  inside_leaves p s c template v = search (pieces, shape_leaves, condition_leaves)

  pub behind_leaves : (p : Place) (t : Resolved) (v : Plain) → Leaves (behind (check e p t v))
  behind_leaves p t v = search (pieces, check_leaves)

  pub items_leave : (p : Place) (t : Resolved) (i : ℕ) (ts : Items)
      → Leaves (items_run (check e p t) i ts)
  items_leave p t = each_item (check e p t) (check_leaves p t)

  pub values_leave : (p : Place) (t : Resolved) (fs : Values) → Leaves (values_run (check e p t) fs)
  values_leave p t = each_value (check e p t) (check_leaves p t)

  pub field_leaves : (p : Place) (t : Resolved) (l : List ℕ) (required : Bool) (v : Option Plain)
      → Leaves (field_run l required (check e p t) v)
  field_leaves p t = each_field (check e p t) (check_leaves p t)

  pub bound_leaves : (b : Bound) (v : Option Plain) → Leaves (bound_run e b v)
  unfolding bound_run
  bound_leaves b None = search pieces
  bound_leaves b (Some v) = search (pieces, check_leaves, placed_leaves)

  pub bounds_leave : (root : Plain) (bs : List Bound) → Leaves (bounds_run e root bs)
  unfolding bounds_run
  bounds_leave root [] = search pieces
  bounds_leave root (b ∷ bs) = let next = bounds_leave root bs in search (pieces, bound_leaves)

  pub valid_leaves : (s : Valid) (v : Option Plain) → Leaves (valid_run e s v)
  unfolding valid_run
  valid_leaves s None = search pieces
  valid_leaves s (Some v) = search (pieces, truth_leaves, dml_leaves)

  pub valids_leave : (root : Plain) (ss : List Valid) → Leaves (valids_run e root ss)
  unfolding valids_run
  valids_leave root [] = search pieces
  valids_leave root (s ∷ ss) = let next = valids_leave root ss in search (pieces, valid_leaves)

  pub checked_leaves : (header : Place) (root : Plain) (bounds : List Bound) (valids : List Valid)
      → Leaves (checked e header root bounds valids)
  unfolding checked
  checked_leaves header root bounds valids =
      search (pieces, undef_leaves, bounds_leave, valids_leave)

pub ruleset leaving = (
  visit_leaves,
  dml_leaves,
  look_leaves,
  found_leaves,
  condition_leaves,
  target_leaves,
  items_leave,
  values_leave,
  field_leaves,
  check_leaves,
  shape_leaves,
  fields_leave,
  bound_leaves,
  bounds_leave,
  valid_leaves,
  valids_leave,
  checked_leaves,
)
