-- A check is a lawful run, where what it takes of the language is: it asks only what that asks, and
-- fails with no fault of a circular object of its own.
use Rattle.std.proofs.Common.{◌≡◌, refl, ℕ, ◌+◌, List, [], ◌∷◌, Option, Some, None, Bool, false, Result, Ok, Err, arith}
use Rattle.path_tree.specs.Plain.{Plain, Items, no_items, item, Fields as Values, no_fields, field}
use Rattle.path_tree.specs.Find.{find_field}
use Rattle.path_tree.specs.declared.path.Path.{Path}
use Rattle.path_tree.specs.declared.path.Term.{Term}
use Rattle.pan_ast.specs.declared.place.Place.{Place}
use Rattle.pan_ast.specs.Syntax.{Item}
use Rattle.questions.specs.declared.key.Key.{Key}
use Rattle.questions.specs.Laws.{is_circular}
use Rattle.questions.proofs.Lawful.{Lawful, lawful_bind, lawful_bind_first, lawful_give, lawful_fail, lawful_cond, lawful_step, lawful_step_then, lawful_more}
use Rattle.type_defs.specs.Bindings.{Bound, Valid}
use Rattle.type_defs.specs.Resolved.{Resolved, Known, Shape, OfBase, Named, Ranged, ListOf, DictOf, Link, Record, Choice, Fields, none, more}
use Rattle.validate.specs.declared.refusal.Misfit.{Misfit}
use Rattle.validate.specs.declared.refusal.Misfit.TheVariants as misfit
use Rattle.validate.specs.Check.{visit, truth, condition_run, target_run, items_run, values_run, field_run, no_other, check, shape_run, fields_run}
use Rattle.validate.specs.Checked.{undef_run, placed, bound_run, bounds_run, valid_run, valids_run, checked}
use Rattle.validate.specs.Kinds.{link_path}
use Rattle.validate.specs.Means.{Means, found_run}
use Rattle.validate.specs.Refusals.{Refusal, Checks, code_of, unless_refused, or_refuse}

-- what a check takes of the language: an item pays its questions, and a look asks one that its
-- caller pays
pub record LawfulMeans (may : Key → Type 0) (e : Means) : Type 0 where
  pub dml : (template : List ℕ) (i : Item) (v : Plain) → Lawful may 0 (e.dml template i v)
  pub look : (p : Place) (path : Path) → Lawful may 1 (e.look p path)

dml_lawful : (may : Key → Type 0) (e : Means) → LawfulMeans may e
    → (template : List ℕ) (i : Item) (v : Plain) → Lawful may 0 (e.dml template i v)
dml_lawful may e h = h.dml

unless_lawful : {X Y : Type 0} → (may : Key → Type 0) (n : ℕ) (f : X → Checks Y)
    (x : Result X Refusal) → ((y : X) → Lawful may n (f y)) → Lawful may n (unless_refused f x)
unless_lawful may n f (Ok y) h = h y
unless_lawful may n f (Err r) h = lawful_give may n (Err r)

ruleset pieces = (
  lawful_bind,
  lawful_give,
  lawful_fail,
  lawful_cond,
  lawful_step,
  unless_lawful,
  dml_lawful,
)

code_plain : (c : Misfit) → is_circular (code_of c) ≡ false
code_plain misfit.WrongType = refl
code_plain misfit.OutOfRange = refl
code_plain misfit.MissingField = refl
code_plain misfit.ExtraField = refl
code_plain misfit.FalseTest = refl

refuse_lawful : {X : Type 0} → (may : Key → Type 0) (c : Misfit) (x : Option X)
    → Lawful may 0 (or_refuse c x)
refuse_lawful may c None = search pieces
refuse_lawful may c (Some x) = search pieces

truth_lawful : (may : Key → Type 0) (p : Place) (b : Option Bool) → Lawful may 0 (truth p b)
truth_lawful may p None = search pieces
truth_lawful may p (Some b) = search pieces

one_more : {X : Type 0} → (may : Key → Type 0) (r : Checks X) → Lawful may 0 r → Lawful may 1 r
one_more may r h = lawful_more may 0 1 r (omega arith) h

module _ (may : Key → Type 0) (e : Means) (h : LawfulMeans may e) where
  condition_lawful : (p : Place) (c : Option Item) (template : List ℕ) (v : Plain)
      → Lawful may 0 (condition_run e p c template v)
  unfolding condition_run
  condition_lawful p None template v = search pieces
  condition_lawful p (Some i) template v = search (pieces, truth_lawful)

  found_lawful : (p : Place) (path : Path) → Lawful may 1 (found_run e p path)
  unfolding found_run
  found_lawful p path = lawful_bind_first may 1 (e.look p path) _ (h.look p path)
      (λ l. search pieces)

  -- a question, which the visit of the link has paid
  target_lawful : (p : Place) (path : Option Path) → Lawful may 1 (target_run e p path)
  unfolding target_run
  target_lawful p None = search pieces
  target_lawful p (Some path) =
      lawful_bind_first may 1 (found_run e p path) _ (found_lawful p path)
      (refuse_lawful may misfit.WrongType)

  items_lawful : (f : Plain → Checks (Unit {0})) → ((v : Plain) → Lawful may 0 (f v))
      → (i : ℕ) (ts : Items) → Lawful may 0 (items_run f i ts)
  unfolding items_run
  items_lawful f k i no_items = search pieces
  items_lawful f k i (item t ts) = let next = items_lawful f k (i + 1) ts in search pieces

  values_lawful : (f : Plain → Checks (Unit {0})) → ((v : Plain) → Lawful may 0 (f v))
      → (fs : Values) → Lawful may 0 (values_run f fs)
  unfolding values_run
  values_lawful f k no_fields = search pieces
  values_lawful f k (field l t fs) = let next = values_lawful f k fs in search pieces

  field_lawful : (f : Plain → Checks (Unit {0})) → ((v : Plain) → Lawful may 0 (f v))
      → (k : List ℕ) (required : Bool) (v : Option Plain) → Lawful may 0 (field_run k required f v)
  unfolding field_run
  field_lawful f g k required None = search pieces
  field_lawful f g k required (Some v) = search pieces

  no_other_lawful : (k : Option (List ℕ)) → Lawful may 0 (no_other k)
  no_other_lawful None = search pieces
  no_other_lawful (Some k) = search pieces

  mutual
    unfolding visit

    pub check_lawful : (p : Place) (t : Resolved) (v : Plain) → Lawful may 0 (check e p t v)
    check_lawful p (Known s c template d) v =
        lawful_step_then may 0 p _ (lawful_bind_first may 1 (shape_run e p s v) _
        (shape_lawful p s v) (λ x. unless_lawful may 0 _ x (λ _. condition_lawful p c template v)))

    shape_lawful : (p : Place) (s : Shape) (v : Plain) → Lawful may 1 (shape_run e p s v)
    shape_lawful p (OfBase b) v = search pieces
    shape_lawful p (Named t) v = one_more may (check e p t v) (check_lawful p t v)
    shape_lawful p (Ranged t r) v =
        let inner = check_lawful p t v in
        search pieces
    shape_lawful p (ListOf t r) v =
        let each = items_lawful (check e p t) (check_lawful p t) in
        one_more may (shape_run e p (ListOf t r) v) (search (pieces, refuse_lawful))
    shape_lawful p (DictOf t r) v =
        let each = values_lawful (check e p t) (check_lawful p t) in
        one_more may (shape_run e p (DictOf t r) v) (search (pieces, refuse_lawful))
    shape_lawful p (Link t) v =
        let inner = check_lawful p t in
        lawful_bind_first may 1 (target_run e p (link_path v)) _ (target_lawful p (link_path v))
        (λ x. unless_lawful may 0 _ x (λ u. search pieces))
    shape_lawful p (Record x fs) v =
        let each = fields_lawful p fs in
        one_more may (shape_run e p (Record x fs) v) (search
        (pieces, refuse_lawful, no_other_lawful) depth 9)
    shape_lawful p (Choice texts) v =
        one_more may (shape_run e p (Choice texts) v) (search (pieces, refuse_lawful))

    fields_lawful : (p : Place) (fs : Fields) (gs : Values) → Lawful may 0 (fields_run e p fs gs)
    fields_lawful p none gs = search pieces
    fields_lawful p (more k required t fs) gs =
        let first = field_lawful (check e p t) (check_lawful p t) k required (find_field k gs) in
        let next = fields_lawful p fs gs in
        search pieces

  undef_lawful : (header : Place) (ms : Option (List Term)) → Lawful may 0 (undef_run header ms)
  undef_lawful header None = search pieces
  undef_lawful header (Some ms) = search pieces

  placed_lawful : {X : Type 0} → (p : Place) (ms : List Term) (x : Result X Refusal)
      → Lawful may 0 (placed p ms x)
  placed_lawful p ms (Ok x) = search pieces
  placed_lawful p ms (Err r) = lawful_fail may 0 _ (code_plain r.misfit)

  bound_lawful : (b : Bound) (v : Option Plain) → Lawful may 0 (bound_run e b v)
  unfolding bound_run
  bound_lawful b None = search pieces
  bound_lawful b (Some v) = search (pieces, check_lawful, placed_lawful)

  bounds_lawful : (root : Plain) (bs : List Bound) → Lawful may 0 (bounds_run e root bs)
  unfolding bounds_run
  bounds_lawful root [] = search pieces
  bounds_lawful root (b ∷ bs) = let next = bounds_lawful root bs in search (pieces, bound_lawful)

  valid_lawful : (s : Valid) (v : Option Plain) → Lawful may 0 (valid_run e s v)
  unfolding valid_run
  valid_lawful s None = search pieces
  valid_lawful s (Some v) = search (pieces, truth_lawful)

  valids_lawful : (root : Plain) (ss : List Valid) → Lawful may 0 (valids_run e root ss)
  unfolding valids_run
  valids_lawful root [] = search pieces
  valids_lawful root (s ∷ ss) = let next = valids_lawful root ss in search (pieces, valid_lawful)

  -- the whole check of an object
  pub checked_lawful : (header : Place) (root : Plain) (bounds : List Bound) (valids : List Valid)
      → Lawful may 0 (checked e header root bounds valids)
  unfolding checked
  checked_lawful header root bounds valids =
      search (pieces, undef_lawful, bounds_lawful, valids_lawful)
