-- Each filling is a lawful run: it asks nothing, and fails with faults of its own.
use Rattle.std.proofs.Common.{ℕ, zero, suc, ◌+◌, List, [], ◌∷◌, Option, Some, None, Result, Ok, Err}
use Rattle.path_tree.specs.Plain.{Plain, dict, Fields as Values, no_fields, field}
use Rattle.path_tree.specs.Children.{child_fields, child_items}
use Rattle.path_tree.specs.Find.{item_count}
use Rattle.path_tree.specs.declared.path.PutError.{PutError}
use Rattle.path_tree.specs.declared.path.PutError.TheVariants.{TooLarge, TooHigh}
use Rattle.path_tree.specs.declared.path.Term.{Term}
use Rattle.pan_ast.specs.declared.change.Change.{Change}
use Rattle.pan_ast.specs.declared.place.Place.{Place}
use Rattle.questions.specs.declared.key.Key.{Key}
use Rattle.questions.proofs.Runs.{Leaves, left_within}
use Rattle.questions.proofs.Lawful.{Lawful, lawful_bind, lawful_give, lawful_fail, lawful_now, lawful_become, lawful_cond, lawful_step}
use Rattle.type_defs.specs.Bindings.{Bound}
use Rattle.type_defs.specs.Resolved.{Resolved, Known, Shape, OfBase, Named, Ranged, ListOf, DictOf, Link, Record, Choice, Fields, none, more}
use Rattle.defaults.specs.Filled.{Store, Fill, put_end, put_default, defaulted, items_filled, values_filled, where_dict, visit, visited, filled, filled_inside, fields_filled, all_filled}

ruleset pieces = (
  lawful_bind,
  lawful_give,
  lawful_fail,
  lawful_now,
  lawful_become,
  lawful_cond,
  lawful_step,
)

module _ (may : Key → Type 0) where
  put_end_lawful : (p : Place) (ms : List Term) (d : Plain) (log : List Change)
      (r : Result Plain PutError) → Lawful may 0 (put_end p ms d log r)
  put_end_lawful p ms d log (Ok t) = search pieces
  put_end_lawful p ms d log (Err TooLarge) = search pieces
  put_end_lawful p ms d log (Err TooHigh) = search pieces
  put_end_lawful p ms d log (Err e) = search pieces

  put_lawful : (p : Place) (d : Plain) (ms : List Term) (s : Store)
      → Lawful may 0 (put_default p d ms s)
  put_lawful p d ms s = search (pieces, put_end_lawful)

  defaulted_lawful : (p : Place) (d : Option Plain) (ms : List Term)
      → Lawful may 0 (defaulted p d ms)
  unfolding defaulted
  defaulted_lawful p None ms = search pieces
  defaulted_lawful p (Some d) ms = search (pieces, put_lawful)

  items_lawful : (f : List Term → Fill) → ((ms : List Term) → Lawful may 0 (f ms))
      → (ms : List Term) (i n : ℕ) → Lawful may 0 (items_filled f ms i n)
  unfolding items_filled
  items_lawful f h ms i zero = search pieces
  items_lawful f h ms i (suc n) = let next = items_lawful f h ms (i + 1) n in search pieces

  values_lawful : (f : List Term → Fill) → ((ms : List Term) → Lawful may 0 (f ms))
      → (ms : List Term) (fs : Values) → Lawful may 0 (values_filled f ms fs)
  unfolding values_filled
  values_lawful f h ms no_fields = search pieces
  values_lawful f h ms (field k v fs) = let next = values_lawful f h ms fs in search pieces

  where_lawful : (v : Plain) (f : Fill) → Lawful may 0 f → Lawful may 0 (where_dict v f)
  where_lawful (dict fs) f h = h
  where_lawful _ f h = search pieces

  visit_lawful : (p : Place) → Lawful may 0 (visit p)
  unfolding visit
  visit_lawful p = search pieces

  visited_lawful : (p : Place) (f : Plain → Fill) → ((v : Plain) → Lawful may 0 (f v))
      → (o : Option Plain) → Lawful may 0 (visited p f o)
  visited_lawful p f h None = search pieces
  visited_lawful p f h (Some v) = search (pieces, visit_lawful)

  mutual
    pub filled_lawful : (p : Place) (t : Resolved) (ms : List Term) → Lawful may 0 (filled p t ms)
    filled_lawful p (Known s c template d) ms =
        let inside = inside_lawful p s ms in
        search (pieces, defaulted_lawful, visited_lawful)

    inside_lawful : (p : Place) (s : Shape) (ms : List Term) (v : Plain)
        → Lawful may 0 (filled_inside p s ms v)
    inside_lawful p (OfBase b) ms v = search pieces
    inside_lawful p (Named t) ms v = filled_lawful p t ms
    inside_lawful p (Ranged t r) ms v = filled_lawful p t ms
    inside_lawful p (ListOf t r) ms v =
        items_lawful (filled p t) (filled_lawful p t) ms 0 (item_count (child_items v))
    inside_lawful p (DictOf t r) ms v =
        values_lawful (filled p t) (filled_lawful p t) ms (child_fields v)
    inside_lawful p (Link t) ms v = search pieces
    inside_lawful p (Record x fs) ms v =
        where_lawful v (fields_filled p fs ms) (fields_lawful p fs ms)
    inside_lawful p (Choice texts) ms v = search pieces

    fields_lawful : (p : Place) (fs : Fields) (ms : List Term)
        → Lawful may 0 (fields_filled p fs ms)
    fields_lawful p none ms = search pieces
    fields_lawful p (more k required t fs) ms =
        let first = filled_lawful p t in
        let next = fields_lawful p fs ms in
        search pieces

  -- the defaults of all bindings
  pub all_lawful : (bs : List Bound) → Lawful may 0 (all_filled bs)
  all_lawful [] = search pieces
  all_lawful (b ∷ bs) = let next = all_lawful bs in search (pieces, filled_lawful)

-- no filling leaves more work than it began with
nothing : Key → Type 0
nothing k = Unit {0}

pub defaulted_leaves : (p : Place) (d : Option Plain) (ms : List Term) → Leaves (defaulted p d ms)
defaulted_leaves p d ms = left_within nothing 0 _ (defaulted_lawful nothing p d ms)

pub items_leave : (p : Place) (t : Resolved) (ms : List Term) (i n : ℕ)
    → Leaves (items_filled (filled p t) ms i n)
items_leave p t ms i n =
    left_within nothing 0 _ (items_lawful nothing (filled p t) (filled_lawful nothing p t) ms i n)

pub values_leave : (p : Place) (t : Resolved) (ms : List Term) (fs : Values)
    → Leaves (values_filled (filled p t) ms fs)
values_leave p t ms fs =
    left_within nothing 0 _ (values_lawful nothing (filled p t) (filled_lawful nothing p t) ms fs)

pub visit_leaves : (p : Place) → Leaves (visit p)
visit_leaves p = left_within nothing 0 _ (visit_lawful nothing p)

pub filled_leaves : (p : Place) (t : Resolved) (ms : List Term) → Leaves (filled p t ms)
filled_leaves p t ms = left_within nothing 0 _ (filled_lawful nothing p t ms)

pub inside_leaves : (p : Place) (s : Shape) (ms : List Term) (v : Plain)
    → Leaves (filled_inside p s ms v)
inside_leaves p s ms v = left_within nothing 0 _ (inside_lawful nothing p s ms v)

pub fields_leave : (p : Place) (fs : Fields) (ms : List Term) → Leaves (fields_filled p fs ms)
fields_leave p fs ms = left_within nothing 0 _ (fields_lawful nothing p fs ms)

pub all_leave : (bs : List Bound) → Leaves (all_filled bs)
all_leave bs = left_within nothing 0 _ (all_lawful nothing bs)

pub ruleset leaving = (
  defaulted_leaves,
  items_leave,
  values_leave,
  visit_leaves,
  filled_leaves,
  inside_leaves,
  fields_leave,
  all_leave,
)
