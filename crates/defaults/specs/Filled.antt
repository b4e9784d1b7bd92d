-- The tree after the defaults of the bindings, in order. Each type that is applied to a value is a
-- step.
use Rattle.std.specs.Prelude.{ℕ, suc, zero, ◌+◌, Bool, true, false, cond, List, [], ◌∷◌, ◌++◌, Option, Some, None, Result, Ok, Err}
use Rattle.path_tree.specs.Plain.{Plain, dict, undef, Fields as Values, no_fields, field}
use Rattle.path_tree.specs.Children.{child_fields, child_items}
use Rattle.path_tree.specs.Find.{get, item_count}
use Rattle.path_tree.specs.Put.{put}
use Rattle.path_tree.specs.declared.path.PutError.{PutError}
use Rattle.path_tree.specs.declared.path.PutError.TheVariants.{TooLarge, TooHigh}
use Rattle.path_tree.specs.declared.path.Term.{Term}
use Rattle.path_tree.specs.declared.path.Term.TheVariants as term
use Rattle.pan_ast.specs.declared.change.Change.{Change}
use Rattle.pan_ast.specs.declared.fault.Code.TheVariants as code
use Rattle.pan_ast.specs.declared.place.Place.{Place}
use Rattle.questions.specs.Run.{Run, ◌>>=◌, give, fail, now, become, step}
use Rattle.type_defs.specs.Resolved.{Resolved, Known, Shape, OfBase, Named, Ranged, ListOf, DictOf, Link, Record, Choice, Fields, none, more}
use Rattle.type_defs.specs.Bindings.{Bound}

-- the tree that is filled, and the log of its changes
pub record Store : Type 0 where
  pub tree : Plain
  pub log : List Change

abbrev pub Fill : Type 0
Fill = Run Store (Unit {0})

abbrev pub leave : Fill
leave = give tt

-- a default that a binding at the place puts
abbrev pub default_change : Place → List Term → Plain → Change
default_change p ms d = record { terms = ms; value = Some d; place = p; default = true }

-- Where a put is refused for the size or the height of the tree it is a fault. Where its walk is
-- refused, the place is left as it is.
abbrev pub put_end : Place → List Term → Plain → List Change → Result Plain PutError → Fill
put_end p ms d log (Ok t) =
    become (record { tree = t; log = log ++ default_change p ms d ∷ [] })
put_end p ms d log (Err TooLarge) = fail code.TooLarge p
put_end p ms d log (Err TooHigh) = fail code.TooLarge p
put_end p ms d log (Err e) = leave

abbrev pub is_missing : Option Plain → Bool
is_missing None = true
is_missing (Some undef) = true
is_missing (Some v) = false

abbrev pub put_default : Place → Plain → List Term → Store → Fill
put_default p d ms s =
    cond (is_missing (get ms s.tree)) (put_end p ms d s.log (put ms d s.tree)) leave

-- the default, put where the value is absent or undef
unfoldable pub defaulted : Place → Option Plain → List Term → Fill
defaulted p None ms = leave
defaulted p (Some d) ms = do
  s ← now
  put_default p d ms s

-- each of n items from the i-th on
unfoldable pub items_filled : (List Term → Fill) → List Term → ℕ → ℕ → Fill
items_filled f ms i zero = leave
items_filled f ms i (suc n) = do
  _ ← f (ms ++ term.Index i ∷ [])
  items_filled f ms (i + 1) n

-- the value at each key
unfoldable pub values_filled : (List Term → Fill) → List Term → Values → Fill
values_filled f ms no_fields = leave
values_filled f ms (field k v fs) = do
  _ ← f (ms ++ term.Key k ∷ [])
  values_filled f ms fs

abbrev pub where_dict : Plain → Fill → Fill
where_dict (dict fs) f = f
where_dict v f = leave

-- the step of a visit, for a binding at the place
unfoldable pub visit : Place → Fill
visit p = step p

-- a value that is present is visited, and then it is filled inside
abbrev pub visited : Place → (Plain → Fill) → Option Plain → Fill
visited p f None = leave
visited p f (Some v) = do
  _ ← visit p
  f v

abbrev mutual
  -- what stands at the terms, filled by a type, for a binding at the place
  pub filled : Place → Resolved → List Term → Fill
  filled p (Known s c template d) ms = do
    _ ← defaulted p d ms
    now >>= (λ s'. visited p (filled_inside p s ms) (get ms s'.tree))

  pub filled_inside : Place → Shape → List Term → Plain → Fill
  filled_inside p (OfBase b) ms v = leave
  filled_inside p (Named t) ms v = filled p t ms
  filled_inside p (Ranged t r) ms v = filled p t ms
  filled_inside p (ListOf t r) ms v = items_filled (filled p t) ms 0 (item_count (child_items v))
  filled_inside p (DictOf t r) ms v = values_filled (filled p t) ms (child_fields v)
  filled_inside p (Link t) ms v = leave
  filled_inside p (Record extensible fs) ms v = where_dict v (fields_filled p fs ms)
  filled_inside p (Choice texts) ms v = leave

  -- the fields of a record, in declared order
  pub fields_filled : Place → Fields → List Term → Fill
  fields_filled p none ms = leave
  fields_filled p (more k required t fs) ms = do
    _ ← filled p t (ms ++ term.Key k ∷ [])
    fields_filled p fs ms

-- all bindings, in order
abbrev pub all_filled : List Bound → Fill
all_filled [] = leave
all_filled (b ∷ bs) = do
  _ ← filled b.place b.resolved b.terms
  all_filled bs
