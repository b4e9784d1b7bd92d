-- The check of a value by a type: the first fault, in order, and one step for each type that is
-- applied to a value.
use Rattle.std.specs.Prelude.{ℕ, ◌+◌, pos, Bool, true, false, cond, if◌then◌else◌, List, bytes_eq, Option, Some, None}
use Rattle.path_tree.specs.Plain.{Plain, Items, no_items, item, Fields as Values, no_fields, field}
use Rattle.path_tree.specs.Find.{item_count, field_count, find_field, kind_of, text_of, boolean_of}
use Rattle.path_tree.specs.declared.path.Path.{Path}
use Rattle.path_tree.specs.declared.path.Term.TheVariants as term
use Rattle.pan_ast.specs.declared.place.Place.{Place}
use Rattle.pan_ast.specs.declared.fault.Code.TheVariants.{NotBoolean}
use Rattle.pan_ast.specs.Syntax.{Item}
use Rattle.questions.specs.Run.{give, fail, step}
use Rattle.dml_meaning.specs.Run.{Look}
use Rattle.type_defs.specs.Resolved.{Resolved, Known, Shape, OfBase, Named, Ranged, ListOf, DictOf, Link, Record, Choice, Fields, none, more}
use Rattle.validate.specs.declared.refusal.Misfit.TheVariants.{WrongType, OutOfRange, MissingField, ExtraField, FalseTest}
use Rattle.validate.specs.Kinds.{is_of, is_within, is_in, is_among, link_path, items_in, fields_in}
use Rattle.validate.specs.Means.{Means, found_run}
use Rattle.validate.specs.Refusals.{Checks, fine, refuse, go_on, reading, require, or_refuse, below, behind}

-- in what follows each line goes on where the one before refuses nothing
infixl 10 ◌>>=◌
abbrev pub ◌>>=◌ : {X Y : Type 0} → Checks X → (X → Checks Y) → Checks Y
◌>>=◌ r f = go_on r f

-- the step of a visit, for a binding at the place
unfoldable pub visit : Place → Look (Unit {0})
visit p = step p

-- a boolean, or a fault at the place
abbrev pub truth : Place → Option Bool → Look Bool
truth p None = fail NotBoolean p
truth p (Some b) = give b

-- what `with` tests holds of the value
unfoldable pub condition_run : Means → Place → Option Item → List ℕ → Plain → Checks (Unit {0})
condition_run e p None template v = fine tt
condition_run e p (Some i) template v =
    reading (e.dml template i v) (λ t. reading (truth p (boolean_of t)) (require FalseTest))

-- what stands at a link's path
unfoldable pub target_run : Means → Place → Option Path → Checks Plain
target_run e p None = refuse WrongType
target_run e p (Some path) = reading (found_run e p path) (or_refuse WrongType)

-- each item in order, from the i-th on
unfoldable pub items_run : (Plain → Checks (Unit {0})) → ℕ → Items → Checks (Unit {0})
items_run f i no_items = fine tt
items_run f i (item t ts) = do
  _ ← below (term.Index i) (f t)
  items_run f (i + 1) ts

-- each value of a dict, in byte order of the keys
unfoldable pub values_run : (Plain → Checks (Unit {0})) → Values → Checks (Unit {0})
values_run f no_fields = fine tt
values_run f (field k t fs) = do
  _ ← below (term.Key k) (f t)
  values_run f fs

-- a field of a record, where this is found at its key
unfoldable pub field_run : List ℕ → Bool → (Plain → Checks (Unit {0})) → Option Plain
    → Checks (Unit {0})
field_run k required f None =
    cond required (below (term.Key k) (refuse MissingField)) (fine tt)
field_run k required f (Some v) = below (term.Key k) (f v)

abbrev pub has_key : List ℕ → Fields → Bool
has_key k none = false
has_key k (more l r t fs) = if bytes_eq l k then true else has_key k fs

-- the least key that no field has
abbrev pub other_key : Fields → Values → Option (List ℕ)
other_key fs no_fields = None
other_key fs (field k t gs) = if has_key k fs then other_key fs gs else Some k

-- no key is left over
abbrev pub no_other : Option (List ℕ) → Checks (Unit {0})
no_other None = fine tt
no_other (Some k) = below (term.Key k) (refuse ExtraField)

abbrev mutual
  -- a type applied to a value, for a binding at the place
  pub check : Means → Place → Resolved → Plain → Checks (Unit {0})
  check e p (Known s c template d) v = reading (visit p) (λ _. do
    _ ← shape_run e p s v
    condition_run e p c template v)

  pub shape_run : Means → Place → Shape → Plain → Checks (Unit {0})
  shape_run e p (OfBase b) v = require WrongType (is_of b (kind_of v))
  shape_run e p (Named t) v = check e p t v
  shape_run e p (Ranged t r) v = do
    _ ← check e p t v
    require OutOfRange (is_in r v)
  shape_run e p (ListOf t r) v = do
    ts ← or_refuse WrongType (items_in v)
    _ ← require OutOfRange (is_within r (pos (item_count ts)))
    items_run (check e p t) 0 ts
  shape_run e p (DictOf t r) v = do
    fs ← or_refuse WrongType (fields_in v)
    _ ← require OutOfRange (is_within r (pos (field_count fs)))
    values_run (check e p t) fs
  shape_run e p (Link t) v = do
    w ← target_run e p (link_path v)
    behind (check e p t w)
  shape_run e p (Record extensible fs) v = do
    gs ← or_refuse WrongType (fields_in v)
    _ ← fields_run e p fs gs
    cond extensible (fine tt) (no_other (other_key fs gs))
  shape_run e p (Choice texts) v = do
    bs ← or_refuse WrongType (text_of v)
    require OutOfRange (is_among bs texts)

  -- the fields of a record in declared order
  pub fields_run : Means → Place → Fields → Values → Checks (Unit {0})
  fields_run e p none gs = fine tt
  fields_run e p (more k required t fs) gs = do
    _ ← field_run k required (check e p t) (find_field k gs)
    fields_run e p fs gs
