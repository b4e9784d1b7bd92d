-- What a check without fault says of an object.
use Rattle.std.specs.Prelude.{◌≡◌, ◌≤◌, ◌↔◌, true, List, Some}
use Rattle.std.specs.List.{AllByRecursion}
use Rattle.path_tree.specs.Plain.{Plain, dict, list, boolean, undef, Items, no_items, item, Fields as Values, no_fields, field}
use Rattle.path_tree.specs.Find.{get}
use Rattle.pan_ast.specs.declared.fault.Code.TheVariants.{WorkSpent}
use Rattle.pan_ast.specs.declared.place.Place.{Place}
use Rattle.questions.specs.Run.{Meter, Outcome, Failed}
use Rattle.type_defs.specs.Bindings.{Bound, Valid}
use Rattle.validate.specs.Checked.{checked}
use Rattle.validate.specs.Conforms.{Conforms, EndsWith, Evaluates, Whole}
use Rattle.validate.specs.Means.{Means}
use Rattle.validate.specs.Steady.{IsSteady}

abbrev mutual
  pub HasNoUndef : Plain → Type 0
  HasNoUndef (dict fs) = FieldsHaveNoUndef fs
  HasNoUndef (list ts) = ItemsHaveNoUndef ts
  HasNoUndef undef = ⊥
  HasNoUndef v = Unit {0}

  pub ItemsHaveNoUndef : Items → Type 0
  ItemsHaveNoUndef no_items = Unit {0}
  ItemsHaveNoUndef (item t ts) = HasNoUndef t × ItemsHaveNoUndef ts

  pub FieldsHaveNoUndef : Values → Type 0
  FieldsHaveNoUndef no_fields = Unit {0}
  FieldsHaveNoUndef (field k t fs) = HasNoUndef t × FieldsHaveNoUndef fs

-- the value at the path of a binding is there, and conforms
pub record IsMet (e : Means) (w : Whole) (root : Plain) (b : Bound) : Type 0 where
  pub value : Plain
  pub there : get b.terms root ≡ Some value
  pub conforms : Conforms e w b.resolved value

-- a valid statement finds its path, and gives true
pub record IsTrueOf (e : Means) (w : Whole) (root : Plain) (s : Valid) : Type 0 where
  pub value : Plain
  pub there : get s.terms root ≡ Some value
  pub holds : Evaluates e w s.template s.body value (boolean true)

pub record IsSound (e : Means) (w : Whole) (root : Plain) (bounds : List Bound)
    (valids : List Valid) : Type 0 where
  pub no_undef : HasNoUndef root
  pub met : AllByRecursion (IsMet e w root) bounds
  pub true_of : AllByRecursion (IsTrueOf e w root) valids

-- the work is spent
abbrev pub IsSpent : {X : Type 0} → Outcome (Unit {0}) X → Type 0
IsSpent (Failed f m) = f.code ≡ WorkSpent
IsSpent o = ⊥

-- The check gives no fault exactly where the object is sound and the work is not spent.
abbrev pub ChecksSoundness : Type 0
ChecksSoundness = (e : Means) (w : Whole) → IsSteady e w → (header : Place) (root : Plain)
    (bounds : List Bound) (valids : List Valid) (m : Meter) → m.left ≤ w.work
    → EndsWith tt (checked e header root bounds valids w.answers tt m)
    ↔ (IsSound e w root bounds valids
    × (IsSpent (checked e header root bounds valids w.answers tt m) → ⊥))
