-- When a value conforms to a type: the table of types, without order and without faults.
use Rattle.std.specs.Prelude.{◌≡◌, ℕ, pos, Bool, true, false, List, [], Option, Some, None}
use Rattle.path_tree.specs.Plain.{Plain, dict, list, text, boolean, Items, no_items, item, Fields as Values, no_fields, field}
use Rattle.path_tree.specs.Find.{item_count, field_count, find_field, kind_of}
use Rattle.path_tree.specs.declared.path.Path.{Path}
use Rattle.pan_ast.specs.declared.place.Place.{Place}
use Rattle.pan_ast.specs.Syntax.{Item}
use Rattle.questions.specs.Contents.{Answers}
use Rattle.questions.specs.Run.{Meter, Outcome, Done}
use Rattle.dml_meaning.specs.Lookups.{There}
use Rattle.dml_meaning.specs.Run.{Look}
use Rattle.type_defs.specs.Resolved.{Resolved, Known, Shape, OfBase, Named, Ranged, ListOf, DictOf, Link, Record, Choice, Fields, none, more}
use Rattle.type_defs.specs.declared.resolved.Range.{Range}
use Rattle.validate.specs.Kinds.{is_of, is_within, is_in, is_among, link_path}
use Rattle.validate.specs.Means.{Means}
use Rattle.validate.specs.Check.{has_key}

-- what a run of its own is told, and its whole work
pub record Whole : Type 0 where
  pub answers : Answers
  pub work : ℕ

abbrev pub alone : {X : Type 0} → Whole → Look X → Outcome (Unit {0}) X
alone w r = r w.answers tt (record { left = w.work; asked = [] })

-- a run that is done with this value
pub record EndsWith {X : Type 0} (x : X) (o : Outcome (Unit {0}) X) : Type 0 where
  pub meter : Meter
  pub is : o ≡ Done x tt meter

-- an item gives this in a run of its own, SELF being the value
abbrev pub Evaluates : Means → Whole → List ℕ → Item → Plain → Plain → Type 0
Evaluates e w template i v t = EndsWith t (alone w (e.dml template i v))

-- a value stands at a path, whatever the place that looks
abbrev pub Sees : Means → Whole → Path → Plain → Type 0
Sees e w path v = (p : Place) → EndsWith (There v) (alone w (e.look p path))

-- what `with` tests, where it is written, gives true
abbrev pub Meets : Means → Whole → Option Item → List ℕ → Plain → Type 0
Meets e w None template v = Unit {0}
Meets e w (Some i) template v = Evaluates e w template i v (boolean true)

abbrev pub AllItems : (Plain → Type 0) → Items → Type 0
AllItems P no_items = Unit {0}
AllItems P (item t ts) = P t × AllItems P ts

abbrev pub AllValues : (Plain → Type 0) → Values → Type 0
AllValues P no_fields = Unit {0}
AllValues P (field k t fs) = P t × AllValues P fs

-- each key is that of a field
abbrev pub HasOnly : Fields → Values → Type 0
HasOnly fs no_fields = Unit {0}
HasOnly fs (field k t gs) = (has_key k fs ≡ true) × HasOnly fs gs

-- the value that a field finds at its key; where it finds none, the field is not required
abbrev pub HasField : Bool → (Plain → Type 0) → Option Plain → Type 0
HasField required P None = required ≡ false
HasField required P (Some v) = P v

pub record IsListOf (P : Plain → Type 0) (r : Range) (v : Plain) : Type 0 where
  pub items : Items
  pub is : v ≡ list items
  pub count : is_within r (pos (item_count items)) ≡ true
  pub each : AllItems P items

pub record IsDictOf (P : Plain → Type 0) (r : Range) (v : Plain) : Type 0 where
  pub fields : Values
  pub is : v ≡ dict fields
  pub count : is_within r (pos (field_count fields)) ≡ true
  pub each : AllValues P fields

-- a text that is an absolute or external path where a value is
pub record IsLinkTo (e : Means) (w : Whole) (P : Plain → Type 0) (v : Plain) : Type 0 where
  pub path : Path
  pub is : link_path v ≡ Some path
  pub target : Plain
  pub there : Sees e w path target
  pub fits : P target

pub record IsRecord (extensible : Bool) (fs : Fields) (P : Values → Type 0) (v : Plain)
    : Type 0 where
  pub fields : Values
  pub is : v ≡ dict fields
  pub each : P fields
  pub only : extensible ≡ false → HasOnly fs fields

pub record IsOneOf (texts : List (List ℕ)) (v : Plain) : Type 0 where
  pub bytes : List ℕ
  pub is : v ≡ text bytes
  pub among : is_among bytes texts ≡ true

abbrev mutual
  -- the value conforms to the type; each `with` is evaluated in a run of its own
  pub Conforms : Means → Whole → Resolved → Plain → Type 0
  Conforms e w (Known s c template d) v = Fits e w s v × Meets e w c template v

  pub Fits : Means → Whole → Shape → Plain → Type 0
  Fits e w (OfBase b) v = is_of b (kind_of v) ≡ true
  Fits e w (Named t) v = Conforms e w t v
  Fits e w (Ranged t r) v = Conforms e w t v × (is_in r v ≡ true)
  Fits e w (ListOf t r) v = IsListOf (Conforms e w t) r v
  Fits e w (DictOf t r) v = IsDictOf (Conforms e w t) r v
  Fits e w (Link t) v = IsLinkTo e w (Conforms e w t) v
  Fits e w (Record extensible fs) v = IsRecord extensible fs (HasFields e w fs) v
  Fits e w (Choice texts) v = IsOneOf texts v

  pub HasFields : Means → Whole → Fields → Values → Type 0
  HasFields e w none gs = Unit {0}
  HasFields e w (more k required t fs) gs =
      HasField required (Conforms e w t) (find_field k gs) × HasFields e w fs gs
