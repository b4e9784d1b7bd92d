-- A type whose names are resolved, as plain data. It is the type written out: what is shared in
-- memory stands in it at each place.
use Rattle.std.specs.Prelude.{ℕ, Bool, List, [], ◌∷◌, Option}
use Rattle.path_tree.specs.Plain.{Plain}
use Rattle.pan_ast.specs.Syntax.{Item}
use Rattle.type_defs.specs.declared.resolved.Base.{Base}
use Rattle.type_defs.specs.declared.resolved.Range.{Range}

mutual
  pub data Resolved : Type 0 where
    -- the shape, what `with` tests, the template of its text, the default
    Known : Shape → Option Item → List ℕ → Option Plain → Resolved

  pub data Shape : Type 0 where
    OfBase : Base → Shape
    Named : Resolved → Shape
    Ranged : Resolved → Range → Shape
    ListOf : Resolved → Range → Shape
    DictOf : Resolved → Range → Shape
    Link : Resolved → Shape
    -- whether it is extensible
    Record : Bool → Fields → Shape
    Choice : List (List ℕ) → Shape

  pub data Fields : Type 0 where
    none : Fields
    -- the key, whether it is required
    more : List ℕ → Bool → Resolved → Fields → Fields

pub record Field : Type 0 where
  pub key : List ℕ
  pub required : Bool
  pub resolved : Resolved

abbrev pub fields_of : List Field → Fields
fields_of [] = none
fields_of (f ∷ fs) = more f.key f.required f.resolved (fields_of fs)

abbrev pub list_of : Fields → List Field
list_of none = []
list_of (more k r t fs) = record { key = k; required = r; resolved = t } ∷ list_of fs

abbrev pub default_of : Resolved → Option Plain
default_of (Known s c n d) = d
