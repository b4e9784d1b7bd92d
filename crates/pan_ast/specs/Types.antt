-- The syntax of a type as plain data.
use Rattle.std.specs.Prelude.{ℕ, Bool, List, [], ◌∷◌, Option}
use Rattle.pan_ast.specs.declared.place.Place.{Place}
use Rattle.pan_ast.specs.declared.types.Bounds.{Bounds}
use Rattle.pan_ast.specs.declared.types.Suffix.{Suffix}
use Rattle.pan_ast.specs.Syntax.{Item}

mutual
  pub data FullType : Type 0 where
    -- the default, then what `with` tests
    Full : TypeForm → Option Item → Option Item → FullType
    deriving IsSet as FullType-set

  pub data TypeForm : Type 0 where
    Formed : Head → List Suffix → TypeForm
    deriving IsSet as TypeForm-set

  pub data Head : Type 0 where
    Named : List ℕ → Place → Option Bounds → Head
    -- whether it is extensible
    Record : Bool → Fields → Head
    Choice : List (List ℕ) → Head
    deriving IsSet as Head-set

  pub data Field : Type 0 where
    -- the key, its place, whether it is required
    Own : List ℕ → Place → Bool → FullType → Field
    -- the place of the word, the name, its place
    Include : Place → List ℕ → Place → Field
    deriving IsSet as Field-set

  pub data Fields : Type 0 where
    none : Fields
    more : Field → Fields → Fields
    deriving IsSet as Fields-set

abbrev pub fields_of : List Field → Fields
fields_of [] = none
fields_of (f ∷ fs) = more f (fields_of fs)
