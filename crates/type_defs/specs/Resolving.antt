-- The type that a written type stands for, or its first fault. A type is read from left to right: a
-- fault is told once what it is a fault of was read whole.
use Rattle.std.specs.Prelude.{ℕ, ℤ, Bool, true, false, ◌==◌, nat_lt, int_lt, if◌then◌else◌, List, [], ◌∷◌, ◌++◌, Option, Some, None, Result, Ok, Err}
use Rattle.std.specs.Cmp.Lexicographic.{pointwise}
use Rattle.path_tree.specs.Plain.{Plain}
use Rattle.pan_ast.specs.declared.place.Place.{Place}
use Rattle.pan_ast.specs.declared.types.Bounds.{Bounds}
use Rattle.pan_ast.specs.declared.types.Suffix.{Suffix}
use Rattle.pan_ast.specs.declared.types.Suffix.TheVariants as suffix
use Rattle.pan_ast.specs.Syntax.{Item}
use Rattle.pan_ast.specs.Types.{FullType, Full, TypeForm, Formed, Head}
use Rattle.pan_ast.specs.Types as syntax
use Rattle.type_defs.specs.declared.measured.TheConstants.{MAX_TYPE_DEPTH}
use Rattle.type_defs.specs.declared.resolved.Base.{Base}
use Rattle.type_defs.specs.declared.resolved.Range.{Range}
use Rattle.type_defs.specs.declared.type_error.TypeError.{TypeError}
use Rattle.type_defs.specs.declared.type_error.TypeError.TheVariants.{NoType, Redefined, BadRange, TooDeep}
use Rattle.type_defs.specs.Defaults.{proper, own_or}
use Rattle.type_defs.specs.Depth.{type_depth}
use Rattle.type_defs.specs.Names.{Defined, base_of}
use Rattle.type_defs.specs.Resolved.{Resolved, Known, Shape, OfBase, Named, Ranged, ListOf, DictOf, Link, Record, Choice, Field, fields_of, list_of, default_of}

-- what a written type gives, or why it gives nothing
abbrev pub Typed : Type 0 → Type 0
Typed X = Result X TypeError

infixl 10 ◌>>=◌
abbrev pub ◌>>=◌ : {X Y : Type 0} → Typed X → (X → Typed Y) → Typed Y
◌>>=◌ (Ok x) f = f x
◌>>=◌ (Err e) f = Err e

-- what is read of a type, and the default values that are left
abbrev pub Read : Type 0 → Type 0
Read X = Typed (X × List Plain)

-- a type without default and without `with`
abbrev pub plain_of : List ℕ → Shape → Resolved
plain_of template s = Known s None template None

-- the type, where it is not too deep; p: where it would be told
unfoldable pub within : Place → Resolved → Typed Resolved
within p t = if nat_lt MAX_TYPE_DEPTH (type_depth t) then Err (TooDeep p) else Ok t

abbrev pub open_range : Range
open_range = record { low = None; high = None }

-- the lower end is above the upper one
abbrev pub is_crossed : Option ℤ → Option ℤ → Bool
is_crossed (Some low) (Some high) = int_lt high low
is_crossed (Some low) None = false
is_crossed None high = false

unfoldable pub bounds_range : Bounds → Typed Range
bounds_range b =
    if is_crossed b.low b.high then Err (BadRange b.place)
    else Ok (record { low = b.low; high = b.high })

unfoldable pub range_of : Option Bounds → Typed Range
range_of None = Ok open_range
range_of (Some b) = bounds_range b

-- a range behind a name, which stands at p: its default is the name's
unfoldable pub ranged : List ℕ → Place → Resolved → Option Bounds → Typed Resolved
ranged template p t None = Ok t
ranged template p t (Some b) = do
  r ← bounds_range b
  within p (Known (Ranged t r) None template (default_of t))

-- a name at p: a base type, or one that is defined, whose default it takes
unfoldable pub named : List ℕ → Place → List ℕ → Option Base → Option Resolved → Typed Resolved
named template p name (Some b) definition = within p (plain_of template (OfBase b))
named template p name None (Some t) = within p (Known (Named t) None template (default_of t))
named template p name None None = Err (NoType p name)

unfoldable pub with_suffix : List ℕ → Place → Resolved → Suffix → Typed Resolved
with_suffix template p t (suffix.List b) = do
  r ← range_of b
  within p (plain_of template (ListOf t r))
with_suffix template p t (suffix.Dict b) = do
  r ← range_of b
  within p (plain_of template (DictOf t r))
with_suffix template p t suffix.Link = within p (plain_of template (Link t))

unfoldable pub with_suffixes : List ℕ → Place → Resolved → List Suffix → Typed Resolved
with_suffixes template p t [] = Ok t
with_suffixes template p t (s ∷ ss) = do
  u ← with_suffix template p t s
  with_suffixes template p u ss

-- the value of a default that is written, and the values after it
abbrev pub value_of : Option Item → List Plain → Option Plain × List Plain
value_of None ds = (None, ds)
value_of (Some i) [] = (None, [])
value_of (Some i) (d ∷ ds) = (proper d, ds)

-- a type with what `with` tests, and with its own default where that is one
abbrev pub completed : Option Item → Option Plain → Resolved → Resolved
completed test own (Known s c template d) = Known s test template (own_or own d)

abbrev pub has_field : List ℕ → List Field → Bool
has_field k [] = false
has_field k (f ∷ fs) = if pointwise ◌==◌ k f.key then true else has_field k fs

-- one field more, told at the place where its key is brought
unfoldable pub one_more : Place → List Field → Field → Typed (List Field)
one_more p done f = if has_field f.key done then Err (Redefined p f.key) else Ok (done ++ f ∷ [])

unfoldable pub all_more : Place → List Field → List Field → Typed (List Field)
all_more p done [] = Ok done
all_more p done (f ∷ fs) = do
  more ← one_more p done f
  all_more p more fs

-- the fields of a type that is written as a record
abbrev pub record_fields : Shape → Option (List Field)
record_fields (Record x fs) = Some (list_of fs)
record_fields (OfBase b) = None
record_fields (Named t) = None
record_fields (Ranged t r) = None
record_fields (ListOf t r) = None
record_fields (DictOf t r) = None
record_fields (Link t) = None
record_fields (Choice xs) = None

abbrev pub fields_behind : Option Resolved → Option (List Field)
fields_behind None = None
fields_behind (Some (Known s c template d)) = record_fields s

-- the fields that an `include` at p brings, by the name at q: those of a type that is written as a
-- record, whose default and `with` are not taken
unfoldable pub included : Place → List ℕ → Place → List Field → Option (List Field)
    → Typed (List Field)
included p name q done None = Err (NoType q name)
included p name q done (Some fs) = all_more p done fs

-- where a type that is too deep is told: at its name, or, where it has none, at what holds it
abbrev pub type_place : Place → Head → Place
type_place p (syntax.Named name q bounds) = q
type_place p (syntax.Record x fs) = p
type_place p (syntax.Choice texts) = p

abbrev mutual
  -- A type of a template, with the values of the defaults in it from here on. p: the place of the
  -- statement or the field that holds it.
  pub resolved : Defined → List ℕ → Place → FullType → List Plain → Read Resolved
  resolved known template p (Full form default test) ds = do
    r ← form_resolved known template p form ds
    let own = value_of default r.1
    Ok (completed test own.0 r.0, own.1)

  pub form_resolved : Defined → List ℕ → Place → TypeForm → List Plain → Read Resolved
  form_resolved known template p (Formed head suffixes) ds = do
    r ← head_resolved known template p head ds
    t ← with_suffixes template (type_place p head) r.0 suffixes
    Ok (t, r.1)

  pub head_resolved : Defined → List ℕ → Place → Head → List Plain → Read Resolved
  head_resolved known template p (syntax.Named name q bounds) ds = do
    t ← named template q name (base_of name) (known name)
    u ← ranged template q t bounds
    Ok (u, ds)
  head_resolved known template p (syntax.Record x fs) ds = do
    r ← fields_resolved known template fs [] ds
    t ← within p (plain_of template (Record x (fields_of r.0)))
    Ok (t, r.1)
  head_resolved known template p (syntax.Choice texts) ds = do
    t ← within p (plain_of template (Choice texts))
    Ok (t, ds)

  -- the fields that are done, and then these
  pub fields_resolved : Defined → List ℕ → syntax.Fields → List Field → List Plain
      → Read (List Field)
  fields_resolved known template syntax.none done ds = Ok (done, ds)
  fields_resolved known template (syntax.more f fs) done ds = do
    r ← field_resolved known template f done ds
    fields_resolved known template fs r.0 r.1

  pub field_resolved : Defined → List ℕ → syntax.Field → List Field → List Plain
      → Read (List Field)
  field_resolved known template (syntax.Own k p required full) done ds =
      if has_field k done then Err (Redefined p k) else (do
        r ← resolved known template p full ds
        Ok (done ++ record { key = k; required = required; resolved = r.0 } ∷ [], r.1))
  field_resolved known template (syntax.Include p name q) done ds = do
    all ← included p name q done (fields_behind (known name))
    Ok (all, ds)

-- the type that a written type stands for, which the statement at p holds
abbrev pub type_of : Defined → List ℕ → Place → FullType → List Plain → Typed Resolved
type_of known template p full ds = do
  r ← resolved known template p full ds
  Ok r.0
