-- What a type wants at a path below it, as words; nothing where it says nothing there.
use Rattle.std.specs.Prelude.{ℕ, List, [], ◌∷◌, bytes_eq, if◌then◌else◌, Option, Some, None}
use Rattle.path_tree.specs.declared.path.Term.{Term}
use Rattle.path_tree.specs.declared.path.Term.TheVariants as term
use Rattle.type_defs.specs.Resolved.{Resolved, Known, Shape, OfBase, Named, Ranged, ListOf, DictOf, Link, Record, Choice, Fields, none, more}
use Rattle.wanted_types.specs.Words.{fields_words, keys_in, type_text}

-- by the terms behind a first one that is an index, or a key
abbrev pub below_index : (List Term → Option (List ℕ)) → List Term → Option (List ℕ)
below_index f [] = None
below_index f (term.Index i ∷ ms) = f ms
below_index f (term.Key k ∷ ms) = None

abbrev pub below_key : (List ℕ → List Term → Option (List ℕ)) → List Term → Option (List ℕ)
below_key f [] = None
below_key f (term.Index i ∷ ms) = None
below_key f (term.Key k ∷ ms) = f k ms

-- of a key that no field has: the keys that there are
abbrev pub no_field : Fields → List Term → Option (List ℕ)
no_field fs [] = Some (fields_words (keys_in fs))
no_field fs (m ∷ ms) = None

-- the type itself, or what its shape wants below
abbrev pub here_or : List ℕ → (List Term → Option (List ℕ)) → List Term → Option (List ℕ)
here_or text f [] = Some text
here_or text f (m ∷ ms) = f (m ∷ ms)

abbrev mutual
  pub wanted_in : Resolved → List Term → Option (List ℕ)
  wanted_in (Known s c n d) ms = here_or (type_text (Known s c n d)) (shape_wanted s) ms

  pub shape_wanted : Shape → List Term → Option (List ℕ)
  shape_wanted (OfBase b) ms = None
  shape_wanted (Named t) ms = wanted_in t ms
  shape_wanted (Ranged t r) ms = wanted_in t ms
  shape_wanted (ListOf t r) ms = below_index (wanted_in t) ms
  shape_wanted (DictOf t r) ms = below_key (λ key. wanted_in t) ms
  shape_wanted (Link t) ms = None
  shape_wanted (Record e fs) ms = below_key (field_wanted fs (no_field fs)) ms
  shape_wanted (Choice texts) ms = None

  -- what the first field of the key wants, and `other` where none has it
  pub field_wanted : Fields → (List Term → Option (List ℕ)) → List ℕ → List Term
      → Option (List ℕ)
  field_wanted none other k ms = other ms
  field_wanted (more l r t fs) other k ms =
      if bytes_eq l k then wanted_in t ms else field_wanted fs other k ms

abbrev pub record_wanted : Fields → List ℕ → List Term → Option (List ℕ)
record_wanted fs = field_wanted fs (no_field fs)
