-- The steps of the check, and of the search for an undef, that the code makes one at a time.
use Rattle.std.specs.Prelude.{ℕ, if◌then◌else◌, List, ◌∷◌, Option, Some, None, option_map, Vec}
use Rattle.std.specs.declared.alloc.Global.{Global}
use Rattle.path_tree.specs.Plain.{Plain}
use Rattle.path_tree.specs.Find.{child}
use Rattle.path_tree.specs.declared.path.Term.{Term}
use Rattle.path_tree.specs.declared.path.Term.TheVariants as term
use Rattle.pan_ast.specs.declared.place.Place.{Place}
use Rattle.type_defs.specs.Resolved.{Field, Fields}
use Rattle.validate.specs.Check.{check, field_run, has_key}
use Rattle.validate.specs.Checked.{first_undef}
use Rattle.validate.specs.Means.{Means}
use Rattle.validate.specs.Refusals.{Checks, below, fine}

-- the i-th item, where there is one
unfoldable pub item_run : (Plain → Checks (Unit {0})) → ℕ → Option Plain → Checks (Unit {0})
item_run f i None = fine tt
item_run f i (Some t) = below (term.Index i) (f t)

-- the value of a key, where there is one
unfoldable pub value_run : (Plain → Checks (Unit {0})) → Option (List ℕ) → Option Plain
    → Checks (Unit {0})
value_run f (Some k) (Some t) = below (term.Key k) (f t)
value_run f k o = fine tt

-- a field of a record, in a value
abbrev pub typed_run : Means → Place → Field → Plain → Checks (Unit {0})
typed_run e p f v =
    field_run f.key f.required (check e p f.resolved) (child (term.Key f.key) v)

-- a key that no field has
abbrev pub extra_key : Fields → Option (List ℕ) → Option (List ℕ)
extra_key fs None = None
extra_key fs (Some k) = if has_key k fs then None else Some k

abbrev pub terms_in : Option (Vec Term Global) → Option (List Term)
terms_in o = option_map (λ ts. ts.items) o

abbrev pub undef_at_index : ℕ → Option Plain → Option (List Term)
undef_at_index i None = None
undef_at_index i (Some t) = option_map (λ ms. term.Index i ∷ ms) (first_undef t)

abbrev pub undef_at_key : Option (List ℕ) → Option Plain → Option (List Term)
undef_at_key (Some k) (Some t) = option_map (λ ms. term.Key k ∷ ms) (first_undef t)
undef_at_key k o = None
