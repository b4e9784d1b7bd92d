-- The check of an object: no undef, then each binding in order, then each valid statement in order.
use Rattle.std.specs.Prelude.{ℕ, ◌+◌, cond, List, [], ◌∷◌, ◌++◌, Option, Some, None, option_map, Result, Ok, Err}
use Rattle.path_tree.specs.Plain.{Plain, dict, list, undef, Items, no_items, item, Fields as Values, no_fields, field}
use Rattle.path_tree.specs.Find.{get, boolean_of}
use Rattle.path_tree.specs.Paths.{path_text}
use Rattle.path_tree.specs.declared.path.Anchor.TheVariants as anchor
use Rattle.path_tree.specs.declared.path.Term.{Term}
use Rattle.path_tree.specs.declared.path.Term.TheVariants as term
use Rattle.pan_ast.specs.declared.place.Place.{Place}
use Rattle.pan_ast.specs.declared.fault.Code.TheVariants.{UndefLeft, NoBoundPath, FalseValid}
use Rattle.questions.specs.Run.{◌>>=◌, give, fail_about}
use Rattle.dml_meaning.specs.Run.{Look}
use Rattle.type_defs.specs.Bindings.{Bound, Valid}
use Rattle.validate.specs.Check.{check, truth}
use Rattle.validate.specs.Means.{Means}
use Rattle.validate.specs.Refusals.{Refusal, code_of}

-- an absolute path in canonical form
abbrev pub absolute : List Term → List ℕ
absolute ms = path_text (record { anchor = anchor.Absolute; terms = ms })

abbrev pub or_else : {X : Type 0} → Option X → Option X → Option X
or_else None o = o
or_else (Some x) o = Some x

-- the terms that lead to the first undef, a container before its children and children in order
abbrev mutual
  pub first_undef : Plain → Option (List Term)
  first_undef (dict fs) = undef_in_fields fs
  first_undef (list ts) = undef_in_items 0 ts
  first_undef undef = Some []
  first_undef v = None

  pub undef_in_items : ℕ → Items → Option (List Term)
  undef_in_items i no_items = None
  undef_in_items i (item t ts) =
      or_else (option_map (λ ms. term.Index i ∷ ms) (first_undef t)) (undef_in_items (i + 1) ts)

  pub undef_in_fields : Values → Option (List Term)
  undef_in_fields no_fields = None
  undef_in_fields (field k t fs) =
      or_else (option_map (λ ms. term.Key k ∷ ms) (first_undef t)) (undef_in_fields fs)

abbrev pub undef_run : Place → Option (List Term) → Look (Unit {0})
undef_run header None = give tt
undef_run header (Some ms) = fail_about UndefLeft header (absolute ms)

-- a refusal of a value below the terms is a fault at the place, with the path of the value
abbrev pub placed : {X : Type 0} → Place → List Term → Result X Refusal → Look X
placed p ms (Ok x) = give x
placed p ms (Err r) = fail_about (code_of r.misfit) p (absolute (ms ++ r.terms))

-- a binding, where this stands at its path
unfoldable pub bound_run : Means → Bound → Option Plain → Look (Unit {0})
bound_run e b None = fail_about NoBoundPath b.place (absolute b.terms)
bound_run e b (Some v) = do
  x ← check e b.place b.resolved v
  placed b.place b.terms x

unfoldable pub bounds_run : Means → Plain → List Bound → Look (Unit {0})
bounds_run e root [] = give tt
bounds_run e root (b ∷ bs) = do
  _ ← bound_run e b (get b.terms root)
  bounds_run e root bs

-- a valid statement, where this stands at its path
unfoldable pub valid_run : Means → Valid → Option Plain → Look (Unit {0})
valid_run e s None = fail_about NoBoundPath s.place (absolute s.terms)
valid_run e s (Some v) = do
  t ← e.dml s.template s.body v
  holds ← truth s.place (boolean_of t)
  cond holds (give tt) (fail_about FalseValid s.place (absolute s.terms))

unfoldable pub valids_run : Means → Plain → List Valid → Look (Unit {0})
valids_run e root [] = give tt
valids_run e root (s ∷ ss) = do
  _ ← valid_run e s (get s.terms root)
  valids_run e root ss

-- the whole check of a tree
unfoldable pub checked : Means → Place → Plain → List Bound → List Valid → Look (Unit {0})
checked e header root bounds valids = do
  _ ← undef_run header (first_undef root)
  _ ← bounds_run e root bounds
  valids_run e root valids
