-- What bindings want at a path, as words.
use Rattle.std.specs.Prelude.{ℕ, Bool, false, ◌==◌, ◌&&◌, List, [], ◌∷◌, bytes_eq, if◌then◌else◌, Option, Some, None, codes}
use Rattle.std.specs.Option.{option_or}
use Rattle.path_tree.specs.declared.path.Term.{Term}
use Rattle.path_tree.specs.declared.path.Term.TheVariants as term
use Rattle.pan_ast.specs.declared.place.Place.{Place}
use Rattle.type_defs.specs.Bindings.{Bound}
use Rattle.type_defs.specs.Resolved.{Resolved}
use Rattle.wanted_types.specs.Below.{wanted_in}

abbrev pub term_eq : Term → Term → Bool
term_eq (term.Key k) (term.Key l) = bytes_eq k l
term_eq (term.Index i) (term.Index j) = i == j
term_eq (term.Key k) (term.Index j) = false
term_eq (term.Index i) (term.Key l) = false

-- the terms behind a beginning; nothing where they do not begin so
abbrev pub behind : List Term → List Term → Option (List Term)
behind [] ms = Some ms
behind (x ∷ xs) [] = None
behind (x ∷ xs) (y ∷ ys) = if term_eq x y then behind xs ys else None

abbrev pub wanted_at : Resolved → Option (List Term) → Option (List ℕ)
wanted_at t None = None
wanted_at t (Some ms) = wanted_in t ms

abbrev pub bound_wanted : List Term → Bound → Option (List ℕ)
bound_wanted ms b = wanted_at b.resolved (behind b.terms ms)

-- the binding is of the statement at the place
abbrev pub is_by : Place → Bound → Bool
is_by place b = (b.place.line == place.line) && (b.place.column == place.column)
    && bytes_eq b.place.file place.file

-- what the first binding wants that says what it wants at the path: of a statement, and of any
abbrev pub first_wanted : List Term → List Bound → Option (List ℕ)
first_wanted ms [] = None
first_wanted ms (b ∷ bs) = option_or (bound_wanted ms b) (first_wanted ms bs)

abbrev pub wanted_by : Place → List Term → List Bound → Option (List ℕ)
wanted_by place ms [] = None
wanted_by place ms (b ∷ bs) =
    if is_by place b then option_or (bound_wanted ms b) (wanted_by place ms bs)
    else wanted_by place ms bs

abbrev pub text_or : List ℕ → Option (List ℕ) → List ℕ
text_or other None = other
text_or other (Some text) = text

-- first by the statement at the place, then by any; and `a value` where no type says more
abbrev pub wanted_text : Place → List Term → List Bound → List ℕ
wanted_text place ms bs =
    text_or (codes "a value") (option_or (wanted_by place ms bs) (first_wanted ms bs))
