-- The DML of statements, and the statements and includes of structure templates, are steady runs.
use Rattle.std.proofs.Common.{ℕ, zero, suc, List, [], ◌∷◌, Option, Some, None, Bool, false, Result, Ok, Err}
use Rattle.path_tree.specs.Plain.{Plain}
use Rattle.path_tree.specs.Find.{text_of}
use Rattle.path_tree.specs.declared.path.Path.{Path}
use Rattle.path_tree.specs.declared.path.PathError.{PathError}
use Rattle.path_tree.specs.declared.path.Anchor.{Anchor}
use Rattle.path_tree.specs.declared.path.Anchor.TheVariants as anchor
use Rattle.path_tree.specs.declared.path.Term.{Term}
use Rattle.pan_ast.specs.declared.place.Place.{Place}
use Rattle.pan_ast.specs.Syntax.{Item}
use Rattle.pan_ast.specs.Templates.{Template, Statement, StatementForm}
use Rattle.pan_ast.specs.Templates as statement
use Rattle.dml_meaning.specs.Around.{Around}
use Rattle.dml_meaning.specs.Means.{Means}
use Rattle.dml_meaning.specs.Structures.{dml_run, assign_value, assignment_run, relative_by, relative_terms, assign_by, Includes, include_by, include_value, statement_run, begin_statement, statements_from, included, created, create_named, create_run}
use Rattle.sound_profiles.proofs.Steady.{Steady, steady_scoped, steady_still}
use Rattle.sound_profiles.proofs.SteadyLeaves.{SteadyMeans, pieces, structure_steady}
use Rattle.sound_profiles.proofs.SteadyValues.{assigned_steady, set_keys_steady, text_steady}

pub dml_steady : {S : Type 0} → (go : Means) → SteadyMeans go
    → (a : Around) (fixed : Bool) (s : Plain) (i : Item) → Steady {S = S} (dml_run go a fixed s i)
unfolding dml_run
dml_steady go h a fixed s i = search (pieces, steady_scoped)

assign_value_steady : {S : Type 0} → (go : Means) → SteadyMeans go
    → (a : Around) (p : Place) (d : List ℕ) (ms : List Term) (i : Item) (t : Plain)
    → Steady {S = S} (assign_value go a p d ms i t)
assign_value_steady go h a p d ms i t = search (pieces, dml_steady, assigned_steady)

pub assignment_steady : {S : Type 0} → (go : Means) → SteadyMeans go
    → (a : Around) (p : Place) (d : List ℕ) (ms : List Term) (conditional : Bool) (i : Item)
    (t : Plain) → Steady {S = S} (assignment_run go a p d ms conditional i t)
unfolding assignment_run
assignment_steady go h a p d ms conditional i t = search (pieces, assign_value_steady)

relative_by_steady : (p : Place) (d : List ℕ) (from : Anchor) (ms : List Term)
    → Steady (relative_by p d from ms)
relative_by_steady p d anchor.Absolute ms = search pieces
relative_by_steady p d anchor.Relative ms = search pieces
relative_by_steady p d (anchor.External o) ms = search pieces

relative_steady : (p : Place) (d : List ℕ) (r : Result Path PathError)
    → Steady (relative_terms p d r)
relative_steady p d (Ok path) = relative_by_steady p d path.anchor path.terms
relative_steady p d (Err e) = search pieces

assign_steady : (go : Means) → SteadyMeans go
    → (a : Around) (p : Place) (d : List ℕ) (c : Bool) (i : Item) (t : Plain)
    → Steady (assign_by go a p d c i t)
assign_steady go h a p d c i t = search (pieces, relative_steady, assignment_steady)

abbrev pub SteadyIncludes : Includes → Type 0
SteadyIncludes including =
    (a : Around) (p : Place) (name : List ℕ) (t : Plain) → Steady (including a p name t)

include_by_steady : (including : Includes) → SteadyIncludes including
    → (a : Around) (p : Place) (t v : Plain) (o : Option (List ℕ))
    → Steady (include_by including a p t v o)
include_by_steady including k a p t v (Some name) = k a p name t
include_by_steady including k a p t v None = search pieces

include_steady : (including : Includes) → SteadyIncludes including
    → (a : Around) (p : Place) (t v : Plain) → Steady (include_value including a p t v)
include_steady including k a p t v = include_by_steady including k a p t v (text_of v)

statement_steady : (including : Includes) → SteadyIncludes including → (go : Means) → SteadyMeans go
    → (a : Around) (p : Place) (form : StatementForm) (t : Plain)
    → Steady (statement_run including go a p form t)
unfolding statement_run
statement_steady including k go h a p (statement.Assign false d c i) t =
    assign_steady go h a p d c i t
statement_steady including k go h a p (statement.Include i) t =
    search (pieces, dml_steady, include_steady)
statement_steady including k go h a p _ t = search pieces

begin_steady : (including : Includes) → SteadyIncludes including → (go : Means) → SteadyMeans go
    → (a : Around) (s : Statement) (t : Plain) → Steady (begin_statement including go a s t)
begin_steady including k go h a s t = search (pieces, statement_steady)

pub statements_steady : (including : Includes) → SteadyIncludes including → (go : Means)
    → SteadyMeans go → (a : Around) (ss : List Statement) (t : Plain)
    → Steady (statements_from including go a ss t)
unfolding statements_from
statements_steady including k go h a [] t = search pieces
statements_steady including k go h a (s ∷ ss) t = let next =
    statements_steady including k go h a ss in search (pieces, begin_steady)

pub included_steady : (n : ℕ) (go : Means) → SteadyMeans go → SteadyIncludes (included n go)
unfolding included
included_steady zero go h a p name t = search pieces
included_steady (suc n) go h a p name t =
    let next = included_steady n go h in
    search (pieces, steady_still, structure_steady, statements_steady)

created_steady : (go : Means) → SteadyMeans go → (a : Around) (p : Place) (name : List ℕ)
    → Steady (created go a p name)
created_steady go h a p name =
    let including = included_steady a.includes_left go h in
    search (pieces, steady_still, structure_steady, statements_steady)

named_steady : (go : Means) → SteadyMeans go → (a : Around) (p : Place) (pairs : List Plain)
    (name : List ℕ) → Steady (create_named go a p pairs name)
unfolding create_named
named_steady go h a p pairs name = search (pieces, created_steady, set_keys_steady)

pub create_steady : (go : Means) → SteadyMeans go → (a : Around) (p : Place) (ts : List Plain)
    → Steady (create_run go a p ts)
create_steady go h a p [] = search pieces
create_steady go h a p (name ∷ pairs) = search (pieces, text_steady, named_steady)
