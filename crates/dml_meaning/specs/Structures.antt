-- Structure templates: what `create` runs.
use Rattle.std.specs.Prelude.{ℕ, zero, suc, List, [], ◌∷◌, Option, Some, None, is_some, unwrap_or, Bool, true, false, cond, ◌&&◌, nat_eq, Result, Ok, Err}
use Rattle.path_tree.specs.Plain.{Plain, dict, undef, no_fields}
use Rattle.path_tree.specs.Grammar.{is_key}
use Rattle.path_tree.specs.Find.{get, kind_of, text_of}
use Rattle.path_tree.specs.Paths.{path_of}
use Rattle.path_tree.specs.Put.{put}
use Rattle.path_tree.specs.Remove.{remove}
use Rattle.path_tree.specs.declared.path.Term.{Term}
use Rattle.path_tree.specs.declared.path.Term.TheVariants as term
use Rattle.path_tree.specs.declared.path.Path.{Path}
use Rattle.path_tree.specs.declared.path.Anchor.{Anchor}
use Rattle.path_tree.specs.declared.path.Anchor.TheVariants as anchor
use Rattle.path_tree.specs.declared.path.PathError.{PathError}
use Rattle.path_tree.specs.declared.path.PutError.{PutError}
use Rattle.path_tree.specs.declared.path.PutError.TheVariants as error
use Rattle.pan_ast.specs.declared.place.Place.{Place}
use Rattle.pan_ast.specs.declared.fault.Code.TheVariants as code
use Rattle.pan_ast.specs.Syntax.{Item}
use Rattle.pan_ast.specs.Templates.{Statement, StatementForm}
use Rattle.pan_ast.specs.Templates as statement
use Rattle.dml_meaning.specs.declared.words.Test.TheVariants as test
use Rattle.questions.specs.Run as questions
use Rattle.questions.specs.Run.{◌>>=◌, give, fail, fail_about, step, scoped, still}
use Rattle.dml_meaning.specs.Run.{Run}
use Rattle.dml_meaning.specs.Around.{Around, in_create, in_include, in_template, in_statement}
use Rattle.dml_meaning.specs.Values.{is_nothing, passes}
use Rattle.dml_meaning.specs.Lookups.{structure_named}
use Rattle.dml_meaning.specs.Means.{Means}
use Rattle.dml_meaning.specs.Leaves.{on_text}

-- the DML of a statement: locals and SELF of its own, whatever stands around it
unfoldable pub dml_run : {S : Type 0} → Means → Around → Bool → Plain → Item → questions.Run S Plain
dml_run go a fixed s i =
    scoped (λ _. record { locals = []; self = s }) (λ e l. e) (go.opens (in_statement a fixed) i)

abbrev pub put_fault : {S : Type 0} → Result Plain PutError → Place → List ℕ → questions.Run S Plain
put_fault (Ok t) p d = give t
put_fault (Err error.TooLarge) p d = fail code.TooLarge p
put_fault (Err error.TooHigh) p d = fail code.TooLarge p
put_fault (Err _) p d = fail_about code.BadPath p d

abbrev pub assigned_at : {S : Type 0} → Place → List ℕ → List Term → Plain → Plain
    → questions.Run S Plain
assigned_at p d ms t v = cond (is_nothing v) (give (remove ms t)) (put_fault (put ms v t) p d)

abbrev pub is_set : Option Plain → Bool
is_set None = false
is_set (Some undef) = false
is_set (Some t) = true

-- the DML of an assignment, where SELF is what stands at the path, and the change
abbrev pub assign_value : {S : Type 0} → Means → Around → Place → List ℕ → List Term → Item → Plain
    → questions.Run S Plain
assign_value go a p d ms i t =
    dml_run go a false (unwrap_or (get ms t) undef) i >>= assigned_at p d ms t

-- an assignment to a path of what is made; a conditional one only where the path is not set
unfoldable pub assignment_run : {S : Type 0} → Means → Around → Place → List ℕ → List Term → Bool
    → Item → Plain → questions.Run S Plain
assignment_run go a p d ms conditional i t =
    cond (conditional && is_set (get ms t)) (give t) (assign_value go a p d ms i t)

-- the terms of a relative path: a structure template assigns to no other
abbrev pub relative_by : Place → List ℕ → Anchor → List Term → Run (List Term)
relative_by p d anchor.Absolute ms = fail code.WrongStatement p
relative_by p d anchor.Relative ms = give ms
relative_by p d (anchor.External o) ms = fail_about code.BadPath p d

abbrev pub relative_terms : Place → List ℕ → Result Path PathError → Run (List Term)
relative_terms p d (Err e) = fail_about code.BadPath p d
relative_terms p d (Ok path) = relative_by p d path.anchor path.terms

abbrev pub assign_by : Means → Around → Place → List ℕ → Bool → Item → Plain → Run Plain
assign_by go a p d c i t =
    relative_terms p d (path_of d) >>= (λ ms. assignment_run go a p d ms c i t)

-- how a template is included, by its name
abbrev pub Includes : Type 0
Includes = Around → Place → List ℕ → Plain → Run Plain

-- undef and null include nothing
abbrev pub include_by : Includes → Around → Place → Plain → Plain → Option (List ℕ) → Run Plain
include_by including a p t v (Some name) = including a p name t
include_by including a p t v None =
    cond (passes test.Defined (kind_of v)) (fail code.BadArgument p) (give t)

abbrev pub include_value : Includes → Around → Place → Plain → Plain → Run Plain
include_value including a p t v = include_by including a p t v (text_of v)

-- a statement of a structure template, over what is made so far
unfoldable pub statement_run : Includes → Means → Around → Place → StatementForm → Plain → Run Plain
statement_run including go a p (statement.Assign false d c i) t = assign_by go a p d c i t
statement_run including go a p (statement.Include i) t = do
  v ← dml_run go a true undef i
  include_value including a p t v
statement_run including go a p _ t = fail code.WrongStatement p

-- a statement costs a step when it begins
abbrev pub begin_statement : Includes → Means → Around → Statement → Plain → Run Plain
begin_statement including go a s t = do
  _ ← step s.place
  statement_run including go a s.place s.form t

unfoldable pub statements_from : Includes → Means → Around → List Statement → Plain → Run Plain
statements_from including go a [] t = give t
statements_from including go a (s ∷ ss) t =
    begin_statement including go a s t >>= statements_from including go a ss

-- a structure template that is included where n more may be open
unfoldable pub included : ℕ → Means → Includes
included zero go a p name t = fail code.IncludeDepth p
included (suc n) go a p name t = do
  z ← still (structure_named a p name)
  statements_from (included n go) go (in_template (in_include a) z.name) z.statements t

-- a key is set; null removes it
abbrev pub set_key : Place → Plain → Plain → List ℕ → Run Plain
set_key p v t k = cond (is_key k) (assigned_at p k (term.Key k ∷ []) t v) (fail code.BadIndex p)

-- whether values are keys, each with its value behind it
abbrev pub are_pairs : List Plain → Bool
are_pairs [] = true
are_pairs (k ∷ []) = false
are_pairs (k ∷ v ∷ ts) = is_some (text_of k) && are_pairs ts

-- each key of such pairs set in turn
unfoldable pub set_keys : Place → List Plain → Plain → Run Plain
set_keys p (k ∷ v ∷ ts) t = do
  u ← on_text p (set_key p v t) k
  set_keys p ts u
set_keys p _ t = give t

-- what the statements of a structure template make, from an empty dict on
abbrev pub created : Means → Around → Place → List ℕ → Run Plain
created go a p name = do
  z ← still (structure_named a p name)
  statements_from (included a.includes_left go) go (in_template (in_create a) z.name) z.statements
      (dict no_fields)

unfoldable pub create_named : Means → Around → Place → List Plain → List ℕ → Run Plain
create_named go a p pairs name =
    cond (nat_eq a.calls_left 0) (fail code.CallDepth p) (created go a p name >>= set_keys p pairs)

-- the name of a structure template, and the keys that are set in what it makes
abbrev pub create_run : Means → Around → Place → List Plain → Run Plain
create_run go a p [] = fail code.BadArgument p
create_run go a p (name ∷ pairs) =
    cond (are_pairs pairs) (on_text p (create_named go a p pairs) name) (fail code.BadArgument p)
