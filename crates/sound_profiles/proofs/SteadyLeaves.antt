-- What opens nothing is a steady run: names, values, changes, files and paths.
use Rattle.std.proofs.Common.{ℕ, List, [], ◌∷◌, Option, Some, None, Bool, Result, Ok, Err}
use Rattle.path_tree.specs.Paths.{path_of}
use Rattle.path_tree.specs.declared.operators.UnaryOp.{UnaryOp}
use Rattle.path_tree.specs.declared.path.Path.{Path}
use Rattle.path_tree.specs.declared.path.PathError.{PathError}
use Rattle.path_tree.specs.declared.path.Anchor.{Anchor}
use Rattle.path_tree.specs.declared.path.Anchor.TheVariants as anchor
use Rattle.path_tree.specs.declared.path.Term.{Term}
use Rattle.pan_ast.specs.declared.place.Place.{Place}
use Rattle.pan_ast.specs.declared.fault.Fault.{Fault}
use Rattle.pan_ast.specs.Syntax.{Item, Node, Reference}
use Rattle.pan_ast.specs.Templates.{Template}
use Rattle.questions.specs.Contents.{Content, Failed, Circular, NoValue, Value}
use Rattle.questions.specs.Run.{Run}
use Rattle.dml_meaning.specs.Run.{Look}
use Rattle.dml_meaning.specs.Around.{Around}
use Rattle.dml_meaning.specs.Lookups.{Present, Long, Whole, or_next, asked_file, tried, first_present, looked_up, on_bytes, or_fault, named_so, of_kind, template_named, structure_named, looked_under, look_at, look_by, look}
use Rattle.dml_meaning.specs.Means.{Means, Purpose}
use Rattle.sound_profiles.proofs.Steady.{Steady, steady_bind, steady_give, steady_return, steady_fail, steady_now, steady_become, steady_cond, steady_step, steady_ask}

pub record SteadyMeans (go : Means) : Type 0 where
  pub opens : (a : Around) (i : Item) → Steady (go.opens a i)
  pub signs : (a : Around) (p : Place) (op : UnaryOp) (x : Node) → Steady (go.signs a p op x)
  pub reaches : (a : Around) (w : Purpose) (p : Place) (r : Reference) → Steady (go.reaches a w p r)

pub opens_steady : (go : Means) → SteadyMeans go → (a : Around) (i : Item) → Steady (go.opens a i)
opens_steady go h = h.opens

pub signs_steady : (go : Means) → SteadyMeans go
    → (a : Around) (p : Place) (op : UnaryOp) (x : Node) → Steady (go.signs a p op x)
signs_steady go h = h.signs

pub reaches_steady : (go : Means) → SteadyMeans go
    → (a : Around) (w : Purpose) (p : Place) (r : Reference) → Steady (go.reaches a w p r)
reaches_steady go h = h.reaches

pub ruleset pieces = (
  steady_bind,
  steady_give,
  steady_return,
  steady_fail,
  steady_now,
  steady_become,
  steady_cond,
  steady_step,
  opens_steady,
  signs_steady,
  reaches_steady,
)

-- files

asked_steady : (p : Place) (f : List ℕ) → Steady (asked_file p f)
asked_steady p f = search (pieces, steady_ask)

tried_steady : (p : Place) (f : List ℕ) → Steady (tried p f)
tried_steady p f = search (pieces, asked_steady)

next_steady : (next : Look (Option Present)) (x : Option Present) → Steady next
    → Steady (or_next next x)
next_steady next (Some x) h = search pieces
next_steady next None h = h

first_steady : (p : Place) (fs : List (List ℕ)) → Steady (first_present p fs)
unfolding first_present
first_steady p [] = search pieces
first_steady p (f ∷ fs) = let next = first_steady p fs in search (pieces, tried_steady, next_steady)

pub looked_up_steady : (a : Around) (p : Place) (holds : Bool) (name suffix : List ℕ)
    → Steady (looked_up a p holds name suffix)
looked_up_steady a p holds name suffix = search (pieces, first_steady)

pub bytes_steady : {S X : Type 0} → (p : Place) (name : List ℕ) (next : List ℕ → List ℕ → Run S X)
    (x : Option Present) → ((f bs : List ℕ) → Steady (next f bs)) → Steady (on_bytes p name next x)
bytes_steady p name next None h = search pieces
bytes_steady p name next (Some (Long f)) h = search pieces
bytes_steady p name next (Some (Whole f bs)) h = h f bs

fault_steady : {X : Type 0} → (r : Result X Fault) → Steady (or_fault r)
fault_steady (Ok x) = search pieces
fault_steady (Err f) = search pieces

named_so_steady : (name : List ℕ) (z : Template) → Steady (named_so name z)
named_so_steady name z = search pieces

of_kind_steady : (p : Place) (name : List ℕ) (z : Template) → Steady (of_kind p name z)
of_kind_steady p name z = search pieces

pub template_steady : (a : Around) (p : Place) (name : List ℕ) → Steady (template_named a p name)
unfolding template_named
template_steady a p name =
    search (pieces, looked_up_steady, bytes_steady, fault_steady, named_so_steady)

pub structure_steady : (a : Around) (p : Place) (name : List ℕ) → Steady (structure_named a p name)
unfolding structure_named
structure_steady a p name = search (pieces, template_steady, of_kind_steady)

-- paths

under_steady : (p : Place) (o : List ℕ) (c : Content) → Steady (looked_under p o c)
under_steady p o Failed = search pieces
under_steady p o Circular = search pieces
under_steady p o NoValue = search pieces
under_steady p o (Value t) = search pieces
under_steady p o _ = search pieces

pub look_at_steady : (a : Around) (p : Place) (t : List ℕ) (from : Anchor) (ms : List Term)
    → Steady (look_at a p t from ms)
look_at_steady a p t anchor.Absolute ms = search pieces
look_at_steady a p t anchor.Relative ms = search pieces
look_at_steady a p t (anchor.External o) ms = search (pieces, steady_ask, under_steady)

look_by_steady : (a : Around) (p : Place) (t : List ℕ) (r : Result Path PathError)
    → Steady (look_by a p t r)
look_by_steady a p t (Ok path) = look_at_steady a p t path.anchor path.terms
look_by_steady a p t (Err e) = search pieces

pub look_steady : (a : Around) (p : Place) (t : List ℕ) → Steady (look a p t)
unfolding look
look_steady a p t = look_by_steady a p t (path_of t)
