-- What opens nothing is a lawful run: names, values, changes, files and paths.
use Rattle.std.proofs.Common.{◌≡◌, refl, ℕ, List, [], ◌∷◌, Option, Some, None, Bool, true, false, cond, Result, Ok, Err}
use Rattle.std.specs.Str.{bytes_eq}
use Rattle.path_tree.specs.Find.{get}
use Rattle.path_tree.specs.Paths.{path_of}
use Rattle.path_tree.specs.declared.operators.UnaryOp.{UnaryOp}
use Rattle.path_tree.specs.declared.path.Path.{Path}
use Rattle.path_tree.specs.declared.path.PathError.{PathError}
use Rattle.path_tree.specs.declared.path.Anchor.{Anchor}
use Rattle.path_tree.specs.declared.path.Anchor.TheVariants as anchor
use Rattle.path_tree.specs.declared.path.Term.{Term}
use Rattle.pan_ast.specs.declared.place.Place.{Place}
use Rattle.pan_ast.specs.declared.fault.Code.TheVariants as code
use Rattle.pan_ast.specs.declared.fault.Fault.{Fault}
use Rattle.pan_ast.specs.Syntax.{Item, Node, Reference}
use Rattle.pan_ast.specs.Templates.{Template}
use Rattle.questions.specs.declared.key.Key.{Key}
use Rattle.questions.specs.declared.key.Key.TheVariants.{File, Under}
use Rattle.questions.specs.Contents.{Content, Failed, Circular, NoValue, Value, is_circular_answer}
use Rattle.pan_ast.specs.Detail.{fault_with}
use Rattle.questions.specs.Run.{Run, give}
use Rattle.questions.specs.Laws.{is_circular}
use Rattle.questions.proofs.Process.{Either}
use Rattle.questions.proofs.Lawful.{Lawful, FailsCircular, lawful_bind, lawful_give, lawful_return, lawful_fail, lawful_now, lawful_become, lawful_cond, lawful_step, lawful_step_then, lawful_ask_then, lawful_ask_file}
use Rattle.dml_meaning.specs.Run.{Look}
use Rattle.dml_meaning.specs.Around.{Around}
use Rattle.dml_meaning.specs.Lookups.{Present, Long, Whole, or_next, asked_file, tried, first_present, looked_up, on_bytes, or_fault, named_so, of_kind, template_named, structure_named, Looked, looked_in, looked_under, look_other, look_at, look_by, look}
use Rattle.dml_meaning.specs.Means.{Means, Purpose}

-- what may be asked about an object: any file, and any other object; no file reads as the fault of
-- a circular one
pub record FitsFor (may : Key → Type 0) (object : List ℕ)
    (reading : List ℕ → List ℕ → Result Template Fault) : Type 0 where
  pub file : (f : List ℕ) → may (File f)
  pub other : (o : List ℕ) (ms : List Term) → bytes_eq o object ≡ false → may (Under o ms)
  pub plain : (f bs : List ℕ) (fault : Fault) → reading f bs ≡ Err fault → is_circular fault.code
      ≡ false

abbrev pub Fits : (Key → Type 0) → Around → Type 0
Fits may a = FitsFor may a.object a.reading

pub record LawfulMeans (may : Key → Type 0) (go : Means) : Type 0 where
  pub opens : (a : Around) → Fits may a → (i : Item) → Lawful may 0 (go.opens a i)
  pub signs : (a : Around) → Fits may a → (p : Place) (op : UnaryOp) (x : Node)
      → Lawful may 0 (go.signs a p op x)
  pub reaches : (a : Around) → Fits may a → (w : Purpose) (p : Place) (r : Reference)
      → Lawful may 0 (go.reaches a w p r)

pub opens_lawful : (may : Key → Type 0) (go : Means) → LawfulMeans may go → (a : Around)
    → Fits may a → (i : Item) → Lawful may 0 (go.opens a i)
opens_lawful may go h = h.opens

pub signs_lawful : (may : Key → Type 0) (go : Means) → LawfulMeans may go → (a : Around)
    → Fits may a → (p : Place) (op : UnaryOp) (x : Node) → Lawful may 0 (go.signs a p op x)
signs_lawful may go h = h.signs

pub reaches_lawful : (may : Key → Type 0) (go : Means) → LawfulMeans may go → (a : Around)
    → Fits may a → (w : Purpose) (p : Place) (r : Reference) → Lawful may 0 (go.reaches a w p r)
reaches_lawful may go h = h.reaches

pub ruleset pieces = (
  lawful_bind,
  lawful_give,
  lawful_return,
  lawful_fail,
  lawful_now,
  lawful_become,
  lawful_cond,
  lawful_step,
  lawful_step_then,
  opens_lawful,
  signs_lawful,
  reaches_lawful,
)

-- files

asked_lawful : (may : Key → Type 0) → ((f : List ℕ) → may (File f)) → (p : Place) (f : List ℕ)
    → Lawful may 0 (asked_file p f)
asked_lawful may ok p f = search (pieces, lawful_ask_file)

tried_lawful : (may : Key → Type 0) → ((f : List ℕ) → may (File f)) → (p : Place) (f : List ℕ)
    → Lawful may 0 (tried p f)
tried_lawful may ok p f = search (pieces, asked_lawful)

next_lawful : (may : Key → Type 0) (next : Look (Option Present)) (x : Option Present)
    → Lawful may 0 next → Lawful may 0 (or_next next x)
next_lawful may next (Some x) h = search pieces
next_lawful may next None h = h

pub first_lawful : (may : Key → Type 0) → ((f : List ℕ) → may (File f))
    → (p : Place) (fs : List (List ℕ)) → Lawful may 0 (first_present p fs)
unfolding first_present
first_lawful may ok p [] = search pieces
first_lawful may ok p (f ∷ fs) = let next = first_lawful may ok p fs in
    search (pieces, tried_lawful, next_lawful)

pub looked_up_lawful : (may : Key → Type 0) (a : Around) → Fits may a
    → (p : Place) (holds : Bool) (name suffix : List ℕ)
    → Lawful may 0 (looked_up a p holds name suffix)
looked_up_lawful may a w p holds name suffix = search (pieces, first_lawful)

pub bytes_lawful : {S X : Type 0} → (may : Key → Type 0) (p : Place) (name : List ℕ)
    (next : List ℕ → List ℕ → Run S X) (x : Option Present)
    → ((f bs : List ℕ) → Lawful may 0 (next f bs)) → Lawful may 0 (on_bytes p name next x)
bytes_lawful may p name next None h = search pieces
bytes_lawful may p name next (Some (Long f)) h = search pieces
bytes_lawful may p name next (Some (Whole f bs)) h = h f bs

fault_lawful : {X : Type 0} → (may : Key → Type 0) (r : Result X Fault)
    → ((f : Fault) → r ≡ Err f → is_circular f.code ≡ false) → Lawful may 0 (or_fault r)
fault_lawful may (Ok x) h = search pieces
fault_lawful may (Err f) h = lawful_fail may 0 f (h f refl)

named_so_lawful : (may : Key → Type 0) (name : List ℕ) (z : Template)
    → Lawful may 0 (named_so name z)
named_so_lawful may name z = search pieces

of_kind_lawful : (may : Key → Type 0) (p : Place) (name : List ℕ) (z : Template)
    → Lawful may 0 (of_kind p name z)
of_kind_lawful may p name z = search pieces

pub template_lawful : (may : Key → Type 0) (a : Around) → Fits may a → (p : Place) (name : List ℕ)
    → Lawful may 0 (template_named a p name)
unfolding template_named
template_lawful may a w p name =
    let read = λ (f bs : List ℕ). fault_lawful may (a.reading f bs) (w.plain f bs) in
    search (pieces, looked_up_lawful, bytes_lawful, named_so_lawful)

pub structure_lawful : (may : Key → Type 0) (a : Around) → Fits may a → (p : Place) (name : List ℕ)
    → Lawful may 0 (structure_named a p name)
unfolding structure_named
structure_lawful may a w p name = search (pieces, template_lawful, of_kind_lawful)

-- paths: F31 exactly where the answer is Circular

under_lawful : (may : Key → Type 0) (p : Place) (o : List ℕ) (ms : List Term) (c : Content)
    → Either (is_circular_answer (Under o ms) c) (FailsCircular may (looked_under p o c))
    (Lawful may 0 (looked_under p o c))
under_lawful may p o ms Circular =
    record { fault = fault_with code.Circular p o; is = refl; circular = refl }
under_lawful may p o ms Failed = search pieces
under_lawful may p o ms NoValue = search pieces
under_lawful may p o ms (Value t) = search pieces
under_lawful may p o ms _ = search pieces

-- a question about another object, which the call has paid
other_lawful : (may : Key → Type 0) (a : Around) → Fits may a
    → (p : Place) (o : List ℕ) (ms : List Term) (here : Look Looked) (b : Bool)
    → bytes_eq o a.object ≡ b → Lawful may 1 here → Lawful may 1 (cond b here (look_other p o ms))
other_lawful may a w p o ms here true e h = h
other_lawful may a w p o ms here false e h =
    lawful_ask_then may 0 (Under o ms) (looked_under p o) (w.other o ms e) (under_lawful may p o ms)

pub look_at_lawful : (may : Key → Type 0) (a : Around) → Fits may a
    → (p : Place) (t : List ℕ) (from : Anchor) (ms : List Term)
    → Lawful may 1 (look_at a p t from ms)
look_at_lawful may a w p t anchor.Absolute ms = search pieces
look_at_lawful may a w p t anchor.Relative ms = search pieces
look_at_lawful may a w p t (anchor.External o) ms =
    other_lawful may a w p o ms (give (looked_in (get ms a.root))) (bytes_eq o a.object) refl
    (lawful_give may 1 _)

look_by_lawful : (may : Key → Type 0) (a : Around) → Fits may a
    → (p : Place) (t : List ℕ) (r : Result Path PathError) → Lawful may 1 (look_by a p t r)
look_by_lawful may a w p t (Ok path) = look_at_lawful may a w p t path.anchor path.terms
look_by_lawful may a w p t (Err e) = search pieces

pub look_lawful : (may : Key → Type 0) (a : Around) → Fits may a → (p : Place) (t : List ℕ)
    → Lawful may 1 (look a p t)
unfolding look
look_lawful may a w p t = look_by_lawful may a w p t (path_of t)
