-- Files that are looked up by a name, and values that are read by a path.
use Rattle.std.specs.Prelude.{ℕ, Bool, true, false, List, [], ◌∷◌, Option, Some, None, Result, Ok, Err, codes, bytes_eq, cond}
use Rattle.load_path.specs.Candidates.{candidates}
use Rattle.path_tree.specs.Plain.{Plain, list}
use Rattle.path_tree.specs.Grammar.{is_name}
use Rattle.path_tree.specs.Find.{get, text_of}
use Rattle.path_tree.specs.Lists.{items_in}
use Rattle.path_tree.specs.Paths.{path_of}
use Rattle.path_tree.specs.declared.path.Term.{Term}
use Rattle.path_tree.specs.declared.path.Path.{Path}
use Rattle.path_tree.specs.declared.path.Anchor.{Anchor}
use Rattle.path_tree.specs.declared.path.Anchor.TheVariants as anchor
use Rattle.path_tree.specs.declared.path.PathError.{PathError}
use Rattle.pan_ast.specs.declared.place.Place.{Place}
use Rattle.pan_ast.specs.declared.fault.Code.TheVariants as code
use Rattle.pan_ast.specs.declared.fault.Fault.{Fault}
use Rattle.pan_ast.specs.declared.template.TemplateKind.{TemplateKind}
use Rattle.pan_ast.specs.declared.template.TemplateKind.TheVariants as kind
use Rattle.pan_ast.specs.Templates.{Template}
use Rattle.questions.specs.declared.key.Key.TheVariants.{File, Under}
use Rattle.questions.specs.Contents.{Content, TooLong, Bytes, Failed, Circular, NoValue, Value}
use Rattle.questions.specs.Run.{Run, ◌>>=◌, give, fail_about, fail_with, step, ask}
use Rattle.dml_meaning.specs.Run.{Look}
use Rattle.dml_meaning.specs.Around.{Around, found}

abbrev pub with_text : Option (List ℕ) → List (List ℕ) → List (List ℕ)
with_text None texts = texts
with_text (Some t) texts = t ∷ texts

-- the texts among values
abbrev pub texts_in : List Plain → List (List ℕ)
texts_in [] = []
texts_in (t ∷ ts) = with_text (text_of t) (texts_in ts)

-- the prefixes that a LOADPATH gives
abbrev pub load_path : Option Plain → List (List ℕ)
load_path (Some (list ts)) = texts_in (items_in ts)
load_path _ = []

-- the file names under which a name is looked for
abbrev pub candidates_of : Around → List ℕ → List ℕ → List (List ℕ)
candidates_of a name suffix =
    candidates name suffix (load_path (found a.globals (codes "LOADPATH"))) a.dirs

-- a file that is there: too long, or its bytes
pub data Present : Type 0 where
  Long : List ℕ → Present
  Whole : List ℕ → List ℕ → Present

abbrev pub present : List ℕ → Content → Option Present
present f TooLong = Some (Long f)
present f (Bytes bs) = Some (Whole f bs)
present f _ = None

-- a file is asked, which is a step
abbrev pub asked_file : Place → List ℕ → Look Content
asked_file p f = do
  _ ← step p
  ask (File f)

abbrev pub tried : Place → List ℕ → Look (Option Present)
tried p f = asked_file p f >>= (λ content. give (present f content))

abbrev pub or_next : Look (Option Present) → Option Present → Look (Option Present)
or_next next (Some x) = give (Some x)
or_next next None = next

-- the first of these files that is there
unfoldable pub first_present : Place → List (List ℕ) → Look (Option Present)
first_present p [] = give None
first_present p (f ∷ fs) = tried p f >>= or_next (first_present p fs)

-- a file by a name with a suffix; a name that is none finds nothing, and no file is asked
abbrev pub looked_up : Around → Place → Bool → List ℕ → List ℕ → Look (Option Present)
looked_up a p holds name suffix =
    cond holds (first_present p (candidates_of a name suffix)) (give None)

-- goes on with the file and the bytes that a name found
abbrev pub on_bytes : {S X : Type 0} → Place → List ℕ → (List ℕ → List ℕ → Run S X) → Option Present
    → Run S X
on_bytes p name next None = fail_about code.NoTemplate p name
on_bytes p name next (Some (Long f)) = fail_about code.FileTooLong p f
on_bytes p name next (Some (Whole f bs)) = next f bs

abbrev pub or_fault : {X : Type 0} → Result X Fault → Look X
or_fault (Ok x) = give x
or_fault (Err f) = fail_with f

-- the name in its header is the one by which it was found
abbrev pub named_so : List ℕ → Template → Look Template
named_so name z =
    cond (bytes_eq z.name name) (give z) (fail_about code.WrongTemplate z.name_place name)

abbrev pub is_structure : TemplateKind → Bool
is_structure kind.Structure = true
is_structure _ = false

abbrev pub of_kind : Place → List ℕ → Template → Look Template
of_kind p name z = cond (is_structure z.kind) (give z) (fail_about code.WrongKind p name)

-- the template of a name, as its file spells it: the file's first fault is that of the lookup
unfoldable pub template_named : Around → Place → List ℕ → Look Template
template_named a p name = do
  file ← looked_up a p (is_name name) name (codes ".pan")
  z ← on_bytes p name (λ f bs. or_fault (a.reading f bs)) file
  named_so name z

-- the structure template of a name
unfoldable pub structure_named : Around → Place → List ℕ → Look Template
structure_named a p name = template_named a p name >>= of_kind p name

-- what stands at a path of this object or of another
pub data Looked : Type 0 where
  NoObject : List ℕ → Looked
  Nothing : Looked
  There : Plain → Looked

abbrev pub looked_in : Option Plain → Looked
looked_in None = Nothing
looked_in (Some t) = There t

abbrev pub looked_under : Place → List ℕ → Content → Look Looked
looked_under p o Failed = fail_about code.ForeignFailed p o
looked_under p o Circular = fail_about code.Circular p o
looked_under p o NoValue = give Nothing
looked_under p o (Value t) = give (There t)
looked_under p o _ = give (NoObject o)

abbrev pub look_other : Place → List ℕ → List Term → Look Looked
look_other p o ms = do
  content ← ask (Under o ms)
  looked_under p o content

-- the value at a path as it is written: an absolute path, or an external one
abbrev pub look_at : Around → Place → List ℕ → Anchor → List Term → Look Looked
look_at a p t anchor.Absolute ms = give (looked_in (get ms a.root))
look_at a p t (anchor.External o) ms =
    cond (bytes_eq o a.object) (give (looked_in (get ms a.root))) (look_other p o ms)
look_at a p t anchor.Relative ms = fail_about code.BadPath p t

abbrev pub look_by : Around → Place → List ℕ → Result Path PathError → Look Looked
look_by a p t (Ok path) = look_at a p t path.anchor path.terms
look_by a p t (Err e) = fail_about code.BadPath p t

unfoldable pub look : Around → Place → List ℕ → Look Looked
look a p t = look_by a p t (path_of t)
