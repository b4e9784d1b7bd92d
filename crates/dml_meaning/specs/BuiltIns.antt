-- Built-in functions that look at more than values.
use Rattle.std.specs.Prelude.{ℕ, List, [], ◌∷◌, Option, Some, None, is_none, is_some, unwrap_or, Bool, true, false, cond, ◌&&◌, ◌||◌, codes}
use Rattle.std.specs.Str.{is_utf8}
use Rattle.path_tree.specs.Plain.{Plain, list, text, boolean, undef, no_items}
use Rattle.load_path.specs.FileNames.{is_file_name}
use Rattle.path_tree.specs.Grammar.{is_name}
use Rattle.path_tree.specs.Find.{kind_of}
use Rattle.path_tree.specs.declared.kind.Kind.{Kind}
use Rattle.path_tree.specs.declared.kind.Kind.TheVariants as kind
use Rattle.pan_ast.specs.declared.place.Place.{Place}
use Rattle.pan_ast.specs.declared.fault.Code.TheVariants as code
use Rattle.pan_ast.specs.Syntax.{Item, Items, Reference, Refer, none, more, item_place}
use Rattle.dml_meaning.specs.declared.words.Own.{Own}
use Rattle.dml_meaning.specs.declared.words.Own.TheVariants as own
use Rattle.dml_meaning.specs.declared.words.Side.{Side}
use Rattle.dml_meaning.specs.declared.words.Test.{Test}
use Rattle.questions.specs.Run.{◌>>=◌, give, return_with, fail, fail_about, now, become, still}
use Rattle.dml_meaning.specs.Run.{Env, Run}
use Rattle.dml_meaning.specs.Around.{Around, found, without_local}
use Rattle.dml_meaning.specs.Indexes.{deleted}
use Rattle.dml_meaning.specs.Words.{automatic_of}
use Rattle.dml_meaning.specs.Values.{is_nothing, extended, passes_option}
use Rattle.dml_meaning.specs.Lookups.{Looked, NoObject, Nothing, There, Present, look, looked_up, on_bytes}
use Rattle.dml_meaning.specs.Means.{Reached, Means, ToRead, ToDelete, ToChange}
use Rattle.dml_meaning.specs.Names.{is_self, root_of, with_root, change}
use Rattle.dml_meaning.specs.Leaves.{or_refuse, on_text}
use Rattle.dml_meaning.specs.References.{values_from, reference_in}
use Rattle.dml_meaning.specs.Structures.{create_run}

abbrev pub value_found : Place → List ℕ → Looked → Run Plain
value_found p t (There v) = give v
value_found p t Nothing = fail_about code.NoPath p t
value_found p t (NoObject o) = fail_about code.NoObject p o

abbrev pub is_there : Looked → Bool
is_there (There v) = true
is_there _ = false

abbrev pub path_exists_run : Around → Place → List ℕ → Run Plain
path_exists_run a p t = still (look a p t) >>= (λ x. give (boolean (is_there x)))

-- a list, where undef is an empty one
abbrev pub list_by : Place → Plain → Kind → Run Plain
list_by p t kind.List = give t
list_by p t kind.Undef = give (list no_items)
list_by p t _ = fail code.BadArgument p

-- a list that takes a value
abbrev pub as_list : Place → Plain → Plain → Run Plain
as_list p t u = cond (is_nothing u) (fail code.BadArgument p) (list_by p t (kind_of t))

abbrev pub set_self : Plain → Run Plain
set_self t = do
  e ← now
  _ ← become (record e { self = t })
  give t

abbrev pub extend_list : Place → Side → Plain → Plain → Run Plain
extend_list p s t u = as_list p t u >>= (λ l. or_refuse p (extended s l u))

abbrev pub extend_self : Around → Place → Side → Plain → Run Plain
extend_self a p s v =
    cond (is_nothing v) (fail code.BadArgument p) (cond a.fixed (fail code.SelfChange p) (do
      e ← now
      t ← extend_list p s e.self v
      set_self t))

abbrev pub file_text : Place → List ℕ → List ℕ → Run Plain
file_text p f bs = cond (is_utf8 bs) (give (text bs)) (fail code.BadArgument p)

abbrev pub if_there : Plain → Option Present → Run Plain
if_there t x = give (cond (is_some x) t undef)

-- a built-in function of one text, and of what stands around it
unfoldable pub text_run : Around → Place → Own → List ℕ → Run Plain
text_run a p own.Value t = still (look a p t) >>= value_found p t
text_run a p own.PathExists t = path_exists_run a p t
text_run a p own.IfExists t =
    still (looked_up a p (is_name t) t (codes ".pan")) >>= if_there (text t)
text_run a p own.FileContents t =
    still (looked_up a p (is_file_name t) t []) >>= on_bytes p t (file_text p)
text_run a p own.FileExists t =
    still (looked_up a p (is_file_name t) t []) >>= (λ x. give (boolean (is_some x)))
text_run a p own.Error t = fail_about code.UserError p t
text_run a p _ t = fail code.BadArgument p

-- a built-in function of the values of its arguments, and of what stands around it
unfoldable pub own_run : Around → Place → Own → List Plain → Run Plain
own_run a p (own.Extend s) (v ∷ []) = extend_self a p s v
own_run a p own.Return (v ∷ []) = return_with v
own_run a p own.Ignore vs = give undef
own_run a p b (v ∷ []) = on_text p (text_run a p b) v
own_run a p b vs = fail code.BadArgument p

-- an argument that is a reference, or another one: what it leads to, or its value
abbrev pub value_or_nothing : Means → Around → Item → Option Reference → Run (Option Plain)
value_or_nothing go a i (Some r) = go.reaches a ToRead (item_place i) r >>= (λ x. give x.value)
value_or_nothing go a i None = go.opens a i >>= (λ t. give (Some t))

abbrev pub test_run : Means → Around → Test → Item → Run Plain
test_run go a q i =
    value_or_nothing go a i (reference_in i) >>= (λ t. give (boolean (passes_option q t)))

abbrev pub exists_by : Means → Around → Place → Item → Option Reference → Run Plain
exists_by go a p i (Some r) =
    go.reaches a ToRead (item_place i) r >>= (λ x. give (boolean (is_some x.value)))
exists_by go a p i None = go.opens a i >>= on_text p (path_exists_run a p)

-- without what is at the indexes of a name's value; of a name that has none nothing goes
abbrev pub without_keys : List ℕ → List Plain → Option Plain → Env → Env
without_keys x ks None e = e
without_keys x ks (Some t) e = with_root x (deleted ks t) e

-- without what was reached
abbrev pub without_root : List ℕ → List Plain → Env → Env
without_root x [] e = record e { locals = without_local x e.locals }
without_root x (k ∷ ks) e = without_keys x (k ∷ ks) (root_of e x) e

abbrev pub delete_reached : List ℕ → Reached → Run Plain
delete_reached x r = do
  e ← now
  _ ← become (cond (is_some r.value) (without_root x r.keys e) e)
  give undef

abbrev pub delete_by : Means → Around → Place → Item → Option Reference → Run Plain
delete_by go a p i (Some (Refer q x is)) =
    go.reaches a (ToDelete p) (item_place i) (Refer q x is) >>= delete_reached x
delete_by go a p i None = go.opens a i >>= (λ _. fail code.BadArgument p)

-- a reference to a local, to SELF or to no name is changed; of anything else a copy is
abbrev pub is_changed : Around → List ℕ → Env → Bool
is_changed a x e =
    is_some (root_of e x) || (is_none (automatic_of x) && is_none (found a.globals x))

abbrev pub copy_extended : Means → Around → Place → Side → Item → Item → Run Plain
copy_extended go a p s l v = do
  t ← go.opens a l
  u ← go.opens a v
  extend_list p s t u

-- SELF may be changed here, or the name is another one
abbrev pub may_extend : Around → Place → List ℕ → Run (Unit {0})
may_extend a p x = cond (is_self (automatic_of x) && a.fixed) (fail code.SelfChange p) (give tt)

abbrev pub extend_reached : Around → Place → Side → List ℕ → Reached → Plain → Run Plain
extend_reached a p s x r u = do
  l ← as_list p (unwrap_or r.value undef) u
  _ ← may_extend a p x
  t ← or_refuse p (extended s l u)
  _ ← change p x r.keys t
  give t

-- q: the place of the reference as an item
abbrev pub reference_extended : Means → Around → Place → Side → Place → Reference → Item → Run Plain
reference_extended go a p s q (Refer o x is) v = do
  r ← go.reaches a ToChange q (Refer o x is)
  u ← go.opens a v
  extend_reached a p s x r u

abbrev pub extend_by : Means → Around → Place → Side → Item → Item → Option Reference → Run Plain
extend_by go a p s l v None = copy_extended go a p s l v
extend_by go a p s l v (Some (Refer q x is)) = now >>= (λ e. cond (is_changed a x e)
    (reference_extended go a p s (item_place l) (Refer q x is) v) (copy_extended go a p s l v))

-- a built-in function of the values of its arguments
abbrev pub own_values_run : Means → Around → Place → Own → Items → Run Plain
own_values_run go a p b args = values_from go a args [] >>= own_run a p b

-- a built-in function that looks at more than values: those that take references look at how an
-- argument is written
unfoldable pub own_call_run : Means → Around → Place → Own → Items → Run Plain
own_call_run go a p (own.Is q) (more i none) = test_run go a q i
own_call_run go a p own.Exists (more i none) = exists_by go a p i (reference_in i)
own_call_run go a p own.Delete (more i none) = delete_by go a p i (reference_in i)
own_call_run go a p (own.Extend s) (more l (more v none)) = extend_by go a p s l v (reference_in l)
own_call_run go a p own.Create args = values_from go a args [] >>= create_run go a p
own_call_run go a p b args = own_values_run go a p b args
