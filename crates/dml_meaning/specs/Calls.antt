-- Calls: of functions of a template, and of built-in functions.
use Rattle.std.specs.Prelude.{ℕ, List, [], Option, Some, None, cond, nat_eq}
use Rattle.path_tree.specs.Plain.{Plain}
use Rattle.pan_ast.specs.declared.place.Place.{Place}
use Rattle.pan_ast.specs.declared.fault.Code.TheVariants as code
use Rattle.pan_ast.specs.Syntax.{Item, Items}
use Rattle.dml_meaning.specs.declared.words.Own.{Own}
use Rattle.questions.specs.Run.{◌>>=◌, fail, fail_about, step, scoped}
use Rattle.dml_meaning.specs.Run.{Env, Run}
use Rattle.dml_meaning.specs.Around.{Around, ValueCall, in_call, found_function}
use Rattle.dml_meaning.specs.Words.{own_of}
use Rattle.path_tree.specs.Lists.{list_of}
use Rattle.dml_meaning.specs.Values.{has_null}
use Rattle.dml_meaning.specs.Means.{Means}
use Rattle.dml_meaning.specs.Leaves.{or_refuse}
use Rattle.dml_meaning.specs.References.{values_from}
use Rattle.dml_meaning.specs.BuiltIns.{own_call_run}

-- a function has locals of its own, and changes SELF
abbrev pub no_locals : Env → Env
no_locals e = record e { locals = [] }

-- the caller's locals come back, with SELF as it then is
abbrev pub back : Env → Env → Env
back e l = record l { locals = e.locals }

unfoldable pub body_run : Means → Around → Item → Run Plain
body_run go a b = scoped no_locals back (go.opens a b)

-- the tests of a call of a function with these values, and the list that they make
abbrev pub open_call : Around → Place → List Plain → Run Plain
open_call a p ts = cond (has_null ts) (fail code.BadArgument p)
    (cond (nat_eq a.calls_left 0) (fail code.CallDepth p) (or_refuse p (list_of ts)))

unfoldable pub function_run : Means → Around → Place → List ℕ → Items → Option Item → Run Plain
function_run go a p f args None = fail_about code.NoFunction p f
function_run go a p f args (Some b) = do
  ts ← values_from go a args []
  t ← open_call a p ts
  body_run go (in_call a f t) b

-- a built-in function of values
abbrev pub values_run : Means → Around → Place → ValueCall → Items → Run Plain
values_run go a p call args = values_from go a args [] >>= (λ ts. or_refuse p (call ts))

-- a call, by what its name names
unfoldable pub call_by : Means → Around → Place → List ℕ → Items → Option Own → Option ValueCall
    → Run Plain
call_by go a p f args (Some b) v = own_call_run go a p b args
call_by go a p f args None (Some call) = values_run go a p call args
call_by go a p f args None None = function_run go a p f args (found_function a.functions f)

abbrev pub call_run : Means → Around → Place → List ℕ → Items → Run Plain
call_run go a p f args = do
  _ ← step p
  call_by go a p f args (own_of f) (a.calls f)
