-- Names: their values, which may be changed, and the change.
use Rattle.std.specs.Prelude.{ℕ, pos, List, Option, Some, None, is_some, unwrap_or, option_and_then, Bool, true, false, not, cond, ◌&&◌, ◌||◌, Result, Ok, Err}
use Rattle.path_tree.specs.Plain.{Plain, text, long, undef}
use Rattle.path_tree.specs.Find.{child_count}
use Rattle.pan_ast.specs.declared.place.Place.{Place}
use Rattle.pan_ast.specs.declared.fault.Code.{Code}
use Rattle.pan_ast.specs.declared.fault.Code.TheVariants as code
use Rattle.pan_ast.specs.Syntax.{Items, none, more}
use Rattle.dml_meaning.specs.declared.words.Automatic.{Automatic}
use Rattle.dml_meaning.specs.declared.words.Automatic.TheVariants as automatic
use Rattle.questions.specs.Run.{◌>>=◌, give, fail, fail_about, now, become}
use Rattle.dml_meaning.specs.Run.{Env, Run}
use Rattle.dml_meaning.specs.Around.{Around, Called, found, with_local}
use Rattle.dml_meaning.specs.Indexes.{changed}
use Rattle.dml_meaning.specs.Words.{automatic_of}

-- the value of an automatic name, which a function's names have in functions alone
abbrev pub in_function : Option Called → Automatic → Option Plain
in_function (Some c) automatic.Arguments = Some c.arguments
in_function (Some c) automatic.Count = Some (long (pos (child_count c.arguments)))
in_function (Some c) automatic.Function = Some (text c.name)
in_function _ _ = None

abbrev pub automatic_value : Around → Plain → Automatic → Option Plain
automatic_value a s automatic.OwnValue = Some s
automatic_value a s automatic.Object = Some (text a.object)
automatic_value a s automatic.Template = Some (text a.template)
automatic_value a s x = in_function a.called x

abbrev pub or_else : Option Plain → Option Plain → Option Plain
or_else (Some t) o = Some t
or_else None o = o

-- a name is a local, else an automatic name, else a global
abbrev pub value_of : Around → List ℕ → Env → Option Plain
value_of a x e = or_else (found e.locals x) (or_else
    (option_and_then (automatic_value a e.self) (automatic_of x)) (found a.globals x))

abbrev pub or_fail_about : {X : Type 0} → Code → Place → List ℕ → Option X → Run X
or_fail_about c p d (Some x) = give x
or_fail_about c p d None = fail_about c p d

abbrev pub read : Around → Place → List ℕ → Run Plain
read a p x = now >>= (λ e. or_fail_about code.NoVariable p x (value_of a x e))

-- which names may be changed: locals, and names that are none; SELF at an index, where it is not
-- fixed
abbrev pub may_change_by : Around → Place → List ℕ → Bool → Bool → Option Automatic → Run (Unit {0})
may_change_by a p x whole local (Some automatic.OwnValue) =
    cond (a.fixed || whole) (fail code.SelfChange p) (give tt)
may_change_by a p x whole local (Some n) = fail_about code.GlobalChange p x
may_change_by a p x whole local None =
    cond (is_some (found a.globals x) && not local) (fail_about code.GlobalChange p x) (give tt)

abbrev pub no_indexes : Items → Bool
no_indexes none = true
no_indexes (more i is) = false

-- whole: there is no index
abbrev pub may_change : Around → Place → List ℕ → Bool → Run (Unit {0})
may_change a p x whole =
    now >>= (λ e. may_change_by a p x whole (is_some (found e.locals x)) (automatic_of x))

abbrev pub is_self : Option Automatic → Bool
is_self (Some automatic.OwnValue) = true
is_self _ = false

-- the value that an assignment to a name changes
abbrev pub root_of : Env → List ℕ → Option Plain
root_of e x = cond (is_self (automatic_of x)) (Some e.self) (found e.locals x)

abbrev pub with_root : List ℕ → Plain → Env → Env
with_root x t e = cond (is_self (automatic_of x)) (record e { self = t })
    (record e { locals = with_local x t e.locals })

abbrev pub set_root : Place → List ℕ → Result Plain Code → Run (Unit {0})
set_root p x (Ok t) = now >>= (λ e. become (with_root x t e))
set_root p x (Err c) = fail c p

-- a name's value with v at the indexes
abbrev pub change : Place → List ℕ → List Plain → Plain → Run (Unit {0})
change p x ks v = now >>= (λ e. set_root p x (changed ks v (unwrap_or (root_of e x) undef)))
