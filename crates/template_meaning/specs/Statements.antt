-- What the statements of a template mean, but for those of structure templates, which are run by
-- `create` alone. A statement costs a step when it begins.
use Rattle.std.specs.Prelude.{ℕ, zero, suc, ◌-◌, Bool, true, false, not, ◌&&◌, ◌||◌, List, [], ◌∷◌, ◌++◌, Option, Some, None, is_some, unwrap_or, Result, Ok, Err, cond, nat_le, codes, bytes_eq}
use Rattle.std.specs.List.{list_any, list_all}
use Rattle.path_tree.specs.Plain.{Plain, list, undef}
use Rattle.path_tree.specs.Find.{get, kind_of, text_of, child_count}
use Rattle.path_tree.specs.Lists.{items_in}
use Rattle.path_tree.specs.Grammar.{is_name}
use Rattle.path_tree.specs.Paths.{path_of, path_text}
use Rattle.path_tree.specs.declared.path.Term.{Term}
use Rattle.path_tree.specs.declared.path.Path.{Path}
use Rattle.path_tree.specs.declared.path.Anchor.{Anchor}
use Rattle.path_tree.specs.declared.path.Anchor.TheVariants as anchor
use Rattle.path_tree.specs.declared.path.PathError.{PathError}
use Rattle.path_tree.specs.declared.path.PutError.TheVariants as put_error
use Rattle.pan_ast.specs.declared.place.Place.{Place}
use Rattle.pan_ast.specs.declared.fault.Code.{Code}
use Rattle.pan_ast.specs.declared.fault.Code.TheVariants as code
use Rattle.pan_ast.specs.declared.template.TemplateKind.{TemplateKind}
use Rattle.pan_ast.specs.declared.template.TemplateKind.TheVariants as kind
use Rattle.pan_ast.specs.Syntax.{Item, item_place}
use Rattle.pan_ast.specs.Templates.{Template, Statement, StatementForm, Assign, Variable, Function, Define, Bind, Valid, Include, Prefix}
use Rattle.pan_ast.specs.Types.{FullType}
use Rattle.questions.specs.Run as questions
use Rattle.questions.specs.Run.{◌>>=◌, give, fail, fail_about, step, now, become, still}
use Rattle.dml_meaning.specs.declared.limits.TheConstants.{MAX_OPEN_ITEMS}
use Rattle.dml_meaning.specs.declared.words.Test.TheVariants as test
use Rattle.dml_meaning.specs.Around.{found, is_function}
use Rattle.dml_meaning.specs.Words.{automatic_of}
use Rattle.dml_meaning.specs.Values.{is_nothing, is_list, passes}
use Rattle.dml_meaning.specs.Structures.{dml_run}
use Rattle.dml_meaning.specs.Meaning.{eval}
use Rattle.dml_meaning.specs.Lookups.{template_named}
use Rattle.assign_rules.specs.Profiles.{ProfileValue, may_assign, is_value, is_set, assigned}
use Rattle.assign_rules.specs.Globals.{GlobalsValue, is_final, with_global}
use Rattle.assign_rules.specs.declared.profile.AssignError.{AssignError}
use Rattle.assign_rules.specs.declared.profile.AssignError.TheVariants as assign_error
use Rattle.assign_rules.specs.declared.globals.SetError.{SetError}
use Rattle.assign_rules.specs.declared.globals.SetError.TheVariants as set_error
use Rattle.type_defs.specs.declared.type_error.TypeError.{TypeError}
use Rattle.type_defs.specs.declared.type_error.TypeError.TheVariants as type_error
use Rattle.type_defs.specs.Resolved.{Resolved}
use Rattle.type_defs.specs.Resolving.{type_of}
use Rattle.type_defs.specs.Names.{is_taken, with_type}
use Rattle.type_defs.specs.Bindings.{added}
use Rattle.template_meaning.specs.declared.limits.TheConstants.{MAX_LOAD_PATHS}
use Rattle.template_meaning.specs.Program.{Site, Program, Inside, around_in}
use Rattle.template_meaning.specs.WrittenDefaults.{defaults_in}

abbrev pub Run : Type 0 → Type 0
Run X = questions.Run Program X

-- the path before relative ones, where a prefix holds
abbrev pub Prefixed : Type 0
Prefixed = Option (List Term)

-- DML, with this SELF, which it may change or not
unfoldable pub dml_in : Site → Inside → Bool → Plain → Item → Run Plain
dml_in site n fixed t i =
    now >>= (λ s. still (dml_run (eval MAX_OPEN_ITEMS) (around_in site n s) fixed t i))

abbrev pub or_fail_about : {X : Type 0} → Code → Place → List ℕ → Option X → Run X
or_fail_about c p d (Some x) = give x
or_fail_about c p d None = fail_about c p d

-- Paths.

-- an absolute path is its terms; a relative one stands behind the prefix
abbrev pub behind : Prefixed → Anchor → List Term → Option (List Term)
behind q anchor.Absolute ms = Some ms
behind (Some q) anchor.Relative ms = Some (q ++ ms)
behind q _ ms = None

abbrev pub terms_of : Prefixed → Result Path PathError → Option (List Term)
terms_of q (Ok path) = behind q path.anchor path.terms
terms_of q (Err e) = None

-- the terms of the path of a statement
abbrev pub path_terms : Prefixed → Place → List ℕ → Run (List Term)
path_terms q p d = or_fail_about code.BadPath p d (terms_of q (path_of d))

-- an absolute path in plain form
abbrev pub absolute : List Term → List ℕ
absolute ms = path_text (record { anchor = anchor.Absolute; terms = ms })

-- Assignments.

-- a refused change, by its fault
abbrev pub or_unchanged : Place → List ℕ → Result ProfileValue AssignError → Run ProfileValue
or_unchanged p d (Ok profile) = give profile
or_unchanged p d (Err (assign_error.Put put_error.TooLarge)) = fail code.TooLarge p
or_unchanged p d (Err (assign_error.Put put_error.TooHigh)) = fail code.TooLarge p
or_unchanged p d (Err _) = fail_about code.BadPath p d

-- the change of the tree
unfoldable pub put_run : Place → List ℕ → Bool → List Term → Plain → Run (Unit {0})
put_run p d last ms v = do
  s ← now
  profile ← or_unchanged p d (assigned p ms last v s.profile)
  become (record s { profile = profile })

-- the value that is there
abbrev pub present : List Term → Program → Plain
present ms s = unwrap_or (get ms s.profile.tree) undef

-- an assignment to terms: not to final ones; where it is conditional and a value is there, it does
-- nothing; else the DML, with the value that is there as SELF, and then the change
unfoldable pub assign_terms : Site → Inside → Place → Bool → List ℕ → Bool → Item → List Term
    → Run (Unit {0})
assign_terms site n p last d conditional i ms = now >>= (λ s.
    cond (not (may_assign s.profile.finals ms)) (fail_about code.Final p (absolute ms))
    (cond (conditional && is_set s.profile.tree ms) (give tt)
    (dml_in site n false (present ms s) i >>= put_run p d last ms)))

-- first the path
unfoldable pub assign_run : Site → Inside → Prefixed → Place → Bool → List ℕ → Bool → Item
    → Run (Unit {0})
assign_run site n q p last d conditional i =
    path_terms q p d >>= assign_terms site n p last d conditional i

-- Variables.

-- a prefix of LOADPATH: the empty text or a template name
abbrev pub is_prefix_text : Option (List ℕ) → Bool
is_prefix_text None = false
is_prefix_text (Some []) = true
is_prefix_text (Some t) = is_name t

abbrev pub is_prefix : Plain → Bool
is_prefix v = is_prefix_text (text_of v)

abbrev pub list_items : Plain → List Plain
list_items (list ts) = items_in ts
list_items _ = []

abbrev pub are_prefixes : Plain → Bool
are_prefixes v =
    is_list v && nat_le (child_count v) MAX_LOAD_PATHS && list_all is_prefix (list_items v)

-- what LOADPATH may be: undef, absent, or a list of at most 100 prefixes
abbrev pub is_load_path : Plain → Bool
is_load_path v = not (passes test.Defined (kind_of v)) || are_prefixes v

-- what a variable may be
abbrev pub is_value_for : List ℕ → Plain → Bool
is_value_for x v = not (bytes_eq x (codes "LOADPATH")) || is_load_path v

abbrev pub fits : List ℕ → Plain → Place → Run (Unit {0})
fits x v p = cond (is_value_for x v) (give tt) (fail code.BadArgument p)

abbrev pub or_unset : Place → List ℕ → Result GlobalsValue SetError → Run GlobalsValue
or_unset p x (Ok g) = give g
or_unset p x (Err set_error.Automatic) = fail_about code.GlobalChange p x
or_unset p x (Err _) = fail_about code.Final p x

-- the change of a variable
unfoldable pub set_run : Place → Bool → List ℕ → Plain → Run (Unit {0})
set_run p last x v = do
  _ ← fits x v p
  s ← now
  globals ← or_unset p x (with_global x last v s.globals)
  become (record s { globals = globals })

-- the value that a variable has
abbrev pub present_global : List ℕ → Program → Plain
present_global x s = unwrap_or (found s.globals.variables x) undef

-- a variable that may be set: where the statement is conditional and a value is there, nothing;
-- else
-- the DML, with the present value as SELF, and then the change
unfoldable pub variable_value : Site → Inside → Place → Bool → List ℕ → Bool → Item → Run (Unit {0})
variable_value site n p last x conditional i = now >>= (λ s.
    cond (conditional && is_value (found s.globals.variables x)) (give tt)
    (dml_in site n false (present_global x s) i >>= set_run p last x))

-- first whether the name is automatic, then whether the variable is final
unfoldable pub variable_run : Site → Inside → Place → Bool → List ℕ → Bool → Item → Run (Unit {0})
variable_run site n p last x conditional i = now >>= (λ s.
    cond (is_some (automatic_of x)) (fail_about code.GlobalChange p x)
    (cond (is_final s.globals x) (fail_about code.Final p x)
    (variable_value site n p last x conditional i)))

-- Functions and types.

unfoldable pub function_run : Site → Place → List ℕ → Item → Run (Unit {0})
function_run site p f body = now >>= (λ s.
    cond (is_function site.calls s.functions f) (fail_about code.Redefined p f)
    (become (record s { functions = s.functions ++ record { name = f; body = body } ∷ [] })))

abbrev pub no_null : Place → Plain → Run (Unit {0})
no_null p v = cond (is_nothing v) (fail code.BadArgument p) (give tt)

-- the value of a default, with an undef SELF that is fixed; it is not null
unfoldable pub default_run : Site → Inside → Item → Run Plain
default_run site n i = do
  v ← dml_in site n true undef i
  _ ← no_null (item_place i) v
  give v

-- the values of defaults, after those that are done
unfoldable pub defaults_run : Site → Inside → List Item → List Plain → Run (List Plain)
defaults_run site n [] done = give done
defaults_run site n (i ∷ is) done = do
  v ← default_run site n i
  defaults_run site n is (done ++ v ∷ [])

-- the first fault of a type of a statement at this place
abbrev pub or_no_type : Place → Result Resolved TypeError → Run Resolved
or_no_type q (Ok t) = give t
or_no_type q (Err (type_error.NoType p name)) = fail_about code.NoType p name
or_no_type q (Err (type_error.Redefined p key)) = fail_about code.Redefined p key
or_no_type q (Err (type_error.BadRange p)) = fail code.BadRange p
or_no_type q (Err (type_error.TooDeep p)) = fail code.TooDeep p
or_no_type q (Err type_error.Memory) = fail code.TooLarge q

-- a type: its defaults, and then its names
unfoldable pub type_run : Site → Inside → Place → FullType → Run Resolved
type_run site n p full = do
  ds ← defaults_run site n (defaults_in full) []
  s ← now
  or_no_type p (type_of s.types n.template p full ds)

-- a name stands for a type from now on
abbrev pub name_type : List ℕ → Resolved → Run (Unit {0})
name_type x t = now >>= (λ s. become (record s { types = with_type x t s.types }))

unfoldable pub define_run : Site → Inside → Place → List ℕ → FullType → Run (Unit {0})
define_run site n p x full = now >>= (λ s.
    cond (is_taken s.types x) (fail_about code.Redefined p x)
    (type_run site n p full >>= name_type x))

abbrev pub bind_type : Place → List Term → Resolved → Run (Unit {0})
bind_type p ms t = now >>= (λ s. become (record s {
  bindings =
      added (record { terms = ms; resolved = t; place = p }) s.bindings;
}))

-- a type is bound to a path, in path order behind those of the same path
unfoldable pub bind_run : Site → Inside → Prefixed → Place → List ℕ → FullType → Run (Unit {0})
bind_run site n q p d full = do
  ms ← path_terms q p d
  t ← type_run site n p full
  bind_type p ms t

abbrev pub want_valid : Inside → Place → Item → List Term → Run (Unit {0})
want_valid n p i ms = now >>= (λ s. become (record s {
  valids =
      s.valids ++ record { terms = ms; body = i; template = n.template; place = p } ∷ [];
}))

-- what is to hold at a path, in the order of execution
unfoldable pub valid_run : Inside → Prefixed → Place → List ℕ → Item → Run (Unit {0})
valid_run n q p d i = path_terms q p d >>= want_valid n p i

-- Prefixes.

abbrev pub absolute_prefix : Anchor → List Term → Option Prefixed
absolute_prefix anchor.Absolute ms = Some (Some ms)
absolute_prefix _ ms = None

-- the empty text takes the prefix away
abbrev pub prefix_of : List ℕ → Result Path PathError → Option Prefixed
prefix_of [] path = Some None
prefix_of d (Err e) = None
prefix_of d (Ok path) = absolute_prefix path.anchor path.terms

abbrev pub prefix_run : Place → List ℕ → Run Prefixed
prefix_run p d = or_fail_about code.BadPath p d (prefix_of d (path_of d))

-- Includes.

-- how a template is included, by its name, from the statement at a place
abbrev pub Includes : Type 0
Includes = Inside → Place → List ℕ → Run (Unit {0})

-- undef and null include nothing
abbrev pub include_by : Includes → Inside → Place → Plain → Option (List ℕ) → Run (Unit {0})
include_by including n p v (Some name) = including n p name
include_by including n p v None =
    cond (passes test.Defined (kind_of v)) (fail code.BadArgument p) (give tt)

abbrev pub include_value : Includes → Inside → Place → Plain → Run (Unit {0})
include_value including n p v = include_by including n p v (text_of v)

-- the DML, with an undef SELF that is fixed, gives the name
unfoldable pub include_run : Includes → Site → Inside → Place → Item → Run (Unit {0})
include_run including site n p i = dml_in site n true undef i >>= include_value including n p

-- Statements.

-- a declaration template sets no path and no prefix
abbrev pub may_stand : TemplateKind → StatementForm → Bool
may_stand kind.Declaration (Assign last d conditional i) = false
may_stand kind.Declaration (Prefix d) = false
may_stand k form = true

abbrev pub and_keep : Prefixed → Run (Unit {0}) → Run Prefixed
and_keep q r = r >>= (λ _. give q)

-- a statement behind the prefix q, and the prefix that holds after it
unfoldable pub form_run : Includes → Site → Inside → Prefixed → Place → StatementForm → Run Prefixed
form_run including site n q p (Assign last d conditional i) =
    and_keep q (assign_run site n q p last d conditional i)
form_run including site n q p (Variable last x conditional i) =
    and_keep q (variable_run site n p last x conditional i)
form_run including site n q p (Function f body) = and_keep q (function_run site p f body)
form_run including site n q p (Define x full) = and_keep q (define_run site n p x full)
form_run including site n q p (Bind d full) = and_keep q (bind_run site n q p d full)
form_run including site n q p (Valid d i) = and_keep q (valid_run n q p d i)
form_run including site n q p (Include i) = and_keep q (include_run including site n p i)
form_run including site n q p (Prefix d) = prefix_run p d

unfoldable pub statement_run : Includes → Site → Inside → Prefixed → Statement → Run Prefixed
statement_run including site n q s = do
  _ ← step s.place
  cond (may_stand n.kind s.form) (form_run including site n q s.place s.form)
      (fail code.WrongStatement s.place)

-- the statements of a template, from a prefix on
unfoldable pub statements_run : Includes → Site → Inside → Prefixed → List Statement
    → Run (Unit {0})
statements_run including site n q [] = give tt
statements_run including site n q (s ∷ ss) =
    statement_run including site n q s >>= (λ r. statements_run including site n r ss)

-- a declaration template includes declaration templates alone; object and structure templates are
-- included by none
abbrev pub may_include : TemplateKind → TemplateKind → Bool
may_include k kind.Object = false
may_include k kind.Structure = false
may_include k kind.Declaration = true
may_include kind.Declaration other = false
may_include k other = true

abbrev pub runs_once : TemplateKind → Bool
runs_once kind.Unique = true
runs_once kind.Declaration = true
runs_once k = false

-- whether a template runs now: a unique or declaration template does so once, and counts as run
-- from
-- its beginning on
unfoldable pub starts : TemplateKind → List ℕ → Run Bool
starts k name = cond (runs_once k) (now >>= (λ s.
    cond (list_any (bytes_eq name) s.ran) (give false)
    (become (record s { ran = s.ran ++ name ∷ [] }) >>= (λ _. give true)))) (give true)

abbrev pub where_it_starts : Run (Unit {0}) → Bool → Run (Unit {0})
where_it_starts body b = cond b body (give tt)

-- inside a template that is included
abbrev pub inside : Inside → Template → Inside
inside n z = record { kind = z.kind; template = z.name; includes_left = n.includes_left - 1 }

-- the template of a name, looked for from here
abbrev pub named_in : Site → Inside → Place → List ℕ → Run Template
named_in site n p name = now >>= (λ s. still (template_named (around_in site n s) p name))

-- the statements of a template that is included under a name, where its kind fits
unfoldable pub template_run : Includes → Site → Inside → Place → List ℕ → Template → Run (Unit {0})
template_run including site n p name z = cond (may_include n.kind z.kind)
    (starts z.kind z.name
    >>= where_it_starts (statements_run including site (inside n z) None z.statements))
    (fail_about code.WrongKind p name)

-- a template that is included, where so many includes may still be opened
unfoldable pub included : ℕ → Site → Includes
included zero site n p name = fail code.IncludeDepth p
included (suc more) site n p name =
    named_in site n p name >>= template_run (included more site) site n p name
