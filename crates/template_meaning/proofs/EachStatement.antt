-- Each statement is a lawful run.
use Rattle.std.proofs.Common.{◌≡◌, ℕ, zero, suc, List, [], ◌∷◌, Option, Some, None, Bool, false, Result, Ok, Err}
use Rattle.path_tree.specs.Plain.{Plain}
use Rattle.path_tree.specs.declared.path.Term.{Term}
use Rattle.path_tree.specs.declared.path.PutError.TheVariants as put_error
use Rattle.pan_ast.specs.declared.place.Place.{Place}
use Rattle.pan_ast.specs.declared.fault.Code.{Code}
use Rattle.pan_ast.specs.declared.template.TemplateKind.{TemplateKind}
use Rattle.pan_ast.specs.Syntax.{Item}
use Rattle.pan_ast.specs.Templates.{Template, Statement, StatementForm, Assign, Variable, Function, Define, Bind, Valid, Include, Prefix}
use Rattle.pan_ast.specs.Types.{FullType}
use Rattle.questions.specs.declared.key.Key.{Key}
use Rattle.questions.specs.Laws.{is_circular}
use Rattle.questions.proofs.Lawful.{Lawful, lawful_still}
use Rattle.dml_meaning.specs.declared.limits.TheConstants.{MAX_OPEN_ITEMS}
use Rattle.dml_meaning.proofs.Leaves.{FitsFor, pieces, template_lawful}
use Rattle.dml_meaning.proofs.Create.{dml_lawful}
use Rattle.dml_meaning.proofs.Items.{eval_lawful}
use Rattle.assign_rules.specs.Profiles.{ProfileValue}
use Rattle.assign_rules.specs.Globals.{GlobalsValue}
use Rattle.assign_rules.specs.declared.profile.AssignError.{AssignError}
use Rattle.assign_rules.specs.declared.profile.AssignError.TheVariants as assign_error
use Rattle.assign_rules.specs.declared.globals.SetError.{SetError}
use Rattle.assign_rules.specs.declared.globals.SetError.TheVariants as set_error
use Rattle.type_defs.specs.declared.type_error.TypeError.{TypeError}
use Rattle.type_defs.specs.declared.type_error.TypeError.TheVariants as type_error
use Rattle.type_defs.specs.Resolved.{Resolved}
use Rattle.template_meaning.specs.Program.{Site, Inside}
use Rattle.template_meaning.specs.Statements.{Run, Prefixed, dml_in, or_fail_about, path_terms, or_unchanged, put_run, assign_terms, assign_run, or_unset, set_run, variable_value, variable_run, function_run, no_null, default_run, defaults_run, or_no_type, type_run, define_run, bind_run, valid_run, prefix_run, Includes, include_by, include_run, form_run, statement_run, statements_run, starts, where_it_starts, named_in, template_run, included}

-- what is told of other objects and of files suits the object
abbrev pub Suits : (Key → Type 0) → Site → Type 0
Suits may site = FitsFor may site.object site.reading

pub dml_in_lawful : (may : Key → Type 0) (site : Site) → Suits may site
    → (n : Inside) (fixed : Bool) (t : Plain) (i : Item) → Lawful may 0 (dml_in site n fixed t i)
unfolding dml_in
dml_in_lawful may site w n fixed t i =
    let go = eval_lawful may MAX_OPEN_ITEMS in
    search (pieces, lawful_still, dml_lawful)

about_lawful : {X : Type 0} → (may : Key → Type 0) (c : Code) (p : Place) (d : List ℕ)
    (o : Option X) → is_circular c ≡ false → Lawful may 0 (or_fail_about c p d o)
about_lawful may c p d (Some x) e = search pieces
about_lawful may c p d None e = search pieces

terms_lawful : (may : Key → Type 0) (q : Prefixed) (p : Place) (d : List ℕ)
    → Lawful may 0 (path_terms q p d)
terms_lawful may q p d = search (pieces, about_lawful)

unchanged_lawful : (may : Key → Type 0) (p : Place) (d : List ℕ)
    (r : Result ProfileValue AssignError) → Lawful may 0 (or_unchanged p d r)
unchanged_lawful may p d (Ok x) = search pieces
unchanged_lawful may p d (Err (assign_error.Put put_error.TooLarge)) = search pieces
unchanged_lawful may p d (Err (assign_error.Put put_error.TooHigh)) = search pieces
unchanged_lawful may p d (Err _) = search pieces

pub put_lawful : (may : Key → Type 0) (p : Place) (d : List ℕ) (last : Bool) (ms : List Term)
    (v : Plain) → Lawful may 0 (put_run p d last ms v)
unfolding put_run
put_lawful may p d last ms v = search (pieces, unchanged_lawful)

pub assign_terms_lawful : (may : Key → Type 0) (site : Site) → Suits may site
    → (n : Inside) (p : Place) (last : Bool) (d : List ℕ) (conditional : Bool) (i : Item)
    (ms : List Term) → Lawful may 0 (assign_terms site n p last d conditional i ms)
unfolding assign_terms
assign_terms_lawful may site w n p last d conditional i ms =
    search (pieces, dml_in_lawful, put_lawful) depth 10

pub assign_lawful : (may : Key → Type 0) (site : Site) → Suits may site
    → (n : Inside) (q : Prefixed) (p : Place) (last : Bool) (d : List ℕ) (conditional : Bool)
    (i : Item) → Lawful may 0 (assign_run site n q p last d conditional i)
unfolding assign_run
assign_lawful may site w n q p last d conditional i =
    search (pieces, terms_lawful, assign_terms_lawful)

unset_lawful : (may : Key → Type 0) (p : Place) (x : List ℕ) (r : Result GlobalsValue SetError)
    → Lawful may 0 (or_unset p x r)
unset_lawful may p x (Ok g) = search pieces
unset_lawful may p x (Err set_error.Automatic) = search pieces
unset_lawful may p x (Err _) = search pieces

pub set_lawful : (may : Key → Type 0) (p : Place) (last : Bool) (x : List ℕ) (v : Plain)
    → Lawful may 0 (set_run p last x v)
unfolding set_run
set_lawful may p last x v = search (pieces, unset_lawful)

pub global_lawful : (may : Key → Type 0) (site : Site) → Suits may site
    → (n : Inside) (p : Place) (last : Bool) (x : List ℕ) (conditional : Bool) (i : Item)
    → Lawful may 0 (variable_value site n p last x conditional i)
unfolding variable_value
global_lawful may site w n p last x conditional i = search (pieces, dml_in_lawful, set_lawful)

pub variable_lawful : (may : Key → Type 0) (site : Site) → Suits may site
    → (n : Inside) (p : Place) (last : Bool) (x : List ℕ) (conditional : Bool) (i : Item)
    → Lawful may 0 (variable_run site n p last x conditional i)
unfolding variable_run
variable_lawful may site w n p last x conditional i = search (pieces, global_lawful)

pub function_lawful : (may : Key → Type 0) (site : Site) (p : Place) (f : List ℕ) (body : Item)
    → Lawful may 0 (function_run site p f body)
unfolding function_run
function_lawful may site p f body = search pieces

null_lawful : (may : Key → Type 0) (p : Place) (v : Plain) → Lawful may 0 (no_null p v)
null_lawful may p v = search pieces

pub default_lawful : (may : Key → Type 0) (site : Site) → Suits may site → (n : Inside) (i : Item)
    → Lawful may 0 (default_run site n i)
unfolding default_run
default_lawful may site w n i = search (pieces, dml_in_lawful, null_lawful)

pub defaults_lawful : (may : Key → Type 0) (site : Site) → Suits may site
    → (n : Inside) (is : List Item) (done : List Plain) → Lawful may 0 (defaults_run site n is done)
unfolding defaults_run
defaults_lawful may site w n [] done = search pieces
defaults_lawful may site w n (i ∷ is) done =
    let next = defaults_lawful may site w n is in
    search (pieces, default_lawful)

no_type_lawful : (may : Key → Type 0) (q : Place) (r : Result Resolved TypeError)
    → Lawful may 0 (or_no_type q r)
no_type_lawful may q (Ok t) = search pieces
no_type_lawful may q (Err (type_error.NoType p name)) = search pieces
no_type_lawful may q (Err (type_error.Redefined p key)) = search pieces
no_type_lawful may q (Err (type_error.BadRange p)) = search pieces
no_type_lawful may q (Err (type_error.TooDeep p)) = search pieces
no_type_lawful may q (Err type_error.Memory) = search pieces

pub type_lawful : (may : Key → Type 0) (site : Site) → Suits may site
    → (n : Inside) (p : Place) (full : FullType) → Lawful may 0 (type_run site n p full)
unfolding type_run
type_lawful may site w n p full = search (pieces, defaults_lawful, no_type_lawful)

pub define_lawful : (may : Key → Type 0) (site : Site) → Suits may site
    → (n : Inside) (p : Place) (x : List ℕ) (full : FullType)
    → Lawful may 0 (define_run site n p x full)
unfolding define_run
define_lawful may site w n p x full = search (pieces, type_lawful)

pub bind_lawful : (may : Key → Type 0) (site : Site) → Suits may site
    → (n : Inside) (q : Prefixed) (p : Place) (d : List ℕ) (full : FullType)
    → Lawful may 0 (bind_run site n q p d full)
unfolding bind_run
bind_lawful may site w n q p d full = search (pieces, terms_lawful, type_lawful)

pub valid_lawful : (may : Key → Type 0) (n : Inside) (q : Prefixed) (p : Place) (d : List ℕ)
    (i : Item) → Lawful may 0 (valid_run n q p d i)
unfolding valid_run
valid_lawful may n q p d i = search (pieces, terms_lawful)

prefix_lawful : (may : Key → Type 0) (p : Place) (d : List ℕ) → Lawful may 0 (prefix_run p d)
prefix_lawful may p d = search (pieces, about_lawful)

-- Includes.

abbrev pub LawfulIncludes : (Key → Type 0) → Includes → Type 0
LawfulIncludes may including =
    (n : Inside) (p : Place) (name : List ℕ) → Lawful may 0 (including n p name)

by_lawful : (may : Key → Type 0) (including : Includes) → LawfulIncludes may including
    → (n : Inside) (p : Place) (v : Plain) (o : Option (List ℕ))
    → Lawful may 0 (include_by including n p v o)
by_lawful may including k n p v (Some name) = k n p name
by_lawful may including k n p v None = search pieces

pub include_lawful : (may : Key → Type 0) (including : Includes) → LawfulIncludes may including
    → (site : Site) → Suits may site → (n : Inside) (p : Place) (i : Item)
    → Lawful may 0 (include_run including site n p i)
unfolding include_run
include_lawful may including k site w n p i = search (pieces, dml_in_lawful, by_lawful)

pub form_lawful : (may : Key → Type 0) (including : Includes) → LawfulIncludes may including
    → (site : Site) → Suits may site → (n : Inside) (q : Prefixed) (p : Place)
    (form : StatementForm) → Lawful may 0 (form_run including site n q p form)
unfolding form_run
form_lawful may including k site w n q p (Assign last d conditional i) =
    search (pieces, assign_lawful)
form_lawful may including k site w n q p (Variable last x conditional i) =
    search (pieces, variable_lawful)
form_lawful may including k site w n q p (Function f body) = search (pieces, function_lawful)
form_lawful may including k site w n q p (Define x full) = search (pieces, define_lawful)
form_lawful may including k site w n q p (Bind d full) = search (pieces, bind_lawful)
form_lawful may including k site w n q p (Valid d i) = search (pieces, valid_lawful)
form_lawful may including k site w n q p (Include i) = search (pieces, include_lawful)
form_lawful may including k site w n q p (Prefix d) = prefix_lawful may p d

pub statement_lawful : (may : Key → Type 0) (including : Includes) → LawfulIncludes may including
    → (site : Site) → Suits may site → (n : Inside) (q : Prefixed) (s : Statement)
    → Lawful may 0 (statement_run including site n q s)
unfolding statement_run
statement_lawful may including k site w n q s = search (pieces, form_lawful)

pub statements_lawful : (may : Key → Type 0) (including : Includes) → LawfulIncludes may including
    → (site : Site) → Suits may site → (n : Inside) (q : Prefixed) (ss : List Statement)
    → Lawful may 0 (statements_run including site n q ss)
unfolding statements_run
statements_lawful may including k site w n q [] = search pieces
statements_lawful may including k site w n q (s ∷ ss) =
    let next = λ (r : Prefixed). statements_lawful may including k site w n r ss in
    search (pieces, statement_lawful)

-- Templates that are included.

pub starts_lawful : (may : Key → Type 0) (k : TemplateKind) (name : List ℕ)
    → Lawful may 0 (starts k name)
unfolding starts
starts_lawful may k name = search pieces

where_lawful : (may : Key → Type 0) (body : Run (Unit {0})) (b : Bool) → Lawful may 0 body
    → Lawful may 0 (where_it_starts body b)
where_lawful may body b h = search pieces

named_in_lawful : (may : Key → Type 0) (site : Site) → Suits may site
    → (n : Inside) (p : Place) (name : List ℕ) → Lawful may 0 (named_in site n p name)
named_in_lawful may site w n p name = search (pieces, lawful_still, template_lawful)

pub template_run_lawful : (may : Key → Type 0) (including : Includes) → LawfulIncludes may including
    → (site : Site) → Suits may site → (n : Inside) (p : Place) (name : List ℕ) (z : Template)
    → Lawful may 0 (template_run including site n p name z)
unfolding template_run
template_run_lawful may including k site w n p name z =
    search (pieces, starts_lawful, where_lawful, statements_lawful)

pub included_lawful : (may : Key → Type 0) (more : ℕ) (site : Site) → Suits may site
    → LawfulIncludes may (included more site)
unfolding included
included_lawful may zero site w n p name = search pieces
included_lawful may (suc more) site w n p name =
    let next = included_lawful may more site w in
    search (pieces, named_in_lawful, template_run_lawful)
