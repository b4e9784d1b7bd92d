-- No run of statements leaves more work than it began with: of each definition by which code goes
-- on,
-- so that it is known what is left at least where memory is wanting.
use Rattle.std.proofs.Common.{ℕ, List, Bool}
use Rattle.path_tree.specs.Plain.{Plain}
use Rattle.path_tree.specs.declared.path.Term.{Term}
use Rattle.pan_ast.specs.declared.place.Place.{Place}
use Rattle.pan_ast.specs.declared.template.TemplateKind.{TemplateKind}
use Rattle.pan_ast.specs.Syntax.{Item}
use Rattle.pan_ast.specs.Templates.{Template, Statement, StatementForm}
use Rattle.pan_ast.specs.Types.{FullType}
use Rattle.questions.specs.Laws.{MayAsk}
use Rattle.questions.proofs.Runs.{Leaves, left_within}
use Rattle.dml_meaning.specs.Laws.{IsReading}
use Rattle.dml_meaning.proofs.Leaving.{template_leaves}
use Rattle.template_meaning.specs.Program.{Site, Inside}
use Rattle.template_meaning.specs.Statements.{Prefixed, dml_in, put_run, assign_terms, assign_run, set_run, variable_value, variable_run, function_run, default_run, defaults_run, type_run, define_run, bind_run, valid_run, include_run, form_run, statement_run, statements_run, starts, template_run, included}
use Rattle.template_meaning.specs.Objects.{object_run}
use Rattle.template_meaning.proofs.EachStatement.{LawfulIncludes, dml_in_lawful, put_lawful, assign_terms_lawful, assign_lawful, set_lawful, global_lawful, variable_lawful, function_lawful, default_lawful, defaults_lawful, type_lawful, define_lawful, bind_lawful, valid_lawful, include_lawful, form_lawful, statement_lawful, statements_lawful, starts_lawful, template_run_lawful, included_lawful}
use Rattle.template_meaning.proofs.OfObjects.{object_lawful, suits}

pub put_leaves : (p : Place) (d : List ℕ) (last : Bool) (ms : List Term) (v : Plain)
    → Leaves (put_run p d last ms v)
put_leaves p d last ms v =
    left_within (λ k. Unit {0}) 0 (put_run p d last ms v) (put_lawful (λ k. Unit {0}) p d last ms v)

pub set_leaves : (p : Place) (last : Bool) (x : List ℕ) (v : Plain) → Leaves (set_run p last x v)
set_leaves p last x v = left_within (λ k. Unit {0}) 0 (set_run p last x v)
    (set_lawful (λ k. Unit {0}) p last x v)

pub function_leaves : (site : Site) (p : Place) (f : List ℕ) (body : Item)
    → Leaves (function_run site p f body)
function_leaves site p f body =
    left_within (λ k. Unit {0}) 0 (function_run site p f body)
    (function_lawful (λ k. Unit {0}) site p f body)

pub valid_leaves : (n : Inside) (q : Prefixed) (p : Place) (d : List ℕ) (i : Item)
    → Leaves (valid_run n q p d i)
valid_leaves n q p d i =
    left_within (λ k. Unit {0}) 0 (valid_run n q p d i) (valid_lawful (λ k. Unit {0}) n q p d i)

pub starts_leaves : (k : TemplateKind) (name : List ℕ) → Leaves (starts k name)
starts_leaves k name = left_within (λ k. Unit {0}) 0 (starts k name)
    (starts_lawful (λ k. Unit {0}) k name)

module _ (site : Site) (w : IsReading site.reading) where
  pub dml_in_leaves : (n : Inside) (fixed : Bool) (t : Plain) (i : Item)
      → Leaves (dml_in site n fixed t i)
  dml_in_leaves n fixed t i =
      left_within _ 0 _ (dml_in_lawful (MayAsk site.object) site (suits site w) n fixed t i)

  pub assign_terms_leave : (n : Inside) (p : Place) (last : Bool) (d : List ℕ) (conditional : Bool)
      (i : Item) (ms : List Term) → Leaves (assign_terms site n p last d conditional i ms)
  assign_terms_leave n p last d conditional i ms =
      left_within _ 0 _ (assign_terms_lawful (MayAsk site.object) site (suits site w) n p last d
      conditional i ms)

  pub assign_leaves : (n : Inside) (q : Prefixed) (p : Place) (last : Bool) (d : List ℕ)
      (conditional : Bool) (i : Item) → Leaves (assign_run site n q p last d conditional i)
  assign_leaves n q p last d conditional i =
      left_within _ 0 _ (assign_lawful (MayAsk site.object) site (suits site w) n q p last d
      conditional i)

  pub variable_value_leaves : (n : Inside) (p : Place) (last : Bool) (x : List ℕ)
      (conditional : Bool) (i : Item) → Leaves (variable_value site n p last x conditional i)
  variable_value_leaves n p last x conditional i =
      left_within _ 0 _ (global_lawful (MayAsk site.object) site (suits site w) n p last x
      conditional i)

  pub variable_leaves : (n : Inside) (p : Place) (last : Bool) (x : List ℕ) (conditional : Bool)
      (i : Item) → Leaves (variable_run site n p last x conditional i)
  variable_leaves n p last x conditional i =
      left_within _ 0 _ (variable_lawful (MayAsk site.object) site (suits site w) n p last x
      conditional i)

  pub default_leaves : (n : Inside) (i : Item) → Leaves (default_run site n i)
  default_leaves n i = left_within _ 0 _ (default_lawful (MayAsk site.object) site (suits site w) n
      i)

  pub defaults_leave : (n : Inside) (is : List Item) (done : List Plain)
      → Leaves (defaults_run site n is done)
  defaults_leave n is done =
      left_within _ 0 _ (defaults_lawful (MayAsk site.object) site (suits site w) n is done)

  pub type_leaves : (n : Inside) (p : Place) (full : FullType) → Leaves (type_run site n p full)
  type_leaves n p full = left_within _ 0 _ (type_lawful (MayAsk site.object) site (suits site w) n p
      full)

  pub define_leaves : (n : Inside) (p : Place) (x : List ℕ) (full : FullType)
      → Leaves (define_run site n p x full)
  define_leaves n p x full =
      left_within _ 0 _ (define_lawful (MayAsk site.object) site (suits site w) n p x full)

  pub bind_leaves : (n : Inside) (q : Prefixed) (p : Place) (d : List ℕ) (full : FullType)
      → Leaves (bind_run site n q p d full)
  bind_leaves n q p d full =
      left_within _ 0 _ (bind_lawful (MayAsk site.object) site (suits site w) n q p d full)

  pub object_leaves : Leaves (object_run site)
  object_leaves = left_within _ 0 _ (object_lawful (MayAsk site.object) site (suits site w))

  -- where so many includes may still be opened
  module _ (more : ℕ) where
    including : LawfulIncludes (MayAsk site.object) (included more site)
    including = included_lawful (MayAsk site.object) more site (suits site w)

    pub included_leaves : (n : Inside) (p : Place) (name : List ℕ)
        → Leaves (included more site n p name)
    included_leaves n p name = left_within _ 0 _ (including n p name)

    pub include_leaves : (n : Inside) (p : Place) (i : Item)
        → Leaves (include_run (included more site) site n p i)
    include_leaves n p i = left_within _ 0 _ (include_lawful _ _ including site (suits site w) n p
        i)

    pub form_leaves : (n : Inside) (q : Prefixed) (p : Place) (form : StatementForm)
        → Leaves (form_run (included more site) site n q p form)
    form_leaves n q p form =
        left_within _ 0 _ (form_lawful _ _ including site (suits site w) n q p form)

    pub statement_leaves : (n : Inside) (q : Prefixed) (s : Statement)
        → Leaves (statement_run (included more site) site n q s)
    statement_leaves n q s =
        left_within _ 0 _ (statement_lawful _ _ including site (suits site w) n q s)

    pub statements_leave : (n : Inside) (q : Prefixed) (ss : List Statement)
        → Leaves (statements_run (included more site) site n q ss)
    statements_leave n q ss =
        left_within _ 0 _ (statements_lawful _ _ including site (suits site w) n q ss)

    pub template_run_leaves : (n : Inside) (p : Place) (name : List ℕ) (z : Template)
        → Leaves (template_run (included more site) site n p name z)
    template_run_leaves n p name z =
        left_within _ 0 _ (template_run_lawful _ _ including site (suits site w) n p name z)

pub ruleset leaving = (
  put_leaves,
  set_leaves,
  function_leaves,
  valid_leaves,
  starts_leaves,
  dml_in_leaves,
  assign_terms_leave,
  assign_leaves,
  variable_value_leaves,
  variable_leaves,
  default_leaves,
  defaults_leave,
  type_leaves,
  define_leaves,
  bind_leaves,
  object_leaves,
  included_leaves,
  include_leaves,
  form_leaves,
  statement_leaves,
  statements_leave,
  template_run_leaves,
  template_leaves,
)
