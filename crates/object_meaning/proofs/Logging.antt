-- The log of a build gives its tree: each piece of a build keeps that.
use Rattle.std.proofs.Common.{◌≡◌, subst, refl, ℕ, zero, suc, List, [], ◌∷◌, ◌++◌, Option, Some, None, IfSome, Bool, true, false, cond, Result, Ok, Err, nat_eq}
use Rattle.path_tree.specs.Plain.{Plain, undef}
use Rattle.path_tree.specs.declared.path.Term.{Term}
use Rattle.pan_ast.specs.declared.fault.Fault.{Fault}
use Rattle.pan_ast.specs.declared.fault.Code.{Code}
use Rattle.pan_ast.specs.declared.fault.Code.TheVariants as code
use Rattle.pan_ast.specs.Detail.{fault_with}
use Rattle.pan_ast.specs.declared.place.Place.{Place}
use Rattle.pan_ast.specs.declared.template.TemplateKind.{TemplateKind}
use Rattle.pan_ast.specs.declared.work.Limits.{Limits}
use Rattle.pan_ast.specs.Syntax.{Item}
use Rattle.pan_ast.specs.Templates.{Template, Statement, StatementForm, Assign, Variable, Function, Define, Bind, Valid, Include, Prefix}
use Rattle.pan_ast.specs.Types.{FullType}
use Rattle.asking.specs.Asked.{Answer, Ends}
use Rattle.asking.specs.Asked as asked
use Rattle.questions.specs.declared.key.Key.{Key}
use Rattle.questions.specs.Contents.{Answers, answer_in}
use Rattle.questions.specs.Run.{Meter, Outcome, Done, Returned, Failed, Asks, Run, then, ◌>>=◌, give, fail_with, fail_about, now, become, step, stepped, beside, still, ended}
use Rattle.questions.specs.Told.{answer_by, whole}
use Rattle.assign_rules.specs.Profiles.{IsLogOf, ProfileValue, assigned}
use Rattle.assign_rules.specs.declared.profile.AssignError.{AssignError}
use Rattle.assign_rules.specs.declared.profile.AssignError.TheVariants as assign_error
use Rattle.assign_rules.proofs.Logs.{assigned_replays}
use Rattle.assign_rules.specs.Globals.{GlobalsValue, with_global}
use Rattle.path_tree.specs.declared.path.PutError.TheVariants as put_error
use Rattle.assign_rules.specs.declared.globals.SetError.{SetError}
use Rattle.assign_rules.specs.declared.globals.SetError.TheVariants as set_error
use Rattle.type_defs.specs.Resolved.{Resolved}
use Rattle.type_defs.specs.declared.type_error.TypeError.{TypeError}
use Rattle.type_defs.specs.declared.type_error.TypeError.TheVariants as type_error
use Rattle.dml_meaning.specs.Around.{is_function}
use Rattle.dml_meaning.specs.Lookups.{template_named}
use Rattle.dml_meaning.specs.declared.limits.TheConstants.{MAX_INCLUDES}
use Rattle.template_meaning.specs.Program.{Site, Program, Inside, no_program, at_top, around_in}
use Rattle.template_meaning.specs.Statements as statements
use Rattle.template_meaning.specs.Statements.{Prefixed, Includes, dml_in, or_fail_about, or_unchanged, put_run, assign_terms, assign_run, fits, or_unset, set_run, variable_value, variable_run, function_run, no_null, default_run, or_no_type, type_run, define_run, bind_run, valid_run, prefix_run, include_by, include_run, form_run, statement_run, statements_run, starts, named_in, template_run, included}
use Rattle.template_meaning.specs.Objects.{top_place, is_object_kind, object_run, run_top}
use Rattle.defaults.specs.Filled.{Store, all_filled}
use Rattle.defaults.proofs.Replays.{LeavesLog, all_replays}
use Rattle.type_defs.specs.Bindings.{Bound}
use Rattle.runner.specs.Ends.{End}
use Rattle.runner.specs.Logged.{LogItsTrees, IsLogFor, put_no_null}
use Rattle.runner.specs.declared.ends.Built.{Built}
use Rattle.object_meaning.specs.Rest.{Rest}
use Rattle.object_meaning.specs.Builds.{site_at, store_of, with_store, in_store, defaults_run, built_run, build_ending, build_told}
use Rattle.object_meaning.specs.Meanings.{meaning_of}

-- the log of a program gives its tree
abbrev IsLogged : Program → Type 0
IsLogged s = IsLogOf s.profile.log s.profile.tree

abbrev LeavesLogged : {X : Type 0} → Outcome Program X → Type 0
LeavesLogged (Done x s m) = IsLogged s
LeavesLogged (Returned t s m) = IsLogged s
LeavesLogged (Failed f m) = Unit {0}
LeavesLogged (Asks k m) = Unit {0}

-- a piece that keeps it
record Keeps {X : Type 0} (r : Run Program X) : Type 0 where
  ends : (o : Answers) (s : Program) (m : Meter) → IsLogged s → LeavesLogged (r o s m)

then_keeps : {X Y : Type 0} → (z : Outcome Program X) (f : X → Program → Meter → Outcome Program Y)
    → ((x : X) (s : Program) (m : Meter) → IsLogged s → LeavesLogged (f x s m)) → LeavesLogged z
    → LeavesLogged (then z f)
then_keeps (Done x s m) f h e = h x s m e
then_keeps (Returned t s m) f h e = e
then_keeps (Failed d m) f h e = tt
then_keeps (Asks k m) f h e = tt

stepped_keeps : (b : Bool) (p : Place) (s : Program) (m : Meter) → IsLogged s
    → LeavesLogged (stepped b p s m)
stepped_keeps true p s m e = tt
stepped_keeps false p s m e = e

beside_keeps : {X : Type 0} → (s : Program) (z : Outcome (Unit {0}) X) → IsLogged s
    → LeavesLogged (beside s z)
beside_keeps s (Done x t m) e = e
beside_keeps s (Returned u t m) e = e
beside_keeps s (Failed f m) e = tt
beside_keeps s (Asks k m) e = tt

give_keeps : {X : Type 0} → (x : X) → Keeps (give x)
give_keeps x = record { ends = λ o s m e. e }

fail_keeps : {X : Type 0} → (f : Fault) → Keeps {X = X} (fail_with f)
fail_keeps f = record { ends = λ o s m e. tt }

cond_keeps : {X : Type 0} → (b : Bool) (r r' : Run Program X) → Keeps r → Keeps r'
    → Keeps (cond b r r')
cond_keeps true r r' h k = h
cond_keeps false r r' h k = k

bind_keeps : {X Y : Type 0} → (r : Run Program X) (f : X → Run Program Y) → Keeps r
    → ((x : X) → Keeps (f x)) → Keeps (r >>= f)
bind_keeps r f a b = record {
  ends =
      λ o s m e. then_keeps (r o s m) (λ x. f x o) (λ x. (b x).ends o) (a.ends o s m e);
}

step_keeps : (p : Place) → Keeps (step p)
step_keeps p = record { ends = λ o s m e. stepped_keeps (nat_eq m.left 0) p s m e }

still_keeps : {X : Type 0} → (r : Run (Unit {0}) X) → Keeps (still r)
still_keeps r = record { ends = λ o s m e. beside_keeps s (r o tt m) e }

-- what is made of the program as it is
now_keeps : {X : Type 0} → (f : Program → Run Program X)
    → ((s : Program) → IsLogged s → Keeps (f s)) → Keeps (now >>= f)
now_keeps f h = record { ends = λ o s m e. (h s e).ends o s m e }

become_keeps : (s : Program) → IsLogged s → Keeps (become s)
become_keeps s e = record { ends = λ o t m k. e }

ruleset runs = (
  now_keeps,
  bind_keeps,
  give_keeps,
  fail_keeps,
  cond_keeps,
  step_keeps,
  still_keeps,
  become_keeps,
)

-- the pieces of statements

dml_keeps : (site : Site) (n : Inside) (fixed : Bool) (t : Plain) (i : Item)
    → Keeps (dml_in site n fixed t i)
unfolding dml_in
dml_keeps site n fixed t i = search runs

about_keeps : {X : Type 0} → (c : Code) (p : Place) (d : List ℕ) (x : Option X)
    → Keeps (or_fail_about c p d x)
about_keeps c p d None = search runs
about_keeps c p d (Some x) = search runs

unset_keeps : (p : Place) (x : List ℕ) (r : Result GlobalsValue SetError) → Keeps (or_unset p x r)
unset_keeps p x (Ok g) = search runs
unset_keeps p x (Err set_error.Automatic) = search runs
unset_keeps p x (Err _) = search runs

type_error_keeps : (p : Place) (r : Result Resolved TypeError) → Keeps (or_no_type p r)
type_error_keeps q (Ok t) = search runs
type_error_keeps q (Err (type_error.NoType p name)) = search runs
type_error_keeps q (Err (type_error.Redefined p key)) = search runs
type_error_keeps q (Err (type_error.BadRange p)) = search runs
type_error_keeps q (Err (type_error.TooDeep p)) = search runs
type_error_keeps q (Err type_error.Memory) = search runs

-- the one piece that changes the tree, by the rule of assignments
put_keeps : (p : Place) (d : List ℕ) (last : Bool) (ms : List Term) (v : Plain)
    → Keeps (put_run p d last ms v)
unfolding put_run
put_keeps p d last ms v =
    now_keeps _ (λ s e. record {
      ends =
          λ o t m k. at s e (assigned p ms last v s.profile) refl o t m k;
    })
  where
    at : (s : Program) → IsLogged s → (r : Result ProfileValue AssignError)
        → assigned p ms last v s.profile ≡ r → (o : Answers) (t : Program) (m : Meter) → IsLogged t
        → LeavesLogged ((or_unchanged p d r >>= (λ profile. become
        (record s { profile = profile }))) o t m)
    at s e (Ok profile) is o t m k = assigned_replays p ms last v s.profile profile is e
    at s e (Err (assign_error.Put put_error.TooLarge)) is o t m k = tt
    at s e (Err (assign_error.Put put_error.TooHigh)) is o t m k = tt
    at s e (Err _) is o t m k = tt

ruleset pieces = (runs, dml_keeps, about_keeps, unset_keeps, type_error_keeps, put_keeps)

module _ (site : Site) where
  terms_keep : (n : Inside) (p : Place) (last : Bool) (d : List ℕ) (conditional : Bool) (i : Item)
      (ms : List Term) → Keeps (assign_terms site n p last d conditional i ms)
  unfolding assign_terms
  terms_keep n p last d conditional i ms = search pieces

  assign_keeps : (n : Inside) (q : Prefixed) (p : Place) (last : Bool) (d : List ℕ)
      (conditional : Bool) (i : Item) → Keeps (assign_run site n q p last d conditional i)
  unfolding assign_run
  assign_keeps n q p last d conditional i = search (pieces, terms_keep)

  fits_keep : (p : Place) (x : List ℕ) (v : Plain) → Keeps (fits x v p)
  fits_keep p x v = search runs

  set_keeps : (p : Place) (last : Bool) (x : List ℕ) (v : Plain) → Keeps (set_run p last x v)
  unfolding set_run
  set_keeps p last x v =
      let change : Program → GlobalsValue → Run Program (Unit {0}) =
      λ s g. become (record s { globals = g }) in
      let unset : Program → Run Program (Unit {0}) =
      λ s. or_unset p x (with_global x last v s.globals) >>= change s in
      bind_keeps (fits x v p) (λ u. now >>= unset) (fits_keep p x v)
      (λ u. now_keeps unset (λ s e. bind_keeps (or_unset p x (with_global x last v s.globals))
      (change s) (unset_keeps p x (with_global x last v s.globals))
      (λ g. become_keeps (record s { globals = g }) e)))

  value_keeps : (n : Inside) (p : Place) (last : Bool) (x : List ℕ) (conditional : Bool) (i : Item)
      → Keeps (variable_value site n p last x conditional i)
  unfolding variable_value
  value_keeps n p last x conditional i = search (pieces, set_keeps)

  variable_keeps : (n : Inside) (p : Place) (last : Bool) (x : List ℕ) (conditional : Bool)
      (i : Item) → Keeps (variable_run site n p last x conditional i)
  unfolding variable_run
  variable_keeps n p last x conditional i = search (pieces, value_keeps)

  function_keeps : (p : Place) (f : List ℕ) (body : Item) → Keeps (function_run site p f body)
  unfolding function_run
  function_keeps p f body =
      let more : Program → Program =
      λ s. record s { functions = s.functions ++ record { name = f; body = body } ∷ [] } in
      let by : Program → Run Program (Unit {0}) =
      λ s. cond (is_function site.calls s.functions f) (fail_about code.Redefined p f)
      (become (more s)) in
      now_keeps by (λ s e. cond_keeps (is_function site.calls s.functions f)
      (fail_about code.Redefined p f) (become (more s))
      (fail_keeps (fault_with code.Redefined p f)) (become_keeps (more s) e))

  null_keeps : (p : Place) (v : Plain) → Keeps (no_null p v)
  null_keeps p v = search runs

  default_keeps : (n : Inside) (i : Item) → Keeps (default_run site n i)
  unfolding default_run
  default_keeps n i = search pieces

  defaults_keep : (n : Inside) (is : List Item) (done : List Plain)
      → Keeps (statements.defaults_run site n is done)
  unfolding statements.defaults_run
  defaults_keep n [] done = search pieces
  defaults_keep n (i ∷ is) done = bind_keeps _ _ (default_keeps n i) (λ v. defaults_keep n is _)

  type_keeps : (n : Inside) (p : Place) (full : FullType) → Keeps (type_run site n p full)
  unfolding type_run
  type_keeps n p full = search (pieces, defaults_keep)

  define_keeps : (n : Inside) (p : Place) (x : List ℕ) (full : FullType)
      → Keeps (define_run site n p x full)
  unfolding define_run
  define_keeps n p x full = search (pieces, type_keeps)

  bind_form_keeps : (n : Inside) (q : Prefixed) (p : Place) (d : List ℕ) (full : FullType)
      → Keeps (bind_run site n q p d full)
  unfolding bind_run
  bind_form_keeps n q p d full = search (pieces, type_keeps)

  valid_keeps : (n : Inside) (q : Prefixed) (p : Place) (d : List ℕ) (i : Item)
      → Keeps (valid_run n q p d i)
  unfolding valid_run
  valid_keeps n q p d i = search pieces

  prefix_keeps : (p : Place) (d : List ℕ) → Keeps (prefix_run p d)
  prefix_keeps p d = search pieces

  starts_keeps : (k : TemplateKind) (name : List ℕ) → Keeps (starts k name)
  unfolding starts
  starts_keeps k name = search pieces

  -- where what is included keeps it
  module _ (including : Includes) (h : (n : Inside) (p : Place) (name : List ℕ) → Keeps
      (including n p name)) where
    by_keeps : (n : Inside) (p : Place) (v : Plain) (name : Option (List ℕ))
        → Keeps (include_by including n p v name)
    by_keeps n p v None = search pieces
    by_keeps n p v (Some name) = h n p name

    include_keeps : (n : Inside) (p : Place) (i : Item) → Keeps (include_run including site n p i)
    unfolding include_run
    include_keeps n p i = search (pieces, by_keeps)

    form_keeps : (n : Inside) (q : Prefixed) (p : Place) (form : StatementForm)
        → Keeps (form_run including site n q p form)
    unfolding form_run
    form_keeps n q p (Assign last d conditional i) = search (pieces, assign_keeps)
    form_keeps n q p (Variable last x conditional i) = search (pieces, variable_keeps)
    form_keeps n q p (Function f body) = search (pieces, function_keeps)
    form_keeps n q p (Define x full) = search (pieces, define_keeps)
    form_keeps n q p (Bind d full) = search (pieces, bind_form_keeps)
    form_keeps n q p (Valid d i) = search (pieces, valid_keeps)
    form_keeps n q p (Include i) = search (pieces, include_keeps)
    form_keeps n q p (Prefix d) = search (pieces, prefix_keeps)

    statement_keeps : (n : Inside) (q : Prefixed) (s : Statement)
        → Keeps (statement_run including site n q s)
    unfolding statement_run
    statement_keeps n q s = search (pieces, form_keeps)

    statements_keep : (n : Inside) (q : Prefixed) (ss : List Statement)
        → Keeps (statements_run including site n q ss)
    unfolding statements_run
    statements_keep n q [] = search pieces
    statements_keep n q (s ∷ ss) =
        bind_keeps _ _ (statement_keeps n q s) (λ r. statements_keep n r ss)

    template_keeps : (n : Inside) (p : Place) (name : List ℕ) (z : Template)
        → Keeps (template_run including site n p name z)
    unfolding template_run
    template_keeps n p name z = search (pieces, starts_keeps, statements_keep)

  included_keeps : (more : ℕ) (n : Inside) (p : Place) (name : List ℕ)
      → Keeps (included more site n p name)
  unfolding included
  included_keeps zero n p name = search pieces
  included_keeps (suc more) n p name =
      let look : Program → Run Program Template =
      λ s. still (template_named (around_in site n s) p name) in
      bind_keeps (named_in site n p name) (template_run (included more site) site n p name)
      (now_keeps look (λ s e. still_keeps (template_named (around_in site n s) p name)))
      (λ z. template_keeps (included more site) (included_keeps more) n p name z)

  top_keeps : (z : Template) → Keeps (run_top site z)
  top_keeps z = cond_keeps (is_object_kind z.kind)
      (statements_run (included MAX_INCLUDES site) site (at_top site) None z.statements)
      (fail_about code.WrongKind (top_place site.object) site.object)
      (statements_keep (included MAX_INCLUDES site) (included_keeps MAX_INCLUDES) (at_top site) None
      z.statements) (fail_keeps (fault_with code.WrongKind (top_place site.object) site.object))

  object_keeps : Keeps (object_run site)
  unfolding object_run
  object_keeps =
      let look : Run (Unit {0}) Template =
      template_named (around_in site (at_top site) no_program) (top_place site.object)
      site.object in
      bind_keeps (still look) (λ z. run_top site z >>= (λ u. give z.place)) (still_keeps look)
      (λ z. bind_keeps (run_top site z) (λ u. give z.place) (top_keeps z)
      (λ u. give_keeps z.place))

-- the defaults

abbrev over : Plain → Program → Meter → Outcome Program (Unit {0})
over t s m = Done tt s m

store_keeps : (bs : List Bound) → Keeps (in_store (all_filled bs))
store_keeps bs = record {
  ends =
      λ o s m e. at s (all_filled bs o (store_of s) m) (all_replays bs o (store_of s) m e);
}
  where
    at : (s : Program) (z : Outcome Store (Unit {0})) → LeavesLog z
        → LeavesLogged (then (ended (with_store s) (then z (λ u t n. Done undef t n))) over)
    at s (Done x t n) k = k
    at s (Returned u t n) k = k
    at s (Failed f n) k = tt
    at s (Asks q n) k = tt

filled_keeps : Keeps defaults_run
unfolding defaults_run
filled_keeps = now_keeps (λ s. in_store (all_filled s.bindings)) (λ s e. store_keeps s.bindings)

built_keeps : (site : Site) → Keeps (built_run site)
unfolding built_run
built_keeps site = bind_keeps (object_run site) (λ header. defaults_run >>= (λ u. give header))
    (object_keeps site) (λ header. bind_keeps defaults_run (λ u. give header) filled_keeps
    (λ u. give_keeps header))

-- what was built

same_built : (x b : Built Rest) → ◌≡◌ {A = Answer Key (End Rest)} (Ends (Ok x)) (Ends (Ok b)) → x
    ≡ b
same_built x b e = cc

ends_logged : (site : Site) (z : Outcome Program Place) (b : Built Rest) → LeavesLogged z
    → answer_by (build_ending site) z ≡ Ends (Ok b) → IsLogOf b.rest.log b.tree
ends_logged site (Done x s m) b k e =
    subst (λ (y : Built Rest). IsLogOf y.rest.log y.tree) (same_built _ b e) k
ends_logged site (Returned t s m) b k e =
    subst (λ (y : Built Rest). IsLogOf y.rest.log y.tree) (same_built _ b e) k
ends_logged site (Failed f m) b k e =
    let clash : ◌≡◌ {A = Answer Key (End Rest)} (Ends (Err f)) (Ends (Ok b)) = e in absurd cc
ends_logged site (Asks q m) b k e =
    let clash : ◌≡◌ {A = Answer Key (End Rest)} (asked.Asks q) (Ends (Ok b)) = e in absurd cc

told_logged : (r : Rest) (tree : Plain) (b : Bool) → put_no_null r.log ≡ b → IsLogOf r.log tree
    → IfSome (cond b (Some (record { header = r.header; changes = r.log })) None) (IsLogFor tree)
told_logged r tree true e log = record { values = e; gives = log }
told_logged r tree false e log = tt

pub logs_its_trees : (dirs : List (List ℕ)) (limits : Limits) → LogItsTrees (meaning_of dirs limits)
logs_its_trees dirs limits object pairs b is =
    told_logged b.rest b.tree (put_no_null b.rest.log) refl
    (ends_logged (site_at dirs limits object) (build_told (site_at dirs limits object) pairs) b
    ((built_keeps (site_at dirs limits object)).ends (answer_in pairs) no_program whole refl) is)
