-- Arguments that are references or others, and the statements of structure templates.
use Rattle.std.proofs.Common.{◌≡◌, ◌∙◌, ap, sym, subst, refl, arith, ℕ, zero, suc, ◌+◌, ◌-◌, ◌<◌, Bool, true, false, List, ◌∷◌, map, length, drop, get_or, Some, None, is_some, Result}
use Rattle.std.proofs.lemmas.List.{drop_more}
use Rattle.path_tree.specs.Plain.{Plain, boolean}
use Rattle.pan_ast.specs.declared.place.Place.{Place}
use Rattle.pan_ast.specs.declared.fault.Code.TheVariants.{BadArgument, WrongStatement}
use Rattle.pan_ast.specs.declared.template.Statement.{Statement as RStatement}
use Rattle.pan_ast.specs.declared.template.Template.{Template as RTemplate}
use Rattle.pan_ast.specs.Syntax.{Item, Items, none, more, Reference, Refer, item_place}
use Rattle.pan_ast.specs.Templates.{Template, Statement, StatementForm}
use Rattle.pan_ast.specs.Templates as statement
use Rattle.pan_ast.specs.TemplatesSeen.{statement_seen, template_seen}
use Rattle.questions.specs.Contents.{Answers}
use Rattle.questions.specs.Run.{Meter, Outcome, Done, then, fail, still}
use Rattle.dml_meaning.specs.declared.words.Own.TheVariants as own
use Rattle.dml_meaning.specs.declared.words.Side.{Side}
use Rattle.dml_meaning.specs.declared.words.Test.{Test}
use Rattle.dml_meaning.specs.Run.{Env}
use Rattle.dml_meaning.specs.Around.{Around, in_include, in_template}
use Rattle.dml_meaning.specs.Lookups.{structure_named}
use Rattle.dml_meaning.specs.Means.{Means, ToRead, ToDelete}
use Rattle.dml_meaning.specs.Leaves.{on_text}
use Rattle.dml_meaning.specs.References.{reference_in}
use Rattle.dml_meaning.specs.Structures.{Includes, assign_by, statement_run, begin_statement, statements_from, included}
use Rattle.dml_meaning.specs.BuiltIns.{value_or_nothing, test_run, exists_by, delete_by, delete_reached, path_exists_run, is_changed, copy_extended, reference_extended, extend_by, own_values_run, own_call_run}
use Rattle.dml_world.specs.declared.stop.Exit.{Exit}
use Rattle.dml_world.specs.Exits.{Comes}
use Rattle.dml_leaves.specs.References.{is_lone, is_pair}
use Rattle.dml_leaves.specs.Statements.{is_wrong}

-- what an argument leads to, or its value

pub reference_value : (go : Means) (a : Around) (i : Item) (r : Reference) (q : Place) (o : Answers)
    (e : Env) (m : Meter) → Some r ≡ reference_in i → item_place i ≡ q
    → value_or_nothing go a i (reference_in i) o e m
    ≡ then (go.reaches a ToRead q r o e m) (λ x. Done x.value)
reference_value go a i r q o e m h k =
    ap (λ s. value_or_nothing go a i s o e m) (sym h)
    ∙ ap (λ p. then (go.reaches a ToRead p r o e m) (λ x. Done x.value)) k

pub other_value : (go : Means) (a : Around) (i : Item) (o : Answers) (e : Env) (m : Meter) → None
    ≡ reference_in i → value_or_nothing go a i (reference_in i) o e m
    ≡ then (go.opens a i o e m) (λ t. Done (Some t))
other_value go a i o e m h = ap (λ s. value_or_nothing go a i s o e m) (sym h)

pub ruleset values = (reference_value, other_value)

-- tests

pub one_test : (q : Test) (go : Means) (a : Around) (p : Place) (is : Items) (i : Item)
    (o : Answers) (e : Env) (m : Meter) → is ≡ more i none → own_call_run go a p (own.Is q) is o e m
    ≡ test_run go a q i o e m
unfolding own_call_run
one_test q go a p is i o e m h = ap (λ js. own_call_run go a p (own.Is q) js o e m) h

pub no_test : (q : Test) (go : Means) (a : Around) (p : Place) (is : Items) (o : Answers) (e : Env)
    (m : Meter) → is_lone is ≡ false → own_call_run go a p (own.Is q) is o e m
    ≡ own_values_run go a p (own.Is q) is o e m
unfolding own_call_run
no_test q go a p none o e m h = refl
no_test q go a p (more i none) o e m h = absurd cc
no_test q go a p (more i (more j is)) o e m h = refl

pub ruleset tests = (one_test, no_test)

-- `exists`

pub exists_reference : (go : Means) (a : Around) (p : Place) (i : Item) (r : Reference) (q : Place)
    (o : Answers) (e : Env) (m : Meter) → Some r ≡ reference_in i → item_place i ≡ q
    → exists_by go a p i (reference_in i) o e m ≡ then (go.reaches a ToRead q r o e m)
    (λ x. Done (boolean (is_some x.value)))
exists_reference go a p i r q o e m k l =
    ap (λ s. exists_by go a p i s o e m) (sym k)
    ∙ ap (λ z. then (go.reaches a ToRead z r o e m) (λ x. Done (boolean (is_some x.value)))) l

pub exists_other : (go : Means) (a : Around) (p : Place) (i : Item) (o : Answers) (e : Env)
    (m : Meter) → None ≡ reference_in i → exists_by go a p i (reference_in i) o e m
    ≡ then (go.opens a i o e m) (λ t. on_text p (path_exists_run a p) t o)
exists_other go a p i o e m k = ap (λ s. exists_by go a p i s o e m) (sym k)

pub ruleset exists_items = (exists_reference, exists_other)

pub one_exists : (go : Means) (a : Around) (p : Place) (is : Items) (i : Item) (o : Answers)
    (e : Env) (m : Meter) → is ≡ more i none → own_call_run go a p own.Exists is o e m
    ≡ exists_by go a p i (reference_in i) o e m
unfolding own_call_run
one_exists go a p is i o e m h = ap (λ js. own_call_run go a p own.Exists js o e m) h

pub no_exists : (go : Means) (a : Around) (p : Place) (is : Items) (o : Answers) (e : Env)
    (m : Meter) → is_lone is ≡ false → own_call_run go a p own.Exists is o e m
    ≡ own_values_run go a p own.Exists is o e m
unfolding own_call_run
no_exists go a p none o e m h = refl
no_exists go a p (more i none) o e m h = absurd cc
no_exists go a p (more i (more j is)) o e m h = refl

pub ruleset exists = (one_exists, no_exists)

-- `delete`

pub delete_reference : (go : Means) (a : Around) (p : Place) (i : Item) (s : Place) (x : List ℕ)
    (js : Items) (q : Place) (o : Answers) (e : Env) (m : Meter) → Some (Refer s x js)
    ≡ reference_in i → item_place i ≡ q → delete_by go a p i (reference_in i) o e m
    ≡ then (go.reaches a (ToDelete p) q (Refer s x js) o e m) (λ r. delete_reached x r o)
delete_reference go a p i s x js q o e m k l =
    ap (λ r. delete_by go a p i r o e m) (sym k)
    ∙ ap (λ z. then (go.reaches a (ToDelete p) z (Refer s x js) o e m) (λ r. delete_reached x r o))
    l

pub delete_other : (go : Means) (a : Around) (p : Place) (i : Item) (o : Answers) (e : Env)
    (m : Meter) → None ≡ reference_in i → delete_by go a p i (reference_in i) o e m
    ≡ then (go.opens a i o e m) (λ t. fail BadArgument p o)
delete_other go a p i o e m k = ap (λ s. delete_by go a p i s o e m) (sym k)

pub ruleset delete_items = (delete_reference, delete_other)

pub one_delete : (go : Means) (a : Around) (p : Place) (is : Items) (i : Item) (o : Answers)
    (e : Env) (m : Meter) → is ≡ more i none → own_call_run go a p own.Delete is o e m
    ≡ delete_by go a p i (reference_in i) o e m
unfolding own_call_run
one_delete go a p is i o e m h = ap (λ js. own_call_run go a p own.Delete js o e m) h

pub no_delete : (go : Means) (a : Around) (p : Place) (is : Items) (o : Answers) (e : Env)
    (m : Meter) → is_lone is ≡ false → own_call_run go a p own.Delete is o e m
    ≡ own_values_run go a p own.Delete is o e m
unfolding own_call_run
no_delete go a p none o e m h = refl
no_delete go a p (more i none) o e m h = absurd cc
no_delete go a p (more i (more j is)) o e m h = refl

pub ruleset deletes = (one_delete, no_delete)

-- `append` and `prepend`

pub extend_other : (s : Side) (go : Means) (a : Around) (p : Place) (is : Items) (l v : Item)
    (o : Answers) (e : Env) (m : Meter) → is ≡ more l (more v none) → None ≡ reference_in l
    → own_call_run go a p (own.Extend s) is o e m ≡ copy_extended go a p s l v o e m
unfolding own_call_run
extend_other s go a p is l v o e m h k =
    ap (λ js. own_call_run go a p (own.Extend s) js o e m) h
    ∙ ap (λ r. extend_by go a p s l v r o e m) (sym k)

by_change : (c : Bool) (s : Side) (go : Means) (a : Around) (p q : Place) (r : Place) (x : List ℕ)
    (js : Items) (l v : Item) (o : Answers) (e : Env) (m : Meter) → is_changed a x e ≡ c
    → item_place l ≡ q → extend_by go a p s l v (Some (Refer r x js)) o e m
    ≡ (elim c as (λ _. Outcome Env Plain) [
      | true ↦ reference_extended go a p s q (Refer r x js) v o
          e m
      | false ↦ copy_extended go a p s l v o e m
    ])
by_change true s go a p q r x js l v o e m h k = rw (h, k) refl
by_change false s go a p q r x js l v o e m h k = rw h refl

pub extend_copied : (s : Side) (go : Means) (a : Around) (p : Place) (is : Items) (l v : Item)
    (r : Place) (x : List ℕ) (js : Items) (o : Answers) (e : Env) (m : Meter) → is
    ≡ more l (more v none) → Some (Refer r x js) ≡ reference_in l → is_changed a x e ≡ false
    → own_call_run go a p (own.Extend s) is o e m ≡ copy_extended go a p s l v o e m
unfolding own_call_run
extend_copied s go a p is l v r x js o e m h k c =
    ap (λ ks. own_call_run go a p (own.Extend s) ks o e m) h
    ∙ ap (λ z. extend_by go a p s l v z o e m) (sym k)
    ∙ by_change false s go a p (item_place l) r x js l v o e m c refl

pub extend_changed : (s : Side) (go : Means) (a : Around) (p : Place) (is : Items) (l v : Item)
    (r : Place) (x : List ℕ) (js : Items) (q : Place) (o : Answers) (e : Env) (m : Meter) → is
    ≡ more l (more v none) → Some (Refer r x js) ≡ reference_in l → is_changed a x e ≡ true
    → item_place l ≡ q → own_call_run go a p (own.Extend s) is o e m
    ≡ reference_extended go a p s q (Refer r x js) v o e m
unfolding own_call_run
extend_changed s go a p is l v r x js q o e m h k c at =
    ap (λ ks. own_call_run go a p (own.Extend s) ks o e m) h
    ∙ ap (λ z. extend_by go a p s l v z o e m) (sym k)
    ∙ by_change true s go a p q r x js l v o e m c at

pub no_extend : (s : Side) (go : Means) (a : Around) (p : Place) (is : Items) (o : Answers)
    (e : Env) (m : Meter) → is_pair is ≡ false → own_call_run go a p (own.Extend s) is o e m
    ≡ own_values_run go a p (own.Extend s) is o e m
unfolding own_call_run
no_extend s go a p none o e m h = refl
no_extend s go a p (more i none) o e m h = refl
no_extend s go a p (more i (more j none)) o e m h = absurd cc
no_extend s go a p (more i (more j (more k is))) o e m h = refl

pub ruleset extends = (extend_other, extend_copied, extend_changed, no_extend)

-- statements of structure templates

pub assign_form : (including : Includes) (go : Means) (a : Around) (p : Place) (f : StatementForm)
    (d : List ℕ) (c : Bool) (i : Item) (t : Plain) (o : Answers) (e : Env) (m : Meter) → f
    ≡ statement.Assign false d c i → statement_run including go a p f t o e m
    ≡ assign_by go a p d c i t o e m
unfolding statement_run
assign_form including go a p f d c i t o e m h =
    ap (λ g. statement_run including go a p g t o e m) h

pub include_form : (including : Includes) (go : Means) (a : Around) (p : Place) (f : StatementForm)
    (i : Item) (t : Plain) (o : Answers) (e : Env) (m : Meter) → f ≡ statement.Include i
    → statement_run including go a p f t o e m ≡ statement_run including go a p
    (statement.Include i) t o e m
include_form including go a p f i t o e m h = ap (λ g. statement_run including go a p g t o e m) h

pub wrong_form : (including : Includes) (go : Means) (a : Around) (p : Place) (f : StatementForm)
    (t : Plain) (o : Answers) (e : Env) (m : Meter) → is_wrong f ≡ true
    → statement_run including go a p f t o e m ≡ fail WrongStatement p o e m
unfolding statement_run
wrong_form including go a p (statement.Assign true d c i) t o e m h = refl
wrong_form including go a p (statement.Assign false d c i) t o e m h = absurd cc
wrong_form including go a p (statement.Variable l x c i) t o e m h = refl
wrong_form including go a p (statement.Function f i) t o e m h = refl
wrong_form including go a p (statement.Define n f) t o e m h = refl
wrong_form including go a p (statement.Bind d f) t o e m h = refl
wrong_form including go a p (statement.Valid d i) t o e m h = refl
wrong_form including go a p (statement.Include i) t o e m h = absurd cc
wrong_form including go a p (statement.Prefix d) t o e m h = refl

pub ruleset statements = (assign_form, include_form, wrong_form)

-- the statement at i, and those after it
pub statements_more : (including : Includes) (go : Means) (a : Around) (ss : List RStatement)
    (i : ℕ) (s : RStatement) (t : Plain) (o : Answers) (e : Env) (m : Meter) → i < length ss → s
    ≡ get_or ss i s → statements_from including go a (map statement_seen (drop i ss)) t o e m
    ≡ then (begin_statement including go a (statement_seen s) t o e m)
    (λ u. statements_from including go a (map statement_seen (drop (i + 1) ss)) u o)
unfolding statements_from
statements_more including go a ss i s t o e m h is =
    ap (λ xs. statements_from including go a (map statement_seen xs) t o e m)
    (drop_more ss i s h ∙ ap (λ y. y ∷ drop (i + 1) ss) (sym is))

-- a structure template that is included

pub one_include : (n : ℕ) (go : Means) (a : Around) (p : Place) (x : List ℕ) (t : Plain)
    (o : Answers) (e : Env) (m : Meter) → 0 < n → included n go a p x t o e m
    ≡ then (still (structure_named a p x) o e m) (λ z. statements_from (included (n - 1) go) go
    (in_template (in_include a) z.name) z.statements t o)
unfolding included
one_include zero go a p x t o e m h = absurd (omega arith)
one_include (suc n) go a p x t o e m h = let k : suc n - 1 ≡ n = omega arith in rw k refl

-- where it is there: what its statements make
pub includes_on : (n : ℕ) (go : Means) (a : Around) (p : Place) (x : List ℕ) (t : Plain)
    (o : Answers) (e e' e'' : Env) (m m' m'' : Meter) (w w' : RTemplate) (r : Result Plain Exit)
    → 0 < n → w' ≡ w → still (structure_named a p x) o e m ≡ Done (template_seen w) e' m'
    → Comes (λ u. u) r e'' m'' (statements_from (included (n - 1) go) go
    (in_template (in_include a) w'.name) (map statement_seen w'.statements.items) t o e' m') → Comes
    (λ u. u) r e'' m'' (included n go a p x t o e m)
includes_on n go a p x t o e e' e'' m m' m'' w w' r some same found rest =
    let f = λ (z : Template). statements_from (included (n - 1) go) go
    (in_template (in_include a) z.name) z.statements t o in
    let P : RTemplate → Type 0 = λ y. Comes (λ u. u) r e'' m'' (f (template_seen y) e' m') in
    subst (Comes (λ u. u) r e'' m'')
    (sym (one_include n go a p x t o e m some ∙ ap (λ y. then y f) found)) (subst P same rest)
