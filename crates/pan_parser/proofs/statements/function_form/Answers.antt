use Rattle.std.proofs.Common.{◌∙◌, ◌++◌, [], ◌∷◌, sym, refl, ap, ◌≡◌, rules}
use Rattle.std.proofs.lemmas.Result.{err_from_is_err_and}
use Rattle.pan_ast.specs.Templates as plain
use Rattle.pan_ast.specs.Seen.{item_seen}
use Rattle.pan_ast.specs.TemplatesSeen.{form_seen}
use Rattle.pan_grammar.specs.Machine.{function_read, item_of, run}
use Rattle.pan_grammar.specs.States.{AnAssign, Statements, Takes}
use Rattle.pan_grammar.specs.Templates.{stated}
use Rattle.pan_parser.proofs.Turns.{fails_along}
use Rattle.pan_parser.proofs.statements.function_form.Goals as goal

pub returns-in_err-name-clause-read : goal.returns-in_err-name-clause-read
returns-in_err-name-clause-read c = λ q h ss.
    let p = err_from_is_err_and c.from_residual.result c.from_residual.ensures.1 in
    rw (p.1, p.2) (c.in_err-name.ensures.read (function_read q h ss)
    (λ w. Takes AnAssign (λ e. item_of h ss (λ i. stated q (plain.Function w.value i))))
    (refl, λ t. refl, λ t. refl))

pub returns-in_err-body-clause-read : goal.returns-in_err-body-clause-read
returns-in_err-body-clause-read c = λ q h ss.
    let p = err_from_is_err_and c.from_residual-in_err-body.result
    c.from_residual-in_err-body.ensures.1 in
    rw (p.1, p.2) (fails_along c.in_err-body.field-0.0 _ _
    (c.in_ok-name.ensures.read (function_read q h ss)
    (λ w. Takes AnAssign (λ e. item_of h ss (λ i. stated q (plain.Function w.value i))))
    (refl, λ t. refl, λ t. refl)) (c.in_err-body.ensures.read h ss
    (λ i. stated q (plain.Function c.in_ok-name.name.now.value i))))

pub returns-clause-read : goal.returns-clause-read
returns-clause-read c = λ q h ss.
    let made : form_seen c.in_ok-function_statement.field-0
    ≡ plain.Function c.in_ok-name.name.now.value (item_seen c.in_ok-body.body) = search rules in
    c.in_ok-name.ensures.read (function_read q h ss)
    (λ w. Takes AnAssign (λ e. item_of h ss (λ i. stated q (plain.Function w.value i))))
    (refl, λ t. refl, λ t. refl) ∙ c.in_ok-body.ensures.read h ss
    (λ i. stated q (plain.Function c.in_ok-name.name.now.value i))
    ∙ ap (λ v. run c.in_ok-body.rest.now (Statements h (ss ++ stated q v ∷ []))) (sym made)
