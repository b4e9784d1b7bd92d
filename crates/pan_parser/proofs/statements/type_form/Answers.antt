use Rattle.std.proofs.Common.{◌∙◌, ◌++◌, [], ◌∷◌, sym, refl, ap, ◌≡◌, rules}
use Rattle.std.proofs.lemmas.Result.{err_from_is_err_and}
use Rattle.pan_ast.specs.Templates as plain
use Rattle.pan_ast.specs.TemplatesSeen.{form_seen}
use Rattle.pan_ast.specs.TypesSeen.{full_seen}
use Rattle.pan_grammar.specs.Machine.{full_of, run, type_read}
use Rattle.pan_grammar.specs.States.{AnAssign, Statements, Takes}
use Rattle.pan_grammar.specs.Templates.{stated}
use Rattle.pan_parser.proofs.Turns.{fails_along}
use Rattle.pan_parser.proofs.statements.type_form.Goals as goal

pub returns-in_err-name-clause-read : goal.returns-in_err-name-clause-read
returns-in_err-name-clause-read c = λ q h ss.
    let p = err_from_is_err_and c.from_residual.result c.from_residual.ensures.1 in
    rw (p.1, p.2) (c.in_err-name.ensures.read (type_read q h ss)
    (λ w. Takes AnAssign (λ e. full_of h ss (λ f. stated q (plain.Define w.value f))))
    (refl, λ t. refl, λ t. refl))

pub returns-in_err-full-clause-read : goal.returns-in_err-full-clause-read
returns-in_err-full-clause-read c = λ q h ss.
    let p = err_from_is_err_and c.from_residual-in_err-full.result
    c.from_residual-in_err-full.ensures.1 in
    rw (p.1, p.2) (fails_along c.in_err-full.field-0.0 _ _
    (c.in_ok-name.ensures.read (type_read q h ss)
    (λ w. Takes AnAssign (λ e. full_of h ss (λ f. stated q (plain.Define w.value f))))
    (refl, λ t. refl, λ t. refl)) (c.in_err-full.ensures.read h ss
    (λ f. stated q (plain.Define c.in_ok-name.name.now.value f))))

pub returns-clause-read : goal.returns-clause-read
returns-clause-read c = λ q h ss.
    let made : form_seen c.in_ok-type_statement.field-0
    ≡ plain.Define c.in_ok-name.name.now.value (full_seen c.in_ok-full.full) = search rules in
    c.in_ok-name.ensures.read (type_read q h ss) (λ w. Takes AnAssign
    (λ e. full_of h ss (λ f. stated q (plain.Define w.value f)))) (refl, λ t. refl, λ t. refl)
    ∙ c.in_ok-full.ensures.read h ss (λ f. stated q
    (plain.Define c.in_ok-name.name.now.value f))
    ∙ ap (λ v. run c.in_ok-full.rest.now (Statements h (ss ++ stated q v ∷ []))) (sym made)
