use Rattle.std.proofs.Common.{◌∙◌, ◌++◌, [], ◌∷◌, sym, refl, ap, ◌≡◌, rules}
use Rattle.std.proofs.lemmas.Result.{err_from_is_err_and}
use Rattle.pan_ast.specs.Templates as plain
use Rattle.pan_ast.specs.Seen.{item_seen}
use Rattle.pan_ast.specs.TemplatesSeen.{form_seen}
use Rattle.pan_grammar.specs.Machine.{item_of, run, variable_read}
use Rattle.pan_grammar.specs.States.{ASetting, Statements, Takes}
use Rattle.pan_grammar.specs.Templates.{conditional, stated}
use Rattle.pan_parser.proofs.Turns.{fails_along}
use Rattle.pan_parser.proofs.statements.variable_form.Goals as goal

pub returns-in_err-name-clause-read : goal.returns-in_err-name-clause-read
returns-in_err-name-clause-read c = λ q h ss.
    let p = err_from_is_err_and c.from_residual.result c.from_residual.ensures.1 in
    rw (p.1, p.2) (c.in_err-name.ensures.read (variable_read q c.args.last h ss)
    (λ w. Takes ASetting (λ a. item_of h ss (λ i. stated q
    (plain.Variable c.args.last w.value (conditional a) i)))) (refl, λ t. refl, λ t. refl))

pub returns-in_err-conditional-clause-read : goal.returns-in_err-conditional-clause-read
returns-in_err-conditional-clause-read c = λ q h ss.
    let p = err_from_is_err_and c.from_residual-in_err-conditional.result
    c.from_residual-in_err-conditional.ensures.1 in
    rw (p.1, p.2) (fails_along c.in_err-conditional.field-0.0 _ _
    (c.in_ok-name.ensures.read (variable_read q c.args.last h ss)
    (λ w. Takes ASetting (λ a. item_of h ss (λ i. stated q
    (plain.Variable c.args.last w.value (conditional a) i)))) (refl, λ t. refl, λ t. refl))
    (c.in_err-conditional.ensures.read h ss (λ b i. stated q
    (plain.Variable c.args.last c.in_ok-name.name.now.value b i))))

pub returns-clause-read : goal.returns-clause-read
returns-clause-read c = λ q h ss.
    let made : form_seen c.in_ok-variable_statement.field-0
    ≡ plain.Variable c.args.last c.in_ok-name.name.now.value c.in_ok-conditional.conditional
    (item_seen c.in_ok-conditional.right) = search rules in
    c.in_ok-name.ensures.read (variable_read q c.args.last h ss)
    (λ w. Takes ASetting (λ a. item_of h ss (λ i. stated q
    (plain.Variable c.args.last w.value (conditional a) i)))) (refl, λ t. refl, λ t. refl)
    ∙ c.in_ok-conditional.ensures.read h ss (λ b i. stated q
    (plain.Variable c.args.last c.in_ok-name.name.now.value b i))
    ∙ ap (λ v. run c.in_ok-conditional.rest.now (Statements h (ss ++ stated q v ∷ [])))
    (sym made)
