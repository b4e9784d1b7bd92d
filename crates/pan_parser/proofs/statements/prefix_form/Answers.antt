use Rattle.std.proofs.Common.{◌∙◌, ◌++◌, [], ◌∷◌, sym, refl, ap, ◌≡◌, rules}
use Rattle.std.proofs.lemmas.Result.{err_from_is_err_and}
use Rattle.pan_ast.specs.Templates as plain
use Rattle.pan_ast.specs.TemplatesSeen.{form_seen}
use Rattle.pan_grammar.specs.Machine.{prefix_read, run}
use Rattle.pan_grammar.specs.States.{ASemicolon, Statements, Takes}
use Rattle.pan_grammar.specs.Templates.{stated}
use Rattle.pan_parser.proofs.Turns.{fails_along}
use Rattle.pan_parser.proofs.statements.prefix_form.Goals as goal

pub returns-in_err-path-clause-read : goal.returns-in_err-path-clause-read
returns-in_err-path-clause-read c = λ q h ss.
    let p = err_from_is_err_and c.from_residual.result c.from_residual.ensures.1 in
    rw (p.1, p.2) (c.in_err-path.ensures.read (prefix_read q h ss)
    (λ x. Takes ASemicolon (λ e. Statements h (ss ++ stated q (plain.Prefix x.value) ∷ [])))
    (refl, λ t. refl, λ t. refl))

pub returns-in_err-rest-clause-read : goal.returns-in_err-rest-clause-read
returns-in_err-rest-clause-read c = λ q h ss.
    let p = err_from_is_err_and c.from_residual-in_err-rest.result
    c.from_residual-in_err-rest.ensures.1 in
    rw (p.1, p.2) (fails_along c.in_err-rest.field-0.0 _ _
    (c.in_ok-path.ensures.read (prefix_read q h ss)
    (λ x. Takes ASemicolon (λ e. Statements h (ss ++ stated q (plain.Prefix x.value) ∷ [])))
    (refl, λ t. refl, λ t. refl)) (c.in_err-rest.ensures.read
    (Takes ASemicolon (λ e. Statements h (ss ++ stated q
    (plain.Prefix c.in_ok-path.path.now.value) ∷ [])))
    (λ e. Statements h (ss ++ stated q (plain.Prefix c.in_ok-path.path.now.value) ∷ []))
    (refl, λ t. refl, λ t. refl)))

pub returns-clause-read : goal.returns-clause-read
returns-clause-read c = λ q h ss.
    let made : form_seen c.in_ok-prefix_statement.field-0
    ≡ plain.Prefix c.in_ok-path.path.now.value = search rules in
    c.in_ok-path.ensures.read (prefix_read q h ss)
    (λ x. Takes ASemicolon (λ e. Statements h (ss ++ stated q (plain.Prefix x.value) ∷ [])))
    (refl, λ t. refl, λ t. refl) ∙ c.in_ok-rest.ensures.read
    (Takes ASemicolon (λ e. Statements h (ss ++ stated q
    (plain.Prefix c.in_ok-path.path.now.value) ∷ [])))
    (λ e. Statements h (ss ++ stated q (plain.Prefix c.in_ok-path.path.now.value) ∷ []))
    (refl, λ t. refl, λ t. refl)
    ∙ ap (λ v. run c.in_ok-rest.rest.now (Statements h (ss ++ stated q v ∷ []))) (sym made)
