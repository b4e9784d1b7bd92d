use Rattle.std.proofs.Common.{◌∙◌, ◌++◌, [], ◌∷◌, sym, ap, ◌≡◌, rules}
use Rattle.std.proofs.lemmas.Result.{err_from_is_err_and}
use Rattle.pan_ast.specs.Templates as plain
use Rattle.pan_ast.specs.Seen.{item_seen}
use Rattle.pan_ast.specs.TemplatesSeen.{form_seen}
use Rattle.pan_grammar.specs.Machine.{run}
use Rattle.pan_grammar.specs.States.{Statements}
use Rattle.pan_grammar.specs.Templates.{stated}
use Rattle.pan_parser.proofs.statements.path_form.Goals as goal

pub returns-in_err-conditional-clause-read : goal.returns-in_err-conditional-clause-read
returns-in_err-conditional-clause-read c = λ q h ss.
    let p = err_from_is_err_and c.from_residual.result c.from_residual.ensures.1 in
    rw (p.1, p.2) (c.in_err-conditional.ensures.read h ss
    (λ b i. stated q (plain.Assign c.args.last c.args.path.now.value b i)))

pub returns-clause-read : goal.returns-clause-read
returns-clause-read c = λ p h ss.
    let made : form_seen c.in_ok-assign_statement.field-0
    ≡ plain.Assign c.args.last c.args.path.now.value c.in_ok-conditional.conditional
    (item_seen c.in_ok-conditional.right) = search rules in
    c.in_ok-conditional.ensures.read h ss (λ b i. stated p
    (plain.Assign c.args.last c.args.path.now.value b i))
    ∙ ap (λ v. run c.in_ok-conditional.rest.now (Statements h (ss ++ stated p v ∷ [])))
    (sym made)
