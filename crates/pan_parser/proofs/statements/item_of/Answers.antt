use Rattle.std.proofs.Common.{◌∙◌, ◌++◌, [], ◌∷◌, refl}
use Rattle.std.proofs.lemmas.Result.{err_from_is_err_and}
use Rattle.pan_ast.specs.Seen.{item_seen}
use Rattle.pan_grammar.specs.States.{HasItem, Out, StatementItem, Statements}
use Rattle.pan_parser.proofs.Turns.{fails_along}
use Rattle.pan_parser.proofs.statements.item_of.Goals as goal

pub returns-in_err-next-clause-read : goal.returns-in_err-next-clause-read
returns-in_err-next-clause-read c = λ h ss make.
    let p = err_from_is_err_and c.from_residual.result c.from_residual.ensures.1 in
    rw (p.1, p.2) (c.in_err-next.ensures.read (Out (StatementItem h ss make)) refl)

pub returns-in_err-rest-clause-read : goal.returns-in_err-rest-clause-read
returns-in_err-rest-clause-read c = λ h ss make.
    let p = err_from_is_err_and c.from_residual-in_err-rest.result
    c.from_residual-in_err-rest.ensures.1 in
    rw (p.1, p.2) (fails_along c.in_err-rest.field-0.0 _ _
    (c.in_ok-next.ensures.read (Out (StatementItem h ss make)) refl)
    (c.in_err-rest.ensures.read (HasItem (item_seen c.in_ok-next.next)
    (Out (StatementItem h ss make))) (λ t. Statements h
    (ss ++ make (item_seen c.in_ok-next.next) ∷ [])) (refl, λ t. refl, λ t. refl)))

pub returns-clause-read : goal.returns-clause-read
returns-clause-read c = λ h ss make.
    c.in_ok-next.ensures.read (Out (StatementItem h ss make)) refl
    ∙ c.in_ok-rest.ensures.read (HasItem (item_seen c.in_ok-next.next)
    (Out (StatementItem h ss make))) (λ t. Statements h
    (ss ++ make (item_seen c.in_ok-next.next) ∷ [])) (refl, λ t. refl, λ t. refl)
