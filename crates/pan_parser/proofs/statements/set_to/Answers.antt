use Rattle.std.proofs.Common.{◌∙◌, ◌++◌, [], ◌∷◌, ◌≡◌, rules, sym, refl, ap}
use Rattle.std.proofs.lemmas.Result.{err_from_is_err_and}
use Rattle.pan_ast.specs.Seen.{item_seen}
use Rattle.pan_grammar.specs.Machine.{item_of, run}
use Rattle.pan_grammar.specs.States.{ASetting, Statements, Takes}
use Rattle.pan_grammar.specs.Templates.{conditional}
use Rattle.pan_parser.proofs.Turns.{fails_along}
use Rattle.pan_parser.proofs.statements.set_to.Goals as goal

pub returns-in_err-sign-clause-read : goal.returns-in_err-sign-clause-read
returns-in_err-sign-clause-read c = λ h ss make.
    let p = err_from_is_err_and c.from_residual.result c.from_residual.ensures.1 in
    rw (p.1, p.2) (c.in_err-sign.ensures.read (Takes ASetting
    (λ a. item_of h ss (make (conditional a)))) (λ a. item_of h ss (make (conditional a)))
    (refl, λ t. refl, λ t. refl))

pub returns-in_err-right-clause-read : goal.returns-in_err-right-clause-read
returns-in_err-right-clause-read c = λ h ss make.
    let p = err_from_is_err_and c.from_residual-in_err-right.result
    c.from_residual-in_err-right.ensures.1 in
    rw (p.1, p.2) (fails_along c.in_err-right.field-0.0 _ _
    (c.in_ok-sign.ensures.read (Takes ASetting (λ a. item_of h ss (make (conditional a))))
    (λ a. item_of h ss (make (conditional a))) (refl, λ t. refl, λ t. refl))
    (c.in_err-right.ensures.read h ss (make (conditional c.in_ok-sign.sign.now))))

pub returns-clause-read : goal.returns-clause-read
returns-clause-read c = λ h ss make.
    let e : c.is.result ≡ conditional c.in_ok-sign.sign.now = search rules in
    let r = c.in_ok-right in
    c.in_ok-sign.ensures.read (Takes ASetting (λ a. item_of h ss (make (conditional a))))
    (λ a. item_of h ss (make (conditional a))) (refl, λ t. refl, λ t. refl)
    ∙ c.in_ok-right.ensures.read h ss (make (conditional c.in_ok-sign.sign.now))
    ∙ ap (λ v. run r.rest.now (Statements h (ss ++ make v (item_seen r.right) ∷ []))) (sym e)
