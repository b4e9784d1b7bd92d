use Rattle.std.proofs.Common.{refl}
use Rattle.std.proofs.lemmas.Result.{err_from_is_err_and}
use Rattle.pan_grammar.specs.Machine.{item_of}
use Rattle.pan_grammar.specs.States.{AnAssign, Takes}
use Rattle.pan_parser.proofs.Turns.{goes_along}
use Rattle.pan_parser.proofs.statements.right_side.Goals as goal

pub returns-in_err-rest-clause-read : goal.returns-in_err-rest-clause-read
returns-in_err-rest-clause-read c = λ h ss make.
    let p = err_from_is_err_and c.from_residual.result c.from_residual.ensures.1 in
    rw (p.1, p.2) (c.in_err-rest.ensures.read (Takes AnAssign (λ e. item_of h ss make))
    (λ e. item_of h ss make) (refl, λ t. refl, λ t. refl))

pub returns-clause-read : goal.returns-clause-read
returns-clause-read c = λ h ss make.
    goes_along c.item_of.result _ _ _ (c.in_ok-rest.ensures.read
    (Takes AnAssign (λ e. item_of h ss make)) (λ e. item_of h ss make)
    (refl, λ t. refl, λ t. refl)) (c.item_of.ensures.read h ss make)
