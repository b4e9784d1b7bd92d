use Rattle.std.proofs.Common.{◌∙◌, refl}
use Rattle.std.proofs.lemmas.Result.{err_from_is_err_and}
use Rattle.pan_ast.specs.TypesSeen.{full_seen}
use Rattle.pan_grammar.specs.Machine.{full_of}
use Rattle.pan_grammar.specs.States.{AnAssign, StatementType, Takes}
use Rattle.pan_parser.proofs.Turns.{fails_along}
use Rattle.pan_parser.proofs.StatementTurns.{type_ends, type_goes_on}
use Rattle.pan_parser.proofs.statements.type_of.Goals as goal

pub returns-in_err-rest-clause-read : goal.returns-in_err-rest-clause-read
returns-in_err-rest-clause-read c = λ h ss make.
    let p = err_from_is_err_and c.from_residual.result c.from_residual.ensures.1 in
    rw (p.1, p.2) (c.in_err-rest.ensures.read (Takes AnAssign (λ e. full_of h ss make))
    (λ e. full_of h ss make) (refl, λ t. refl, λ t. refl))

pub returns-in_err-full-clause-read : goal.returns-in_err-full-clause-read
returns-in_err-full-clause-read c = λ h ss make.
    let p = err_from_is_err_and c.from_residual-in_err-full.result
    c.from_residual-in_err-full.ensures.1 in
    rw (p.1, p.2) (fails_along c.in_err-full.field-0.0 _ _
    (c.in_ok-rest.ensures.read (Takes AnAssign (λ e. full_of h ss make))
    (λ e. full_of h ss make) (refl, λ t. refl, λ t. refl))
    (c.in_err-full.ensures.read (StatementType h ss make) refl))

pub returns-in_default-clause-read : goal.returns-in_default-clause-read
returns-in_default-clause-read c = λ h ss make.
    c.in_ok-rest.ensures.read (Takes AnAssign (λ e. full_of h ss make)) (λ e. full_of h ss make)
    (refl, λ t. refl, λ t. refl) ∙ c.in_ok-full.ensures.read (StatementType h ss make) refl
    ∙ type_goes_on c.in_ok-full.rest.now h ss make (full_seen c.in_ok-full.full)
    c.in_default.ensures

pub returns-clause-read : goal.returns-clause-read
returns-clause-read c = λ h ss make.
    c.in_ok-rest.ensures.read (Takes AnAssign (λ e. full_of h ss make)) (λ e. full_of h ss make)
    (refl, λ t. refl, λ t. refl) ∙ c.in_ok-full.ensures.read (StatementType h ss make) refl
    ∙ type_ends c.in_ok-full.rest.now c.in-Some.after.now h ss make
    (full_seen c.in_ok-full.full) c.in-Some.ensures
