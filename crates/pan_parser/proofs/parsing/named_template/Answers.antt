use Rattle.std.proofs.Common.{◌∙◌, ◌≡◌, [], refl, rules}
use Rattle.std.proofs.lemmas.Result.{err_from_is_err_and}
use Rattle.pan_ast.specs.declared.token.Token.{Token}
use Rattle.pan_grammar.specs.Machine.{name_wanted}
use Rattle.pan_grammar.specs.States.{ASemicolon, Statements, Takes}
use Rattle.pan_grammar.specs.Templates.{Header}
use Rattle.pan_parser.proofs.Turns.{fails_along}
use Rattle.pan_parser.proofs.StatementTurns.{template_alike}
use Rattle.pan_parser.proofs.parsing.named_template.Goals as goal

pub returns-in_err-name-clause-read : goal.returns-in_err-name-clause-read
returns-in_err-name-clause-read c =
    let p = err_from_is_err_and c.from_residual.result c.from_residual.ensures.1 in
    let of : Token → Header =
    (λ n. (record { kind = c.args.kind; place = c.args.place.now; name = n })) in
    rw (p.1, p.2) (c.in_err-name.ensures.read (name_wanted c.args.kind c.args.place.now)
    (λ n. Takes ASemicolon (λ s. Statements (of n) [])) (refl, λ t. refl, λ t. refl))

pub returns-in_err-rest-clause-read : goal.returns-in_err-rest-clause-read
returns-in_err-rest-clause-read c =
    let p = err_from_is_err_and c.from_residual-in_err-rest.result
    c.from_residual-in_err-rest.ensures.1 in
    let of : Token → Header =
    (λ n. (record { kind = c.args.kind; place = c.args.place.now; name = n })) in
    rw (p.1, p.2) (fails_along c.in_err-rest.field-0.0 _ _
    (c.in_ok-name.ensures.read (name_wanted c.args.kind c.args.place.now)
    (λ n. Takes ASemicolon (λ s. Statements (of n) [])) (refl, λ t. refl, λ t. refl))
    (c.in_err-rest.ensures.read (Takes ASemicolon
    (λ s. Statements (of c.in_ok-name.token.now) []))
    (λ s. Statements (of c.in_ok-name.token.now) []) (refl, λ t. refl, λ t. refl)))

pub returns-in_err-statements-clause-read : goal.returns-in_err-statements-clause-read
returns-in_err-statements-clause-read c =
    let p = err_from_is_err_and c.from_residual-in_err-statements.result
    c.from_residual-in_err-statements.ensures.1 in
    let of : Token → Header =
    (λ n. (record { kind = c.args.kind; place = c.args.place.now; name = n })) in
    rw (p.1, p.2) (fails_along c.in_err-statements.field-0.0 _ _
    (c.in_ok-name.ensures.read (name_wanted c.args.kind c.args.place.now)
    (λ n. Takes ASemicolon (λ s. Statements (of n) [])) (refl, λ t. refl, λ t. refl)
    ∙ c.in_ok-rest.ensures.read (Takes ASemicolon
    (λ s. Statements (of c.in_ok-name.token.now) []))
    (λ s. Statements (of c.in_ok-name.token.now) []) (refl, λ t. refl, λ t. refl))
    (c.in_err-statements.ensures.read (of c.in_ok-name.token.now)))

pub returns-clause-read : goal.returns-clause-read
returns-clause-read c =
    let of : Token → Header =
    (λ n. (record { kind = c.args.kind; place = c.args.place.now; name = n })) in
    let at_name : c.in_ok-name_place.name_place ≡ c.in_ok-name.token.now.place = search rules in
    c.in_ok-name.ensures.read (name_wanted c.args.kind c.args.place.now)
    (λ n. Takes ASemicolon (λ s. Statements (of n) [])) (refl, λ t. refl, λ t. refl)
    ∙ c.in_ok-rest.ensures.read (Takes ASemicolon
    (λ s. Statements (of c.in_ok-name.token.now) []))
    (λ s. Statements (of c.in_ok-name.token.now) []) (refl, λ t. refl, λ t. refl)
    ∙ c.in_ok-statements.ensures.read (of c.in_ok-name.token.now)
    ∙ template_alike c.in_ok-statements.rest.now c.args.kind c.args.place.now _
    c.in_ok-name.token.now _ _ _ c.in_ok-name.ensures.name at_name c.in_ok-place.ensures
