use Rattle.std.proofs.Common.{refl, ◌∙◌}
use Rattle.std.proofs.lemmas.Result.{err_from_is_err_and}
use Rattle.pan_ast.specs.declared.token.Token.{Token}
use Rattle.pan_grammar.specs.States.{ASemicolon, AWord, AnOpen, State, Takes}
use Rattle.pan_parser.proofs.Turns.{fails_along}
use Rattle.pan_parser.proofs.items.foreach_words.Goals as goal

abbrev after_value : (Token → Token → State) → Token → Token → State
after_value next k v = Takes ASemicolon (λ s2. next k v)

abbrev after_semicolon : (Token → Token → State) → Token → State
after_semicolon next k = Takes AWord (λ v. Takes ASemicolon (λ s2. next k v))

abbrev after_key : (Token → Token → State) → Token → State
after_key next k = Takes ASemicolon (λ s1. Takes AWord (λ v. Takes ASemicolon (λ s2. next k v)))

abbrev after_open : (Token → Token → State) → State
after_open next = Takes AWord (λ k. Takes ASemicolon
    (λ s1. Takes AWord (λ v. Takes ASemicolon (λ s2. next k v))))

pub returns-in_err-rest-clause-read : goal.returns-in_err-rest-clause-read
returns-in_err-rest-clause-read c = λ next.
    let p = err_from_is_err_and c.from_residual.result c.from_residual.ensures.1 in
    rw (p.1, p.2) (c.in_err-rest.ensures.read (Takes AnOpen (λ o. after_open next))
    (λ o. after_open next) (refl, λ t. refl, λ t. refl))

pub returns-in_err-key-clause-read : goal.returns-in_err-key-clause-read
returns-in_err-key-clause-read c = λ next.
    let p = err_from_is_err_and c.from_residual-in_err-key.result
    c.from_residual-in_err-key.ensures.1 in
    rw (p.1, p.2) (fails_along c.in_err-key.field-0.0 _ _
    (c.in_ok-rest.ensures.read (Takes AnOpen (λ o. after_open next)) (λ o. after_open next)
    (refl, λ t. refl, λ t. refl))
    (c.in_err-key.ensures.read (after_open next) (after_key next) (refl, λ t. refl, λ t. refl)))

pub returns-in_err-rest-2-clause-read : goal.returns-in_err-rest-2-clause-read
returns-in_err-rest-2-clause-read c = λ next.
    let p = err_from_is_err_and c.from_residual-in_err-rest-2.result
    c.from_residual-in_err-rest-2.ensures.1 in
    let k = c.in_ok-key.key.now in
    rw (p.1, p.2) (fails_along c.in_err-rest-2.field-0.0 _ _
    (c.in_ok-rest.ensures.read (Takes AnOpen (λ o. after_open next)) (λ o. after_open next)
    (refl, λ t. refl, λ t. refl)
    ∙ c.in_ok-key.ensures.read (after_open next) (after_key next) (refl, λ t. refl, λ t. refl))
    (c.in_err-rest-2.ensures.read (after_key next k) (λ s. after_semicolon next k)
    (refl, λ t. refl, λ t. refl)))

pub returns-in_err-value-clause-read : goal.returns-in_err-value-clause-read
returns-in_err-value-clause-read c = λ next.
    let p = err_from_is_err_and c.from_residual-in_err-value.result
    c.from_residual-in_err-value.ensures.1 in
    let k = c.in_ok-key.key.now in
    rw (p.1, p.2) (fails_along c.in_err-value.field-0.0 _ _
    (c.in_ok-rest.ensures.read (Takes AnOpen (λ o. after_open next)) (λ o. after_open next)
    (refl, λ t. refl, λ t. refl)
    ∙ c.in_ok-key.ensures.read (after_open next) (after_key next) (refl, λ t. refl, λ t. refl)
    ∙ c.in_ok-rest-2.ensures.read (after_key next k) (λ s. after_semicolon next k)
    (refl, λ t. refl, λ t. refl))
    (c.in_err-value.ensures.read (after_semicolon next k) (after_value next k)
    (refl, λ t. refl, λ t. refl)))

pub returns-in_err-rest-3-clause-read : goal.returns-in_err-rest-3-clause-read
returns-in_err-rest-3-clause-read c = λ next.
    let p = err_from_is_err_and c.from_residual-in_err-rest-3.result
    c.from_residual-in_err-rest-3.ensures.1 in
    let k = c.in_ok-key.key.now in
    let v = c.in_ok-value.value.now in
    rw (p.1, p.2) (fails_along c.in_err-rest-3.field-0.0 _ _
    (c.in_ok-rest.ensures.read (Takes AnOpen (λ o. after_open next)) (λ o. after_open next)
    (refl, λ t. refl, λ t. refl)
    ∙ c.in_ok-key.ensures.read (after_open next) (after_key next) (refl, λ t. refl, λ t. refl)
    ∙ c.in_ok-rest-2.ensures.read (after_key next k) (λ s. after_semicolon next k)
    (refl, λ t. refl, λ t. refl)
    ∙ c.in_ok-value.ensures.read (after_semicolon next k) (after_value next k)
    (refl, λ t. refl, λ t. refl))
    (c.in_err-rest-3.ensures.read (after_value next k v) (λ s. next k v)
    (refl, λ t. refl, λ t. refl)))

pub returns-clause-read : goal.returns-clause-read
returns-clause-read c = λ next.
    let k = c.in_ok-key.key.now in
    let v = c.in_ok-value.value.now in
    c.in_ok-rest.ensures.read (Takes AnOpen (λ o. after_open next)) (λ o. after_open next)
    (refl, λ t. refl, λ t. refl)
    ∙ c.in_ok-key.ensures.read (after_open next) (after_key next) (refl, λ t. refl, λ t. refl)
    ∙ c.in_ok-rest-2.ensures.read (after_key next k) (λ s. after_semicolon next k)
    (refl, λ t. refl, λ t. refl)
    ∙ c.in_ok-value.ensures.read (after_semicolon next k) (after_value next k)
    (refl, λ t. refl, λ t. refl)
    ∙ c.in_ok-rest-3.ensures.read (after_value next k v) (λ s. next k v)
    (refl, λ t. refl, λ t. refl)
