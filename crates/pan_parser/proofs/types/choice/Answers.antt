use Rattle.std.proofs.Common.{◌∙◌, [], ◌∷◌, ◌≡◌, rules, sym, refl, ap}
use Rattle.std.proofs.lemmas.Result.{err_from_is_err_and}
use Rattle.pan_grammar.specs.Machine.{choice_read, run, text_wanted}
use Rattle.pan_grammar.specs.States.{HasHead, TextsOpen}
use Rattle.pan_parser.proofs.Turns.{fails_along}
use Rattle.pan_parser.proofs.types.choice.Goals as goal

pub returns-in_err-rest-clause-read : goal.returns-in_err-rest-clause-read
returns-in_err-rest-clause-read c = λ s.
    let p = err_from_is_err_and c.from_residual.result c.from_residual.ensures.1 in
    rw (p.1, p.2) (c.in_err-rest.ensures.read (choice_read s) (λ o. text_wanted [] s)
    (refl, λ t. refl, λ t. refl))

pub returns-in_err-first-clause-read : goal.returns-in_err-first-clause-read
returns-in_err-first-clause-read c = λ s.
    let p = err_from_is_err_and c.from_residual-in_err-first.result
    c.from_residual-in_err-first.ensures.1 in
    rw (p.1, p.2) (fails_along c.in_err-first.field-0.0 _ _
    (c.in_ok-rest.ensures.read (choice_read s) (λ o. text_wanted [] s)
    (refl, λ t. refl, λ t. refl)) (c.in_err-first.ensures.read (text_wanted [] s)
    (λ x. TextsOpen (x.value ∷ []) s) (refl, λ t. refl, λ t. refl)))

pub returns-in_err-texts-clause-read : goal.returns-in_err-texts-clause-read
returns-in_err-texts-clause-read c = λ s.
    let p = err_from_is_err_and c.from_residual-in_err-texts.result
    c.from_residual-in_err-texts.ensures.1 in
    let e : c.push.new.self.items ≡ c.in_ok-first.first.now.value ∷ [] = search rules in
    rw (p.1, p.2) (fails_along c.in_err-texts.field-0.0 _ _
    (c.in_ok-rest.ensures.read (choice_read s) (λ o. text_wanted [] s)
    (refl, λ t. refl, λ t. refl) ∙ c.in_ok-first.ensures.read (text_wanted [] s)
    (λ x. TextsOpen (x.value ∷ []) s) (refl, λ t. refl, λ t. refl)
    ∙ ap (λ v. run c.in_ok-first.rest.now (TextsOpen v s)) (sym e))
    (c.in_err-texts.ensures.read s))

pub returns-clause-read : goal.returns-clause-read
returns-clause-read c = λ s.
    let e : c.push.new.self.items ≡ c.in_ok-first.first.now.value ∷ [] = search rules in
    let r = c.in_ok-texts in
    c.in_ok-rest.ensures.read (choice_read s) (λ o. text_wanted [] s) (refl, λ t. refl, λ t. refl)
    ∙ c.in_ok-first.ensures.read (text_wanted [] s) (λ x. TextsOpen (x.value ∷ []) s)
    (refl, λ t. refl, λ t. refl) ∙ ap (λ v. run c.in_ok-first.rest.now (TextsOpen v s)) (sym e)
    ∙ r.ensures.read s ∙ ap (λ v. run r.rest.now (HasHead v [] s))
    (sym c.make_choice.ensures.seen)
