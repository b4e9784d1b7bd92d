use Rattle.std.proofs.Common.{◌∙◌, rules, neg_ℤ, sym, refl, ap}
use Rattle.std.proofs.lemmas.Result.{err_from_is_err_and}
use Rattle.std.proofs.lemmas.Int.{to_z-of_z}
use mir.Val.{SFits}
use mir.Syntax.{w64}
use Rattle.pan_grammar.specs.Grammar.{number}
use Rattle.pan_grammar.specs.Machine.{minus_read, run}
use Rattle.pan_grammar.specs.States.{AnInt, Takes}
use Rattle.pan_parser.proofs.Turns.{fails_along}
use Rattle.pan_parser.proofs.TypeTurns.{int_wanted, minus_turns}
use Rattle.pan_parser.proofs.bounds.signed.Goals as goal

pub returns-in_err-number-clause-read : goal.returns-in_err-number-clause-read
returns-in_err-number-clause-read c = λ next.
    let p = err_from_is_err_and c.from_residual.result c.from_residual.ensures.1 in
    rw (p.1, p.2) (fails_along c.in_err-number.field-0.0 _ _
    (int_wanted c.args.tokens.now next c.in_default.ensures)
    (c.in_err-number.ensures.read (Takes AnInt (λ t. next (number t))) (λ t. next (number t))
    (refl, λ t. refl, λ t. refl)))

pub returns-in_default-clause-read : goal.returns-in_default-clause-read
returns-in_default-clause-read c = λ next.
    let f : SFits w64 c.long.result = search rules in
    int_wanted c.args.tokens.now next c.in_default.ensures
    ∙ c.in_ok-number.ensures.read (Takes AnInt (λ t. next (number t))) (λ t. next (number t))
    (refl, λ t. refl, λ t. refl) ∙ ap (λ v. run c.in_ok-number.rest.now (next v))
    (sym (to_z-of_z w64 c.long.result f ∙ c.long.ensures))

pub returns-in_err-number-2-clause-read : goal.returns-in_err-number-2-clause-read
returns-in_err-number-2-clause-read c = λ next.
    let p = err_from_is_err_and c.from_residual-in_err-number-2.result
    c.from_residual-in_err-number-2.ensures.1 in
    rw (p.1, p.2) (fails_along c.in_err-number-2.field-0.0 _ _
    (minus_turns c.args.tokens.now c.in-Some.after.now next c.in-Some.ensures)
    (c.in_err-number-2.ensures.read (minus_read next) (λ t. next (neg_ℤ (number t)))
    (refl, λ t. refl, λ t. refl)))

pub returns-clause-read : goal.returns-clause-read
returns-clause-read c = λ next.
    let r = c.in_ok-number-2 in
    let f : SFits w64 c.negative.result = search rules in
    minus_turns c.args.tokens.now c.in-Some.after.now next c.in-Some.ensures
    ∙ r.ensures.read (minus_read next) (λ t. next (neg_ℤ (number t)))
    (refl, λ t. refl, λ t. refl) ∙ ap (λ v. run r.rest.now (next v))
    (sym (to_z-of_z w64 c.negative.result f ∙ c.negative.ensures))
