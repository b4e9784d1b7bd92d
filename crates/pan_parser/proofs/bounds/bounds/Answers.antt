use Rattle.std.proofs.Common.{◌∙◌, rules, sym, refl, ap, Some, None}
use Rattle.std.proofs.lemmas.Result.{err_from_is_err_and}
use Rattle.std.proofs.lemmas.Int.{to_z-of_z}
use mir.Val.{SFits}
use mir.Syntax.{w64}
use Rattle.pan_grammar.specs.Machine.{run}
use Rattle.pan_grammar.specs.States.{Closes, HasLow, Takes}
use Rattle.pan_grammar.specs.Types.{bounds}
use Rattle.pan_parser.proofs.Turns.{fails_along, goes_along}
use Rattle.pan_parser.proofs.TypeTurns.{low_first, range_first}
use Rattle.pan_parser.proofs.bounds.bounds.Goals as goal

pub returns-in_err-low-clause-read : goal.returns-in_err-low-clause-read
returns-in_err-low-clause-read c = λ k next q.
    let p = err_from_is_err_and c.from_residual.result c.from_residual.ensures.1 in
    let w = c.args.sign in
    let b = c.in-Some.first.now.place in
    rw (p.1, p.2) (fails_along c.in_err-low.field-0.0 _ _
    (low_first c.args.tokens.now c.in-Some.field-0-1.now c.in-Some.first.now k next
    c.in-Some.ensures c.in_default-next_is.ensures)
    (c.in_err-low.ensures.read (λ n. HasLow k b n next)))

pub returns-in_default-next_is-clause-read : goal.returns-in_default-next_is-clause-read
returns-in_default-next_is-clause-read c = λ k next q.
    let w = c.args.sign in
    let b = c.in-Some.first.now.place in
    let n = c.in_ok-low.low in
    let f : SFits w64 n = search rules in
    let e = to_z-of_z w64 n f in
    goes_along c.after_low.result _ _ _ (low_first c.args.tokens.now c.in-Some.field-0-1.now
    c.in-Some.first.now k next c.in-Some.ensures c.in_default-next_is.ensures
    ∙ c.in_ok-low.ensures.read (λ n. HasLow k b n next)
    ∙ ap (λ v. run c.in_ok-low.rest.now (HasLow k b v next)) (sym e))
    (rw c.place.ensures at c.after_low.ensures.read k next q)

pub returns-in_err-high-clause-read : goal.returns-in_err-high-clause-read
returns-in_err-high-clause-read c = λ k next q.
    let p = err_from_is_err_and c.from_residual-in_err-high.result
    c.from_residual-in_err-high.ensures.1 in
    let w = c.args.sign in
    let b = c.in-Some.first.now.place in
    rw (p.1, p.2) (fails_along c.in_err-high.field-0.0 _ _
    (range_first c.args.tokens.now c.in-Some.field-0-1.now c.in-Some-next_is.after.now
    c.in-Some.first.now k next c.in-Some.ensures c.in-Some-next_is.ensures)
    (c.in_err-high.ensures.read (λ n. Takes (Closes k) (λ t. next (bounds b None (Some n))))))

pub returns-in_err-rest-clause-read : goal.returns-in_err-rest-clause-read
returns-in_err-rest-clause-read c = λ k next q.
    let p = err_from_is_err_and c.from_residual-in_err-rest.result
    c.from_residual-in_err-rest.ensures.1 in
    let w = c.args.sign in
    let b = c.in-Some.first.now.place in
    let m = c.in_ok-high.high in
    rw (p.1, p.2) (fails_along c.in_err-rest.field-0.0 _ _
    (range_first c.args.tokens.now c.in-Some.field-0-1.now c.in-Some-next_is.after.now
    c.in-Some.first.now k next c.in-Some.ensures c.in-Some-next_is.ensures
    ∙ c.in_ok-high.ensures.read (λ n. Takes (Closes k) (λ t. next (bounds b None (Some n)))))
    (c.in_err-rest.ensures.read (Takes (Closes k) (λ t. next (bounds b None (Some m))))
    (λ t. next (bounds b None (Some m))) (refl, λ t. rw q refl, λ t. refl)))

pub returns-clause-read : goal.returns-clause-read
returns-clause-read c = λ k next q.
    let w = c.args.sign in
    let b = c.in-Some.first.now.place in
    let m = c.in_ok-high.high in
    let f : SFits w64 m = search rules in
    let e = to_z-of_z w64 m f in
    let made = rw (e, c.place-2.ensures) at c.in_ok-make_bounds.ensures in
    range_first c.args.tokens.now c.in-Some.field-0-1.now c.in-Some-next_is.after.now
    c.in-Some.first.now k next c.in-Some.ensures c.in-Some-next_is.ensures
    ∙ c.in_ok-high.ensures.read (λ n. Takes (Closes k) (λ t. next (bounds b None (Some n))))
    ∙ c.in_ok-rest.ensures.read (Takes (Closes k) (λ t. next (bounds b None (Some m))))
    (λ t. next (bounds b None (Some m))) (refl, λ t. rw q refl, λ t. refl)
    ∙ ap (λ v. run c.in_ok-rest.rest.now (next v)) (sym made)
