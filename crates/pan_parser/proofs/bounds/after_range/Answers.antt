use Rattle.std.proofs.Common.{◌∙◌, rules, sym, refl, ap, Some}
use Rattle.std.proofs.lemmas.Result.{err_from_is_err_and}
use Rattle.std.proofs.lemmas.Int.{to_z-of_z}
use mir.Val.{SFits}
use mir.Syntax.{w64}
use Rattle.pan_grammar.specs.Machine.{high_read, run}
use Rattle.pan_grammar.specs.Types.{bounds}
use Rattle.pan_parser.proofs.Turns.{fails_along}
use Rattle.pan_parser.proofs.TypeTurns.{high_needed}
use Rattle.pan_parser.proofs.bounds.after_range.Goals as goal

pub returns-in_err-high-clause-read : goal.returns-in_err-high-clause-read
returns-in_err-high-clause-read c = λ k next q.
    let p = err_from_is_err_and c.from_residual-in_err-high.result
    c.from_residual-in_err-high.ensures.1 in
    let w = c.args.sign in
    let b = c.args.place.now in
    let n = c.args.low in
    rw (p.1, p.2) (fails_along c.in_err-high.field-0.0 _ _
    (high_needed c.args.tokens.now w k b n next q c.in_default.ensures)
    (c.in_err-high.ensures.read (high_read k b n next)))

pub returns-in_err-rest-clause-read : goal.returns-in_err-rest-clause-read
returns-in_err-rest-clause-read c = λ k next q.
    let p = err_from_is_err_and c.from_residual-in_err-rest.result
    c.from_residual-in_err-rest.ensures.1 in
    let w = c.args.sign in
    let b = c.args.place.now in
    let n = c.args.low in
    let m = c.in_ok-high.high in
    rw (p.1, p.2) (fails_along c.in_err-rest.field-0.0 _ _
    (high_needed c.args.tokens.now w k b n next q c.in_default.ensures
    ∙ c.in_ok-high.ensures.read (high_read k b n next))
    (c.in_err-rest.ensures.read (high_read k b n next m)
    (λ t. next (bounds b (Some n) (Some m))) (refl, λ t. rw q refl, λ t. refl)))

pub returns-clause-read : goal.returns-clause-read
returns-clause-read c = λ k next q.
    let w = c.args.sign in
    let b = c.args.place.now in
    let n = c.args.low in
    let m = c.in_ok-high.high in
    let fm : SFits w64 m = search rules in
    let fn : SFits w64 n = search rules in
    let em = to_z-of_z w64 m fm in
    let en = to_z-of_z w64 n fn in
    let made = rw (em, en) at c.in_ok-make_bounds-2.ensures in
    high_needed c.args.tokens.now w k b n next q c.in_default.ensures
    ∙ c.in_ok-high.ensures.read (high_read k b n next)
    ∙ c.in_ok-rest.ensures.read (high_read k b n next m)
    (λ t. next (bounds b (Some n) (Some m))) (refl, λ t. rw q refl, λ t. refl)
    ∙ ap (λ v. run c.in_ok-rest.rest.now (next v)) (sym made)
