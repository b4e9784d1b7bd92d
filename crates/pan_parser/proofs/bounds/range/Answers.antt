use Rattle.std.proofs.Common.{◌∙◌, Some}
use Rattle.std.proofs.lemmas.Result.{err_from_is_err_and}
use Rattle.pan_parser.proofs.Turns.{fails_along}
use Rattle.pan_parser.proofs.TypeTurns.{a_range}
use Rattle.pan_parser.proofs.bounds.range.Goals as goal

pub returns-in_err-bounds-clause-read : goal.returns-in_err-bounds-clause-read
returns-in_err-bounds-clause-read c = λ k next q.
    let p = err_from_is_err_and c.from_residual.result c.from_residual.ensures.1 in
    rw (p.1, p.2) (fails_along c.in_err-bounds.field-0.0 _ _
    (a_range c.args.tokens.now c.args.sign k next q c.in_default.ensures)
    (c.in_err-bounds.ensures.read k (λ b. next (Some b)) q))

pub returns-clause-read : goal.returns-clause-read
returns-clause-read c = λ k next q.
    a_range c.args.tokens.now c.args.sign k next q c.in_default.ensures
    ∙ c.in_ok-bounds.ensures.read k (λ b. next (Some b)) q
