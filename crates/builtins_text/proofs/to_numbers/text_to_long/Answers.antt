use Rattle.std.proofs.Common.{◌∙◌}
use Rattle.builtins_text.proofs.Capped.{unsigned_is}
use Rattle.builtins_text.proofs.to_numbers.text_to_long.Goals as goal

pub returns : goal.returns
returns c =
    c.from_zero-2.ensures
    ∙ unsigned_is c.args.text.now c.in-Some.digits.now c.in-Some.sign.now c.integer_of-2.result
    c.in-Some.ensures.cases.0
    c.if-sign-eq45.false c.if-sign-eq43.false c.integer_of-2.ensures
