use Rattle.std.proofs.Common.{◌≡◌, ◌∙◌, ◌∷◌, ◌+◌, [], Some, ap, drop, get_or, arith}
use Rattle.std.proofs.lemmas.Grind.{common_steps}
use Rattle.command_words.specs.Commands.{within}
use Rattle.command_words.specs.declared.limits.TheConstants.{MAX_START}
use Rattle.command_words.proofs.Digits.{too_large}
use Rattle.command_words.proofs.commands.exact_value.Goals as goal

pub returns-in_default : goal.returns-in_default
returns-in_default c =
    let split : drop c.loop-digit.digit-index c.args.digits.now
    ≡ get_or c.args.digits.now c.loop-digit.digit-index 0 ∷ drop (c.loop-digit.digit-index + 1)
    c.args.digits.now = grind (arith, common_steps, c.loop-digit-test.true) in
    too_large c.loop-digit.number _ _ _ _ split c.loop-digit.invariant c.in_default.ensures

pub returns : goal.returns
returns c =
    let done : drop c.loop-digit.digit-index c.args.digits.now ≡ [] =
    grind (arith, common_steps, c.loop-digit-test.false) in
    c.start.ensures ∙ ap (λ n. within 0 MAX_START (Some n)) (rw done at c.loop-digit.invariant)
