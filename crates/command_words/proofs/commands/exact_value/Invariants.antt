use Rattle.std.proofs.Common.{◌≡◌, ◌+◌, ◌*◌, drop, fold}
use Rattle.std.specs.Char.{digit_value}
use Rattle.base.specs.Integers.{digits_value}
use Rattle.command_words.proofs.commands.exact_value.Given as goal

abbrev pub invariant-loop-digit : goal.invariant-loop-digit
invariant-loop-digit l =
    fold (λ m digit. m * 10 + digit_value digit) l.number (drop l.digit-index l.digits)
    ≡ digits_value 10 l.digits
