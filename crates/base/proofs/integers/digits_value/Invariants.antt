use Rattle.std.proofs.Common.{◌≡◌, take}
use Rattle.base.specs.Integers.{digits_value, saturated}
use Rattle.base.proofs.integers.digits_value.Given as goal

abbrev pub invariant-loop-digit : goal.invariant-loop-digit
invariant-loop-digit l = l.number ≡ saturated (digits_value l.base (take l.digit-index l.digits))
