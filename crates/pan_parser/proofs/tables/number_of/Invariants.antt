use Rattle.std.proofs.Common.{◌≡◌, ◌+◌, ◌-◌, ◌*◌, ◌^◌, min, take, fold}
use Rattle.pan_parser.proofs.tables.number_of.Given as goal

abbrev pub invariant-loop-digit : goal.invariant-loop-digit
invariant-loop-digit l =
    l.number ≡ min (fold (λ n c. 10 * n + (c - 48)) 0 (take l.digit-index l.digits)) (2 ^ 64 - 1)
