use Rattle.std.proofs.Common.{◌≡◌, ◌+◌, ◌==◌, drop}
use Rattle.std.specs.List.{position_or_len}
use Rattle.fault_notes.proofs.fault.place_of.Given as goal

abbrev pub invariant-loop-each : goal.invariant-loop-each
invariant-loop-each l = (l.place ≡ l.each-index)
    × (l.place + position_or_len (λ c. c == l.byte) (drop l.each-index l.text)
    ≡ position_or_len (λ c. c == l.byte) l.text)
