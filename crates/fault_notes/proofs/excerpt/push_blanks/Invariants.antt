use Rattle.std.proofs.Common.{◌≡◌, ◌++◌, ◌∷◌, []}
use Rattle.std.specs.List.{repeat}
use Rattle.fault_notes.proofs.excerpt.push_blanks.Given as goal

abbrev pub invariant-loop : goal.invariant-loop
invariant-loop l = l.into.items ≡ l.initial.into.items ++ repeat l.counter (32 ∷ [])
