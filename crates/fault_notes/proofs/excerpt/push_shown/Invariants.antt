use Rattle.std.proofs.Common.{◌≡◌, ◌++◌, take, map}
use Rattle.fault_notes.specs.Excerpts.{shown_byte}
use Rattle.fault_notes.proofs.excerpt.push_shown.Given as goal

abbrev pub invariant-loop-byte : goal.invariant-loop-byte
invariant-loop-byte l = l.into.items ≡ l.initial.into.items
    ++ map shown_byte (take l.byte-index l.text)
