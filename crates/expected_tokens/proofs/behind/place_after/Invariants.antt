use Rattle.std.proofs.Common.{◌≡◌, ◌≤◌, ◌+◌, take}
use Rattle.pan_lexer.specs.Lexed.{origin, place_after}
use Rattle.expected_tokens.proofs.behind.place_after.Given as goal

abbrev pub invariant-loop-byte : goal.invariant-loop-byte
invariant-loop-byte l = (l.line ≡ (place_after origin (take l.byte-index l.bytes)).line)
    × (l.column ≡ (place_after origin (take l.byte-index l.bytes)).column)
    × (l.line ≤ l.byte-index + 1) × (l.column ≤ l.byte-index + 1)
