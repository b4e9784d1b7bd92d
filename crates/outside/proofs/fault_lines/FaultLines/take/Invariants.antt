use Rattle.std.proofs.Common.{ℕ, List, ◌++◌, take}
use Rattle.outside.specs.FaultLines.{Keeps}
use Rattle.outside.proofs.fault_lines.FaultLines.take.Given as goal

abbrev pub invariant-loop-byte : goal.invariant-loop-byte
invariant-loop-byte l = (text : List ℕ) → Keeps text l.initial.self
    → Keeps (text ++ take l.byte-index l.bytes) l.self
