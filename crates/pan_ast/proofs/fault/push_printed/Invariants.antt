use Rattle.std.proofs.Common.{◌≡◌, ◌++◌, drop}
use Rattle.pan_ast.specs.Printed.{printed}
use Rattle.pan_ast.proofs.fault.push_printed.Given as goal

abbrev pub invariant-loop-byte : goal.invariant-loop-byte
invariant-loop-byte l = l.line.items ++ printed (drop l.byte-index l.bytes) ≡ l.fn.line.items
    ++ printed l.bytes
