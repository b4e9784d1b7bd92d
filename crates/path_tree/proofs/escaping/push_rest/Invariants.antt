use Rattle.std.proofs.Common.{◌≡◌, ◌++◌, drop, string_bytes}
use Rattle.path_tree.specs.Escape.{escape_rest}
use Rattle.path_tree.proofs.escaping.push_rest.Given as goal

abbrev pub invariant-loop-byte : goal.invariant-loop-byte
invariant-loop-byte l = string_bytes l.key ++ escape_rest (drop l.byte-index l.bytes)
    ≡ string_bytes l.fn.key ++ escape_rest l.bytes
