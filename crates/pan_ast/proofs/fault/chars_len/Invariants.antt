use Rattle.std.proofs.Common.{length, ◌-◌, ◌≡◌, ◌≤◌, ◌+◌, drop}
use Rattle.pan_ast.specs.Detail.{chars_len}
use Rattle.pan_ast.proofs.fault.chars_len.Given as goal

abbrev pub invariant-loop-i : goal.invariant-loop-i
invariant-loop-i l = (l.i + chars_len l.left (drop l.i l.bytes) ≡ chars_len l.most l.bytes)
    × (l.i ≤ length l.bytes)

abbrev pub decreases-loop-i : goal.decreases-loop-i
decreases-loop-i l = length l.bytes - l.i
