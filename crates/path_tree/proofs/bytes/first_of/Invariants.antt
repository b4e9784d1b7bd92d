use Rattle.std.proofs.Common.{◌≡◌, drop}
use Rattle.path_tree.specs.Paths.{first_of}
use Rattle.path_tree.proofs.Splits.{later}
use Rattle.path_tree.proofs.bytes.first_of.Given as goal

abbrev pub invariant-loop-i : goal.invariant-loop-i
invariant-loop-i l = later l.i (first_of l.a l.b (drop l.i l.text)) ≡ first_of l.a l.b l.text
