use Rattle.std.proofs.Common.{◌≡◌, ◌+◌, drop, false}
use Rattle.path_tree.specs.Reading.{piece_length}
use Rattle.path_tree.proofs.path.piece_end.Given as goal

abbrev pub invariant-loop-i : goal.invariant-loop-i
invariant-loop-i l = piece_length l.inside (drop l.i l.text) + l.i ≡ piece_length false l.text
