use Rattle.std.proofs.Common.{◌≡◌, drop}
use Rattle.end_notes.specs.Scan.{wrong_option}
use Rattle.end_notes.proofs.scan.wrong_option.Given as goal

abbrev pub invariant-loop-i : goal.invariant-loop-i
invariant-loop-i l = wrong_option (drop l.i l.words) ≡ wrong_option l.words
