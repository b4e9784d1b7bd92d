use Rattle.std.proofs.Common.{◌≡◌, drop}
use Rattle.end_notes.specs.Scan.{has_state}
use Rattle.end_notes.proofs.scan.has_state.Given as goal

abbrev pub invariant-loop-word : goal.invariant-loop-word
invariant-loop-word l = has_state (drop l.word-index l.words) ≡ has_state l.words
