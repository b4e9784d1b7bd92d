use Rattle.std.proofs.Common.{◌≡◌, ◌++◌, drop}
use Rattle.end_notes.specs.Scan.{places_from, places_in}
use Rattle.end_notes.proofs.scan.places_in.Given as goal

abbrev pub invariant-loop-i : goal.invariant-loop-i
invariant-loop-i l = l.places.items ++ places_from l.next (drop l.i l.words) ≡ places_in l.words
