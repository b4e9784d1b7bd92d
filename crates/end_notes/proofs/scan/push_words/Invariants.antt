use Rattle.std.proofs.Common.{◌≡◌, ◌++◌, take}
use Rattle.end_notes.proofs.scan.push_words.Given as goal

abbrev pub invariant-loop-word : goal.invariant-loop-word
invariant-loop-word l = l.into.items ≡ l.initial.into.items ++ take l.word-index l.words
