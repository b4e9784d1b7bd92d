use Rattle.std.proofs.Common.{◌≡◌, drop}
use Rattle.std.specs.Str.{chars, IsUtf8}
use Rattle.builtins_tree.specs.Searches.{found_text}
use Rattle.builtins_tree.proofs.searching.found_text.Given as goal

abbrev pub invariant-loop-place : goal.invariant-loop-place
invariant-loop-place l =
    IsUtf8 l.rest × (chars l.rest ≡ drop l.place (chars l.text))
    × (found_text l.wanted l.place (drop l.place (chars l.text))
    ≡ found_text l.wanted l.start (drop l.start (chars l.text)))
