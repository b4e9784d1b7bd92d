use Rattle.std.proofs.Common.{◌≡◌, ℕ, List, length}
use denote.Shadow.{shadow}
use denote.Text.{Utf8}
use Rattle.call_values.specs.Drafts.{drafted}
use Rattle.builtins_text.specs.Formats.{before, formatted}
use Rattle.builtins_text.proofs.formatting.format_text.Given as goal

-- the text so far, and what is still to be written, are the whole
abbrev pub invariant-loop-plain : goal.invariant-loop-plain
invariant-loop-plain l =
    shadow (Utf8 l.rest) × ((made : List ℕ) × (l.draft ≡ drafted made)
    × (before made (formatted l.rest l.left) ≡ formatted l.text l.values))

abbrev pub decreases-loop-plain : goal.decreases-loop-plain
decreases-loop-plain l = length l.rest
