use Rattle.std.proofs.Common.{◌≡◌, ℕ, ◌++◌, List, length}
use denote.Shadow.{shadow}
use denote.Text.{Utf8}
use Rattle.regex.specs.Strings.{regex_names}
use Rattle.regex.specs.Templates.{written_after}
use Rattle.builtins_patterns.specs.Parts.{written}
use Rattle.builtins_patterns.proofs.template.parts.Given as goal

abbrev pub invariant-loop-before : goal.invariant-loop-before
invariant-loop-before l =
    shadow (Utf8 l.rest)
    × ((groups : ℕ → List ℕ) → written groups l.parts.items
    ++ written_after (regex_names l.fn.pattern) groups l.rest 0
    ≡ written_after (regex_names l.fn.pattern) groups l.fn.template 0)

abbrev pub decreases-loop-before : goal.decreases-loop-before
decreases-loop-before l = length l.rest
