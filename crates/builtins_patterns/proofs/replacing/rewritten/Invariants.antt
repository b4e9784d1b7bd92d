use Rattle.std.proofs.Common.{◌≡◌, ◌+◌, ◌-◌, length}
use Rattle.regex.specs.Strings.{matcher_names, matcher_pattern, regex_pattern}
use Rattle.builtins_patterns.proofs.Rewriting.{GoesOn}
use Rattle.builtins_patterns.proofs.replacing.rewritten.Given as goal

abbrev pub invariant-loop-draft : goal.invariant-loop-draft
invariant-loop-draft l =
    (matcher_pattern l.matcher ≡ regex_pattern l.fn.pattern)
    × GoesOn (regex_pattern l.fn.pattern) l.parts.items l.fn.text l.draft l.after
    × (matcher_names l.matcher ≡ matcher_names l.fn.matcher)

abbrev pub decreases-loop-draft : goal.decreases-loop-draft
decreases-loop-draft l = length l.fn.text + 1 - l.after
