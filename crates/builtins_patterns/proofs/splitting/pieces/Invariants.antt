use Rattle.std.proofs.Common.{◌≡◌, ◌+◌, ◌-◌, ◌++◌, length}
use Rattle.regex.specs.Patterns.{find_all_str}
use Rattle.regex.specs.Strings.{matcher_names, matcher_pattern}
use Rattle.builtins_patterns.specs.Calls.{cuts, pieces_of}
use Rattle.builtins_patterns.proofs.Cutting.{pieces_after}
use Rattle.builtins_patterns.proofs.splitting.pieces.Given as goal

abbrev pub invariant-loop-cut : goal.invariant-loop-cut
invariant-loop-cut l =
    let re = matcher_pattern l.fn.matcher in
    (l.made.items ++ pieces_after re l.fn.text l.left l.after
    ≡ pieces_of l.fn.text (cuts l.fn.limit (find_all_str re l.fn.text)))
    × (matcher_pattern l.matcher ≡ re) × (matcher_names l.matcher ≡ matcher_names l.fn.matcher)

abbrev pub decreases-loop-cut : goal.decreases-loop-cut
decreases-loop-cut l = length l.fn.text + 1 - l.after
