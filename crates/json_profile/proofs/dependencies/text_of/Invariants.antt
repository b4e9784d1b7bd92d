use Rattle.std.proofs.Common.{◌≡◌, ◌++◌}
use Rattle.std.specs.Prelude.{flat_map}
use Rattle.json_profile.specs.Dependencies.{with_feed}
use Rattle.json_profile.proofs.dependencies.text_of.Given as goal

abbrev pub invariant-loop-line : goal.invariant-loop-line
invariant-loop-line l = l.text.items ++ flat_map with_feed l.line-iterator
    ≡ flat_map with_feed l.fn.lines.keys
