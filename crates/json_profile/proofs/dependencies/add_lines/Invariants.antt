use Rattle.std.proofs.Common.{◌≡◌, fold, drop}
use Rattle.read_sets.specs.Items.{pairs_of}
use Rattle.json_profile.specs.Dependencies.{with_line}
use Rattle.json_profile.proofs.dependencies.add_lines.Given as goal

abbrev pub invariant-loop-item : goal.invariant-loop-item
invariant-loop-item l = fold with_line l.lines.keys (pairs_of (drop l.item-index l.items))
    ≡ fold with_line l.fn.lines.keys (pairs_of l.items)
