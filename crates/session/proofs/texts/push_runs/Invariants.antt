use Rattle.std.proofs.Common.{◌≡◌, ◌++◌, take}
use Rattle.std.specs.Prelude.{flat_map}
use Rattle.session.specs.Texts.{run_line}
use Rattle.session.proofs.texts.push_runs.Given as goal

abbrev pub invariant-loop-name : goal.invariant-loop-name
invariant-loop-name l = l.text.items ≡ l.fn.text.items
    ++ flat_map run_line (take l.name-index l.runs)
