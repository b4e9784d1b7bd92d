use Rattle.std.proofs.Common.{◌≡◌, ◌++◌, drop}
use Rattle.rebuild.specs.Answers.{touched_names}
use Rattle.rebuild.proofs.answers.touched_in.Given as goal

abbrev pub invariant-loop-row : goal.invariant-loop-row
invariant-loop-row g l = l.made.items ++ touched_names (drop l.row-index l.rows) ≡ touched_names l.rows
