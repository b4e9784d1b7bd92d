use Rattle.std.proofs.Common.{◌≡◌, ◌++◌, drop}
use Rattle.rebuild.specs.Answers.{run_names}
use Rattle.rebuild.proofs.answers.runs_in.Given as goal

abbrev pub invariant-loop-row : goal.invariant-loop-row
invariant-loop-row g l = l.made.items ++ run_names (drop l.row-index l.rows) ≡ run_names l.rows
