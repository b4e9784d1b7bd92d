use Rattle.std.proofs.Common.{◌≡◌, ◌+◌, ◌*◌, ◌≤◌, drop}
use Rattle.rebuild.specs.Answers.{open_parts}
use Rattle.rebuild.proofs.answers.open_parts.Given as goal

-- what is counted, and what is left to count
abbrev pub invariant-loop-row : goal.invariant-loop-row
invariant-loop-row g l = record {
  counted : l.open + open_parts (drop l.row-index l.rows) ≡ open_parts l.rows;
  few : l.open ≤ 2 * l.row-index;
}
