use Rattle.std.proofs.Common.{◌≡◌, ◌-◌}
use Rattle.fault_notes.specs.Excerpts.{behind_lines}
use Rattle.fault_notes.proofs.excerpt.behind_lines.Given as goal

abbrev pub invariant-loop : goal.invariant-loop
invariant-loop l = behind_lines (l.count - l.counter) l.rest ≡ behind_lines l.count l.text
