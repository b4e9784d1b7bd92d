use Rattle.std.proofs.Common.{◌≡◌, drop}
use Rattle.demo.specs.Reports.{last_line}
use Rattle.demo.proofs.Lasting.{line_from}
use Rattle.demo.proofs.report.last_line.Given as goal

abbrev pub invariant-loop-i : goal.invariant-loop-i
invariant-loop-i l = line_from l.line (drop l.i l.text) ≡ last_line l.text
