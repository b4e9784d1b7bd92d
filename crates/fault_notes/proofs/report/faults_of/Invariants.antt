use Rattle.std.proofs.Common.{◌≡◌, take}
use Rattle.fault_notes.specs.Reports.{faults_of}
use Rattle.fault_notes.proofs.report.faults_of.Given as goal

abbrev pub invariant-loop-line : goal.invariant-loop-line
invariant-loop-line l = l.faults.items ≡ faults_of (take l.line-index l.lines)
