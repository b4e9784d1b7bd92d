use Rattle.std.proofs.Common.{◌≡◌, take}
use Rattle.fault_notes.specs.Reports.{objects_with}
use Rattle.fault_notes.proofs.report.objects_with.Given as goal

abbrev pub invariant-loop-line : goal.invariant-loop-line
invariant-loop-line l = l.objects.items ≡ objects_with (take l.line-index l.lines) l.fault
