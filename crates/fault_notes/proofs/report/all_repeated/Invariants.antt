use Rattle.std.proofs.Common.{◌≡◌, take, map}
use Rattle.fault_notes.specs.Reports.{with_objects}
use Rattle.fault_notes.proofs.report.all_repeated.Given as goal

abbrev pub invariant-loop-fault : goal.invariant-loop-fault
invariant-loop-fault l = l.told.items ≡ map (with_objects l.lines) (take l.fault-index l.faults)
