use Rattle.std.proofs.Common.{◌≡◌, take}
use Rattle.read_sets.specs.Items.{pairs_of}
use Rattle.fault_causes.specs.Missed.{missed_files}
use Rattle.fault_causes.proofs.missed.missed_files.Given as goal

abbrev pub invariant-loop-item : goal.invariant-loop-item
invariant-loop-item l = l.files.items ≡ missed_files l.name (pairs_of (take l.item-index l.items))
