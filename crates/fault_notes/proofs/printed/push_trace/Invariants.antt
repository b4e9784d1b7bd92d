use Rattle.std.proofs.Common.{◌≡◌, ◌++◌, take}
use Rattle.std.specs.Prelude.{flat_map}
use Rattle.fault_notes.specs.Printed.{reached_note}
use Rattle.fault_notes.proofs.printed.push_trace.Given as goal

abbrev pub invariant-loop-origin : goal.invariant-loop-origin
invariant-loop-origin l =
    l.into.items ≡ l.fn.into.items ++ flat_map reached_note (take l.origin-index l.origins)
