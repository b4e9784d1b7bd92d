use Rattle.std.proofs.Common.{◌≡◌, ◌++◌, take}
use Rattle.std.specs.Prelude.{flat_map}
use Rattle.fault_notes.specs.Printed.{json_line}
use Rattle.fault_notes.proofs.printed.push_all_json.Given as goal

abbrev pub invariant-loop-explained : goal.invariant-loop-explained
invariant-loop-explained l =
    l.into.items ≡ l.fn.into.items ++ flat_map json_line (take l.explained-index l.faults)
