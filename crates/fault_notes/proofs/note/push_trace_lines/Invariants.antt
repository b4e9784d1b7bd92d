use Rattle.std.proofs.Common.{◌≡◌, ◌++◌, take}
use Rattle.std.specs.Prelude.{flat_map}
use Rattle.fault_notes.specs.Notes.{trace_line}
use Rattle.fault_notes.proofs.note.push_trace_lines.Given as goal

abbrev pub invariant-loop-origin : goal.invariant-loop-origin
invariant-loop-origin l = l.into.items ≡ l.fn.into.items
    ++ flat_map (trace_line l.colours l.fault) (take l.origin-index l.origins)
