use Rattle.std.proofs.Common.{◌≡◌, ◌++◌, drop}
use Rattle.format_files.specs.Layouts.{layouts, lines}
use Rattle.format_files.proofs.laying_out.lay_out_files.Given as goal

abbrev pub invariant-loop-file : goal.invariant-loop-file
invariant-loop-file l = (l.wants.items ++ layouts (drop l.file-index l.files) ≡
    l.initial.wants.items ++ layouts l.files)
    × (l.report.items ++ lines (drop l.file-index l.files) ≡ l.initial.report.items ++ lines
    l.files)
