use Rattle.std.proofs.Common.{◌≡◌, ◌++◌, map, drop}
use Rattle.engine_rows.specs.Storing.{kept_file}
use Rattle.engine_rows.proofs.storing.kept_files.Given as goal

abbrev pub invariant-loop-file : goal.invariant-loop-file
invariant-loop-file l = l.made.items ++ map kept_file (drop l.file-index l.files)
    ≡ map kept_file l.files
