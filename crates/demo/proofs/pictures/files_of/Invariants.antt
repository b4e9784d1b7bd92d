use Rattle.std.proofs.Common.{◌≡◌, ◌++◌, drop, map}
use Rattle.demo.specs.Pictures.{file_of}
use Rattle.demo.proofs.pictures.files_of.Given as goal

abbrev pub invariant-loop-file : goal.invariant-loop-file
invariant-loop-file l = l.made.items ++ map file_of (drop l.file-index l.files)
    ≡ map file_of l.files
