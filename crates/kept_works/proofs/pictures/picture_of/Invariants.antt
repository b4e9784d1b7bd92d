use Rattle.std.proofs.Common.{◌≡◌, take}
use Rattle.engine_turns.specs.States.{pictured}
use Rattle.kept_works.proofs.pictures.picture_of.Given as goal

abbrev pub invariant-loop-file : goal.invariant-loop-file
invariant-loop-file l = l.picture ≡ pictured (take l.file-index l.files)
