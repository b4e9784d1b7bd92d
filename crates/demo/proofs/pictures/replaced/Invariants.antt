use Rattle.std.proofs.Common.{◌≡◌, ◌++◌, drop}
use Rattle.demo.specs.Pictures.{replaced}
use Rattle.demo.proofs.pictures.replaced.Given as goal

abbrev pub invariant-loop-file : goal.invariant-loop-file
invariant-loop-file l = l.made.items ++ replaced l.name l.text (drop l.file-index l.files.items)
    ≡ replaced l.name l.text l.files.items
