use Rattle.object_names.proofs.Adding.{AddedTo}
use Rattle.object_names.proofs.add_files.Given as goal

abbrev pub invariant-loop-file : goal.invariant-loop-file
invariant-loop-file l = AddedTo l.picture l.dirs l.file-index l.front l.fn.names.items l.names.items
