use Rattle.object_names.proofs.Candidates.{FoundTo}
use Rattle.object_names.proofs.objects.Given as goal

abbrev pub invariant-loop-dir : goal.invariant-loop-dir
invariant-loop-dir l = FoundTo l.picture l.dirs l.dir-index l.names.items
