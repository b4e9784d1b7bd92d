use Rattle.object_names.proofs.Candidates.{found_first, found_next, found_last}
use Rattle.object_names.proofs.objects.Goals as goal

pub loop-dir-init : goal.loop-dir-init
loop-dir-init c = found_first c.args.picture.now c.args.dirs.now _ c.new-names.ensures.items
