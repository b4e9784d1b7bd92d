use Rattle.template_meaning.proofs.OfObjects.{object_work}
use Rattle.template_meaning.proofs.laws.work_at_once.Goals as goal

pub returns : goal.returns
returns c = object_work
