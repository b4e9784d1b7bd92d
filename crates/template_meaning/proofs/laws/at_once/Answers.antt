use Rattle.template_meaning.proofs.OfObjects.{object_ran}
use Rattle.template_meaning.proofs.laws.at_once.Goals as goal

pub returns : goal.returns
returns c = object_ran
