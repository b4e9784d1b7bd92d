use Rattle.template_meaning.proofs.OfObjects.{object_laws}
use Rattle.template_meaning.proofs.laws.statements.Goals as goal

pub returns : goal.returns
returns c = object_laws
