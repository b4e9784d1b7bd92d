use Rattle.object_meaning.proofs.BothLawful.{is_lawful}
use Rattle.object_meaning.proofs.laws.lawful.Goals as goal

pub returns : goal.returns
returns c = is_lawful
