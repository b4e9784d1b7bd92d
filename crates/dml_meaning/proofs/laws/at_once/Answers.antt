use Rattle.dml_meaning.proofs.Evaluated.{item_ran}
use Rattle.dml_meaning.proofs.laws.at_once.Goals as goal

pub returns : goal.returns
returns c = item_ran
