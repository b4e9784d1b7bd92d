use Rattle.dml_meaning.proofs.Evaluated.{item_work}
use Rattle.dml_meaning.proofs.laws.work_at_once.Goals as goal

pub returns : goal.returns
returns c = item_work
