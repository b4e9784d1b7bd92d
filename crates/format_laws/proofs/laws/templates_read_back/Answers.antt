use Rattle.format_laws.proofs.Settled.{chosen_read_back}
use Rattle.format_laws.proofs.laws.templates_read_back.Goals as goal

pub returns : goal.returns
returns c = chosen_read_back
