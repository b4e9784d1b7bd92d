use Rattle.format_laws.proofs.Formatting.{settled_again}
use Rattle.format_laws.proofs.laws.formatting_settles.Goals as goal

pub returns : goal.returns
returns c = settled_again
