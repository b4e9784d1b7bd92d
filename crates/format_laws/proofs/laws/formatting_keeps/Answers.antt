use Rattle.format_laws.proofs.Formatting.{formatting_kept}
use Rattle.format_laws.proofs.laws.formatting_keeps.Goals as goal

pub returns : goal.returns
returns c = formatting_kept
