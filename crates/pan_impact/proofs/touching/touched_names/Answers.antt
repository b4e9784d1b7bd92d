use Rattle.pan_impact.proofs.Listed.{are_touched}
use Rattle.pan_impact.proofs.touching.touched_names.Goals as goal

pub returns : goal.returns
returns c = are_touched
