use Rattle.kept_works.proofs.Nothing.{nothing_sound}
use Rattle.kept_works.proofs.laws.nothing_kept.Goals as goal

pub returns : goal.returns
returns g c = nothing_sound g.R.Runner.meaning g.met.R.Runner.laws
