use Rattle.rebuild.proofs.RoundLaws.{are_rounds}
use Rattle.rebuild.proofs.laws.rounds.Goals as goal

pub returns : goal.returns
returns g c = λ dirs limits. are_rounds (g.R.Runner.meaning dirs limits)
    (g.met.R.Runner.laws dirs limits)
