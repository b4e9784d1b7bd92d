use Rattle.engine_session.proofs.RoundsOf.{has_rounds}
use Rattle.engine_session.proofs.laws.session_rounds.Goals as goal

pub returns : goal.returns
returns g c = λ dirs limits. has_rounds (g.R.Runner.meaning dirs limits)
    (g.met.R.Runner.laws dirs limits) dirs
