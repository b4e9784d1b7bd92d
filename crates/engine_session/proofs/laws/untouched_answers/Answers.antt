use Rattle.engine_session.proofs.Untouched.{leaves_rest}
use Rattle.engine_session.proofs.laws.untouched_answers.Goals as goal

pub returns : goal.returns
returns g c = λ dirs limits few. leaves_rest (g.R.Runner.meaning dirs limits) dirs
    (g.met.R.Runner.laws dirs limits) (g.met.R.Runner.looks dirs limits) few
