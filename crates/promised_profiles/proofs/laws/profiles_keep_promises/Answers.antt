use Rattle.promised_profiles.proofs.Promised.{keeps_promise}
use Rattle.promised_profiles.proofs.laws.profiles_keep_promises.Goals as goal

pub returns : goal.returns
returns g c = λ dirs limits. keeps_promise (g.R.Runner.meaning dirs limits)
    (g.met.R.Runner.laws dirs limits) (g.met.R.Runner.by_name dirs limits)
    (g.R.Runner.promises dirs limits) (g.met.R.Runner.kept dirs limits)
