use Rattle.blamed_works.proofs.Profiled.{tells_profile}
use Rattle.blamed_works.proofs.laws.told_profiles.Goals as goal

pub returns : goal.returns
returns g c = λ dirs limits files objects o tree is.
    let m = g.R.Runner.meaning dirs limits in
    tells_profile m (g.met.R.Runner.laws dirs limits)
    (g.met.R.Runner.logged dirs limits) files objects o tree is
