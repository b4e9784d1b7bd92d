use Rattle.std.proofs.Common.{OnOk, option_map, sym, subst}
use Rattle.kept_state.specs.Stored.{stored}
use Rattle.engine_session.specs.Standing.{IsBegun}
use Rattle.kept_works.specs.Kept.{IsSoundFor}
use Rattle.kept_works.proofs.beginning.begin.Goals as goal

pub returns-in-Some-clause-begun : goal.returns-in-Some-clause-begun
returns-in-Some-clause-begun g c =
    let works = c.begin_from.new.works in
    let means = g.R.Runner.meaning in
    subst (λ kept. OnOk c.begin_from.result (IsSoundFor means c.args.dirs.now c.args.limits
    (option_map stored kept) → IsBegun means works)) (sym c.in-Some.is)
    c.begin_from.ensures.begun
