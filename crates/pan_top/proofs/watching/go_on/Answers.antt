use Rattle.std.proofs.Common.{Some, subst}
use Rattle.engine_session.specs.Standing.{IsBegun, IsIn}
use Rattle.kept_state.specs.Stored.{stored}
use Rattle.kept_works.specs.Kept.{IsSoundFor, begun_with}
use Rattle.pan_top.proofs.watching.go_on.Goals as goal

pub returns-clause-at : goal.returns-clause-at
returns-clause-at g c =
    let core = c.begin.new.works.engine.core in
    let kept = stored c.args.kept in
    subst (λ l. IsIn c.args.work.now.directories l core
    (begun_with c.args.work.now.directories l (Some kept))) c.limits.ensures
    (subst (λ d. IsIn d c.limits.result core (begun_with d c.limits.result (Some kept)))
    c.as_slice.ensures c.in_ok-begin.ensures.at)

pub returns-clause-begun : goal.returns-clause-begun
returns-clause-begun g c =
    let M = g.R.Runner.meaning in
    let works = c.begin.new.works in
    let kept = stored c.args.kept in
    subst (λ l. IsSoundFor M c.args.work.now.directories l (Some kept) → IsBegun M works)
    c.limits.ensures (subst (λ d. IsSoundFor M d c.limits.result (Some kept) → IsBegun M works)
    c.as_slice.ensures c.in_ok-begin.ensures.begun)
