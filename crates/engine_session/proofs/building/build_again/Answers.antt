use Rattle.std.proofs.Common.{ap, ◌∙◌}
use Rattle.object_names.specs.Objects.{are_rising}
use Rattle.publication.specs.Wants.{proper, wants_of}
use Rattle.rebuild.proofs.Engines.{ready_is}
use Rattle.engine_session.proofs.Proper.{wants_proper}
use Rattle.engine_session.proofs.building.build_again.Goals as goal

pub returns-clause-proper : goal.returns-clause-proper
returns-clause-proper g c =
    let core = c.args.works.now.engine.core in
    let rising = (ready_is core c.args.works.now.engine.ready).rising in
    ap (λ ps. proper (wants_of ps)) c.in_ok-profiles.ensures
    ∙ wants_proper c.in_ok-answers.answers.items (ap are_rising c.in_ok-answers.ensures.names
    ∙ rising)
