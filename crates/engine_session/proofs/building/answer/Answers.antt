use Rattle.std.proofs.Common.{◌∙◌}
use Rattle.engine_session.proofs.Said.{outcome_is}
use Rattle.engine_session.proofs.building.answer.Goals as goal

pub returns-in_ok-share-in-Settled-clause-answer : goal.returns-in_ok-share-in-Settled-clause-answer
returns-in_ok-share-in-Settled-clause-answer g c = λ both.
    let f = both.faithful in
    let engine = c.args.works.now.engine in
    let name = c.in_ok-share-in-Settled.ensures ∙ c.text_handle.ensures in
    let outcome = outcome_is g.R.Runner.meaning engine.core f.kept g.met.R.Runner.laws engine.ready
    f.sound.reached c.args.name.now c.as_str.result.now c.in_ok-outcome.field-0
    c.in-Settled.outcome c.requires.settled c.requires.object c.as_str.ensures.text
    (c.in_ok-outcome.ensures.said both) c.in-Settled.is in
    λ i. record { name = name i; outcome = outcome i }
