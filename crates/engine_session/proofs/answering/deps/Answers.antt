use Rattle.read_sets.specs.Items.{pairs_of}
use Rattle.engine_session.proofs.Said.{deps_read, deps_none}
use Rattle.engine_session.proofs.answering.deps.Goals as goal

pub returns-in_ok-dep_of-in-Some : goal.returns-in_ok-dep_of-in-Some
returns-in_ok-dep_of-in-Some g c = λ f.
    let engine = c.args.works.now.engine in
    deps_read g.R.Runner.meaning engine.core f.kept g.met.R.Runner.laws engine.ready f.sound.reached
    c.args.name.now _ (pairs_of c.in-Some.reads.build.now) (pairs_of c.in-Some.reads.check.now)
    c.in_ok-dep_of-in-Some.ensures c.in-Some.ensures.exact

pub returns-in-None : goal.returns-in-None
returns-in-None g c = λ f.
    let engine = c.args.works.now.engine in
    deps_none g.R.Runner.meaning engine.core f.kept g.met.R.Runner.laws engine.ready f.sound.reached
    c.args.name.now _ c.unsettled.ensures c.in-None.ensures.exact
