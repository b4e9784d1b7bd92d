use Rattle.std.proofs.lemmas.Result.{on_ok_weaker}
use Rattle.engine_session.proofs.Registered.{added, never_unread}
use Rattle.engine_session.proofs.impact.add_object.Goals as goal

-- a faithful engine has read each object
pub returns-in_default : goal.returns-in_default
returns-in_default g c = λ f. absurd (
    let engine = c.args.works.now.engine in
    never_unread g.R.Runner.meaning engine.core f.kept g.met.R.Runner.laws engine.ready
    f.sound.reached c.args.name.now c.as_str.result.now c.requires.settled c.requires.object
    c.as_str.ensures.text c.in_default.ensures.exact)

pub returns : goal.returns
returns g c = λ f.
    let engine = c.args.works.now.engine in
    on_ok_weaker c.add.result (λ is. added g.R.Runner.meaning engine.core f.kept g.met.R.Runner.laws
    engine.ready f.sound.reached c.args.name.now c.as_str.result.now c.in-Some.reads.build.now
    c.in-Some.reads.check.now c.args.register.now c.add.new.self c.as_str.ensures.text
    c.in-Some.ensures.exact is) c.add.ensures.ok
