use Rattle.std.proofs.Common.{◌≡◌, ◌<◌, ◌∙◌, arith}
use Rattle.rebuild.specs.Engines.{turns_left_of}
use Rattle.engine_session.proofs.Registered.{unused_is, unused_none}
use Rattle.engine_session.proofs.impact.unused.Goals as goal

pub returns-then-left-gt0 : goal.returns-then-left-gt0
returns-then-left-gt0 g c = λ f.
    let core = c.args.works.now.engine.core in
    let some : 0 < turns_left_of core =
    omega (arith, c.if-left-gt0.true, c.turns_left-left.ensures) in
    unused_none g.R.Runner.meaning core f.kept some

pub register_of-requires : goal.register_of-requires
register_of-requires g c = omega (arith, c.if-left-gt0.false, c.turns_left-left.ensures)

pub returns : goal.returns
returns g c = λ f.
    let engine = c.args.works.now.engine in
    let none : turns_left_of engine.core ≡ 0 =
    omega (arith, c.if-left-gt0.false, c.turns_left-left.ensures) in
    unused_is g.R.Runner.meaning engine.core f.kept g.met.R.Runner.laws engine.ready f.sound.reached
    c.in_ok-register.register _ _ c.in_ok-names.names.items
    (c.as_slice.ensures ∙ c.args.works.now.directories_are)
    (c.picture.ensures ∙ c.args.works.now.files) none (c.in_ok-register.ensures f)
    c.in_ok-names.ensures.names
