use Rattle.std.proofs.Common.{arith}
use Rattle.questions.specs.Told.{only}
use Rattle.dml_world.specs.Seen.{meter}
use Rattle.object_meaning.specs.Builds.{built_run}
use Rattle.plain_statements.specs.Seen.{site_of}
use Rattle.object_run.proofs.Filling.{build_stops}
use Rattle.object_run.proofs.building.build_object.Goals as goal

pub returns-in_err-program-clause-gives : goal.returns-in_err-program-clause-gives
returns-in_err-program-clause-gives g c = λ keys.
    let stops = build_stops (site_of c.args.site.now g.W.World.reading g.W.World.calls)
    c.in_err-program.field-0.0 (only keys g.W.World.answers)
    (meter c.args.work.now (g.W.World.asked c.args.world.now))
    (meter c.run_object.new.work (g.W.World.asked c.run_object.new.world)) in
    grind (arith, stops)

pub returns-clause-gives : goal.returns-clause-gives
unfolding built_run
returns-clause-gives g c = λ keys.
    let made = c.run_object.ensures.gives keys in
    let filled = c.filled.ensures.gives (only keys g.W.World.answers)
    (g.W.World.asked c.run_object.new.world) in
    grind (arith, made, filled)
