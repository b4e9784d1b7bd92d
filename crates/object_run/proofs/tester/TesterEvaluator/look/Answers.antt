use Rattle.std.proofs.Common.{arith}
use Rattle.questions.specs.Told.{only}
use Rattle.validate.specs.Exits.{meter}
use Rattle.validate.specs.Means.{found_run}
use Rattle.object_meaning.proofs.BothLawful.{tests_leave}
use Rattle.object_run.specs.Testing.{case_site}
use Rattle.object_run.proofs.Stopping.{stops}
use Rattle.object_run.proofs.tester.TesterEvaluator.look.Goals as goal

pub returns-in_err-text : goal.returns-in_err-text
unfolding found_run
returns-in_err-text g c = λ keys.
    let leaves = (tests_leave (case_site g.T.Tested.case g.W.World.reading g.W.World.calls)
    g.W.World.plain g.T.Tested.case.built).look c.args.place.now c.args.path.now
    (only keys g.W.World.answers) tt (meter c.args.work.now
    (g.W.World.asked c.args.self.now.world)) in
    grind (arith, leaves)

pub returns-in_err-text-2 : goal.returns-in_err-text-2
unfolding found_run
returns-in_err-text-2 g c = λ keys.
    let leaves = (tests_leave (case_site g.T.Tested.case g.W.World.reading g.W.World.calls)
    g.W.World.plain g.T.Tested.case.built).look c.args.place.now c.args.path.now
    (only keys g.W.World.answers) tt (meter c.args.work.now
    (g.W.World.asked c.args.self.now.world)) in
    grind (arith, leaves)

pub returns-in_err-share : goal.returns-in_err-share
unfolding found_run
returns-in_err-share g c = λ keys.
    let leaves = (tests_leave (case_site g.T.Tested.case g.W.World.reading g.W.World.calls)
    g.W.World.plain g.T.Tested.case.built).look c.args.place.now c.args.path.now
    (only keys g.W.World.answers) tt (meter c.args.work.now
    (g.W.World.asked c.args.self.now.world)) in
    grind (arith, leaves)

pub returns-in-Ok : goal.returns-in-Ok
unfolding found_run
returns-in-Ok g c = λ keys. let looked = c.look_at.ensures keys in grind (arith, looked)

pub returns : goal.returns
unfolding found_run
returns g c = λ keys. let looked = c.look_at.ensures keys in grind (arith, stops, looked)
