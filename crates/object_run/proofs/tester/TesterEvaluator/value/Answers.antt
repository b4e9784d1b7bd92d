use Rattle.std.proofs.Common.{arith}
use Rattle.pan_ast.specs.Seen.{item_seen}
use Rattle.questions.specs.Told.{only}
use Rattle.validate.specs.Exits.{meter}
use Rattle.object_meaning.proofs.BothLawful.{tests_leave}
use Rattle.object_run.specs.Testing.{case_site}
use Rattle.object_run.proofs.tester.TesterEvaluator.value.Goals as goal

pub returns-in_err-share-clause-gives : goal.returns-in_err-share-clause-gives
returns-in_err-share-clause-gives g c = λ keys.
    let leaves = (tests_leave (case_site g.T.Tested.case g.W.World.reading g.W.World.calls)
    g.W.World.plain g.T.Tested.case.built).dml c.args.template.now (item_seen c.args.item.now)
    c.args.self_value.now (only keys g.W.World.answers) tt
    (meter c.args.work.now (g.W.World.asked c.args.self.now.world)) in
    grind (arith, leaves)

pub returns-in_err-value-clause-gives : goal.returns-in_err-value-clause-gives
returns-in_err-value-clause-gives g c = λ keys.
    let leaves = (tests_leave (case_site g.T.Tested.case g.W.World.reading g.W.World.calls)
    g.W.World.plain g.T.Tested.case.built).dml c.args.template.now (item_seen c.args.item.now)
    c.args.self_value.now (only keys g.W.World.answers) tt
    (meter c.args.work.now (g.W.World.asked c.args.self.now.world)) in
    grind (arith, leaves)
