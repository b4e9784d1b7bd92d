use Rattle.runner.specs.Words.{words}
use Rattle.object_run.proofs.Told.{check_told, check_spent}
use Rattle.object_run.proofs.library.LibraryRunner.run_check.Goals as goal

pub returns-clause-answer : goal.returns-clause-answer
returns-clause-answer g c =
    let tells = words c.args.self.now.picture (g.K.Known.numbers c.args.known.now)
    (g.K.Known.objects c.args.known.now) in
    check_told c.args.self.now.dirs c.as_slice.result.now c.args.limits.now c.as_slice.ensures tells
    c.args.built.now c.check_in-end.result.end c.in_ok-end.end c.in_ok-end.was
    c.check_in-end.ensures.answer

pub returns-clause-steps : goal.returns-clause-steps
returns-clause-steps g c =
    let tells = words c.args.self.now.picture (g.K.Known.numbers c.args.known.now)
    (g.K.Known.objects c.args.known.now) in
    check_spent c.args.self.now.dirs c.as_slice.result.now c.args.limits.now c.as_slice.ensures
    tells c.args.built.now c.check_in-end.result.end c.in_ok-end.end c.args.steps.now
    c.pay.new.self c.check_in-end.result.spent c.in_ok-end.was c.pay.ensures
    c.check_in-end.ensures.spent
