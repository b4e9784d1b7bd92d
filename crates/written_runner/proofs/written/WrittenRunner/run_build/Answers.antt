use Rattle.std.proofs.Common.{◌+◌, sym, ap, ◌∙◌}
use Rattle.path_tree.specs.Plain.{undef}
use Rattle.questions.specs.Told.{answers_of, whole}
use Rattle.runner.specs.Words.{words}
use Rattle.written_runner.specs.Written.{action_of, object_run}
use Rattle.written_runner.specs.declared.running.Side.TheVariants.{Build}
use Rattle.runner.specs.Ends.{build_ran}
use Rattle.written_runner.specs.Meaning.{build_end_of}
use Rattle.written_runner.proofs.Ends.{build_is, build_work}
use Rattle.written_runner.proofs.written.WrittenRunner.run_build.Goals as goal

pub returns-clause-answer : goal.returns-clause-answer
returns-clause-answer g c =
    let used = c.in_ok-ran.ran in
    let tells = words c.args.self.now.picture (g.K.Known.numbers c.args.known.now)
    (g.K.Known.objects c.args.known.now) in
    let outcome = c.in_ok-ran.ensures.outcome ∙ ap
    (λ dirs. object_run dirs c.args.name.now (action_of Build) (answers_of tells) undef whole)
    c.as_slice-dirs.ensures in
    build_is c.args.self.now.picture (g.K.Known.numbers c.args.known.now)
    (g.K.Known.objects c.args.known.now) c.args.self.now.dirs c.args.name.now used.came
    used.used.value used.used.left used.used.trace outcome c.in_ok-ran.ensures.numbered
    ∙ ap (λ o. build_ran (build_end_of used.came used.used.value used.used.trace o))
    (sym c.in_ok-object.ensures)
    ∙ ap build_ran (sym c.build_end.ensures)

pub returns-clause-steps : goal.returns-clause-steps
returns-clause-steps g c =
    let used = c.in_ok-ran.ran in
    let tells = words c.args.self.now.picture (g.K.Known.numbers c.args.known.now)
    (g.K.Known.objects c.args.known.now) in
    let outcome = c.in_ok-ran.ensures.outcome ∙ ap
    (λ dirs. object_run dirs c.args.name.now (action_of Build) (answers_of tells) undef whole)
    c.as_slice-dirs.ensures in
    let work = build_work c.args.self.now.picture (g.K.Known.numbers c.args.known.now)
    (g.K.Known.objects c.args.known.now) c.args.self.now.dirs c.args.name.now used.came
    used.used.value used.used.left used.used.trace outcome c.in_ok-ran.ensures.numbered in
    c.pay.ensures ∙ ap (λ n. c.args.steps.now + n) (c.saturating_sub.ensures ∙ work)
