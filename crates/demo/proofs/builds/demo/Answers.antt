use Rattle.std.proofs.Common.{ap, subst, ◌∙◌}
use Rattle.engine_session.specs.Standing.{counts}
use Rattle.publication.proofs.Planning.{on_err}
use Rattle.demo.specs.Demo.{demo_session, Breaks}
use Rattle.demo.proofs.Going.{not_begun, ended_ok, broken_err}
use Rattle.demo.proofs.builds.demo.Goals as goal

pub returns-in_err-source-clause-err : goal.returns-in_err-source-clause-err
returns-in_err-source-clause-err g c =
    on_err c.from_residual.result
    (not_begun (demo_session g.R.Runner.meaning c.args.plan.limits c.args.plan.count
    c.args.plan.start) (counts (g.R.Runner.runs_of c.args.works.now.runner) c.args.steps.now)
    (g.O.Sink.held c.args.out.now))

pub returns-in_err-start_at_root-clause-err : goal.returns-in_err-start_at_root-clause-err
returns-in_err-start_at_root-clause-err g c = let start =
    counts (g.R.Runner.runs_of c.args.works.now.runner) c.args.steps.now in
    on_err c.from_residual-in_err-start_at_root.result
    (subst (λ n. Breaks (demo_session g.R.Runner.meaning c.args.plan.limits c.args.plan.count
    c.args.plan.start) (counts n c.args.steps.now)
    (counts (g.R.Runner.runs_of c.start_at_root.new.works.runner) c.args.steps.now)
    (g.O.Sink.held c.args.out.now) (g.O.Sink.held c.args.out.now)) c.start_at_root.ensures.runs
    (not_begun (demo_session g.R.Runner.meaning c.args.plan.limits c.args.plan.count
    c.args.plan.start) (counts (g.R.Runner.runs_of c.start_at_root.new.works.runner)
    c.args.steps.now) (g.O.Sink.held c.args.out.now)))

pub returns-clause-ok : goal.returns-clause-ok
returns-clause-ok g c = ended_ok g.R.Runner.meaning c.args.plan.limits c.args.plan.count
    c.args.plan.start c.start_at_root.new.works.engine.core c.in_ok-source.source.coming _ _ _ _ _
    c.in_ok-start_at_root.ensures.at c.in_ok-source.ensures.coming
    (ap (λ n. counts n c.args.steps.now) c.start_at_root.ensures.runs) c.play.result (c.play.ensures.ok
    c.in_ok-start_at_root.ensures.faithful)

pub returns-clause-err : goal.returns-clause-err
returns-clause-err g c =
    broken_err g.R.Runner.meaning c.args.plan.limits c.args.plan.count c.args.plan.start
    c.start_at_root.new.works.engine.core c.in_ok-source.source.coming _ _ _ _ _
    c.in_ok-start_at_root.ensures.at c.in_ok-source.ensures.coming
    (ap (λ n. counts n c.args.steps.now) c.start_at_root.ensures.runs) c.play.result (c.play.ensures.err
    c.in_ok-start_at_root.ensures.faithful)
