use Rattle.std.proofs.Common.{[], Ok, Some, ap, refl, subst, arith}
use Rattle.rebuild.specs.Engines.{turns_left_of}
use Rattle.outside.specs.Causes.{Rose}
use Rattle.publication.proofs.Planning.{on_err}
use Rattle.publication.specs.declared.answer.Publication.TheVariants as publication
use Rattle.session.specs.Sessions.{NotSaved, built}
use Rattle.engine_session.specs.Compiler.{compiler}
use Rattle.engine_session.specs.Standing.{counts, MakesTurns, TakesNext}
use Rattle.engine_session.proofs.Fits.{begins}
use Rattle.engine_session.proofs.Moves.{forgotten_in, forgotten_kept}
use Rattle.demo.proofs.Turning.{at_end, end_rises, build_rises}
use Rattle.demo.proofs.Going.{take_spends, take_exceeds, cut_turning, turns_spend, cut_made, reports}
use Rattle.demo.proofs.builds.build_next.Goals as goal

pub unreachable-requires : goal.unreachable-requires
unreachable-requires g c = let rose : Rose 0 0 =
    c.in_ok-take_next.ensures.count.rose (ap Ok c.in-Failed.is) in omega (arith, rose)

pub returns-in_err-take_next-clause-cut : goal.returns-in_err-take_next-clause-cut
returns-in_err-take_next-clause-cut g c =
    λ f. on_err c.from_residual.result (λ dirs limits s start at told.
    c.in_err-take_next.ensures.cut dirs limits s start at (ap Some told)
    (built (compiler (g.R.Runner.meaning dirs limits) dirs) (publication.Done []) NotSaved)
    (build_rises (compiler (g.R.Runner.meaning dirs limits) dirs)))

pub returns-in-SpendsNumbers-clause-went : goal.returns-in-SpendsNumbers-clause-went
returns-in-SpendsNumbers-clause-went g c = λ f dirs limits s start at told empty.
    take_spends g.R.Runner.meaning dirs limits s c.take_next.new.works.engine.core
    c.take_next.new.works.engine.core c.take_next.new.works.engine.core
    c.take_next.new.source.coming start _ start 0 0 0 _ _
    (subst (λ how. TakesNext (compiler (g.R.Runner.meaning dirs limits) dirs) dirs limits s how
    c.take_next.new.works.engine.core start (counts
    (g.R.Runner.runs_of c.take_next.new.works.runner) c.take_next.new.steps)
    (Some c.take_next.new.source.coming) 0 0) c.in-SpendsNumbers.is
    (c.in_ok-take_next.ensures.took (begins g.R.Runner.meaning c.args.works.now f) dirs limits s
    start at (ap Some told)))

pub returns-in-IsTooMuch-clause-went : goal.returns-in-IsTooMuch-clause-went
returns-in-IsTooMuch-clause-went g c = λ f dirs limits s start at told empty.
    take_exceeds g.R.Runner.meaning dirs limits s c.take_next.new.works.engine.core
    c.take_next.new.works.engine.core c.take_next.new.works.engine.core
    c.take_next.new.source.coming start _ start 0 0 0 _ _
    (subst (λ how. TakesNext (compiler (g.R.Runner.meaning dirs limits) dirs) dirs limits s how
    c.take_next.new.works.engine.core start (counts
    (g.R.Runner.runs_of c.take_next.new.works.runner) c.take_next.new.steps)
    (Some c.take_next.new.source.coming) 0 0) c.in-IsTooMuch.is
    (c.in_ok-take_next.ensures.took (begins g.R.Runner.meaning c.args.works.now f) dirs limits s
    start at (ap Some told)))

pub returns-in_err-make_all_turns-clause-cut : goal.returns-in_err-make_all_turns-clause-cut
returns-in_err-make_all_turns-clause-cut g c =
    λ f. on_err c.from_residual-in_err-make_all_turns.result (λ dirs limits s start at told.
    let t = (subst (λ how. TakesNext (compiler (g.R.Runner.meaning dirs limits) dirs) dirs limits s
    how c.take_next.new.works.engine.core start (counts
    (g.R.Runner.runs_of c.take_next.new.works.runner) c.take_next.new.steps)
    (Some c.take_next.new.source.coming) 0 0) c.in-Taken.is
    (c.in_ok-take_next.ensures.took (begins g.R.Runner.meaning c.args.works.now f) dirs limits s
    start at (ap Some told))) in
    cut_turning g.R.Runner.meaning dirs limits s c.take_next.new.works.engine.core
    c.take_next.new.works.engine.core c.take_next.new.works.engine.core
    c.take_next.new.source.coming start _ _ 0 0 (turns_left_of
    c.take_next.new.works.engine.core) t refl (c.in_err-make_all_turns.ensures.cut
    (c.take_next.ensures.faithful f) dirs limits t.state start t.stands
    (at_end (compiler (g.R.Runner.meaning dirs limits) dirs))
    (end_rises (compiler (g.R.Runner.meaning dirs limits) dirs))))

pub returns-then-not-branch-clause-went : goal.returns-then-not-branch-clause-went
returns-then-not-branch-clause-went g c = λ f dirs limits s start at told empty.
    let t = (subst (λ how. TakesNext (compiler (g.R.Runner.meaning dirs limits) dirs) dirs limits s
    how c.take_next.new.works.engine.core start (counts
    (g.R.Runner.runs_of c.take_next.new.works.runner) c.take_next.new.steps)
    (Some c.take_next.new.source.coming) 0 0) c.in-Taken.is
    (c.in_ok-take_next.ensures.took (begins g.R.Runner.meaning c.args.works.now f) dirs limits s
    start at (ap Some told))) in
    turns_spend g.R.Runner.meaning dirs limits s c.take_next.new.works.engine.core
    c.make_all_turns.new.works.engine.core c.make_all_turns.new.works.engine.core
    c.take_next.new.source.coming start _ _ 0 0 (turns_left_of
    c.take_next.new.works.engine.core) t refl _ _
    (subst (λ all. MakesTurns (compiler (g.R.Runner.meaning dirs limits) dirs) dirs limits
    (turns_left_of c.take_next.new.works.engine.core) t.state all
    c.make_all_turns.new.works.engine.core start (counts
    (g.R.Runner.runs_of c.make_all_turns.new.works.runner) c.make_all_turns.new.steps))
    c.if-not-branch.true (c.in_ok-make_all_turns.ensures.made (c.take_next.ensures.faithful f)
    dirs limits t.state start t.stands))

pub returns-in_err-has_faults-clause-cut : goal.returns-in_err-has_faults-clause-cut
returns-in_err-has_faults-clause-cut g c =
    λ f. on_err c.from_residual-in_err-has_faults.result (λ dirs limits s start at told.
    let t = (subst (λ how. TakesNext (compiler (g.R.Runner.meaning dirs limits) dirs) dirs limits s
    how c.take_next.new.works.engine.core start (counts
    (g.R.Runner.runs_of c.take_next.new.works.runner) c.take_next.new.steps)
    (Some c.take_next.new.source.coming) 0 0) c.in-Taken.is
    (c.in_ok-take_next.ensures.took (begins g.R.Runner.meaning c.args.works.now f) dirs limits s
    start at (ap Some told))) in
    cut_made g.R.Runner.meaning dirs limits s c.take_next.new.works.engine.core
    c.make_all_turns.new.works.engine.core c.make_all_turns.new.works.engine.core
    c.take_next.new.source.coming start _ _ 0 0 (turns_left_of
    c.take_next.new.works.engine.core) t refl (subst
    (λ all. MakesTurns (compiler (g.R.Runner.meaning dirs limits) dirs) dirs limits
    (turns_left_of c.take_next.new.works.engine.core) t.state all
    c.make_all_turns.new.works.engine.core start (counts
    (g.R.Runner.runs_of c.make_all_turns.new.works.runner) c.make_all_turns.new.steps))
    c.if-not-branch.false (c.in_ok-make_all_turns.ensures.made (c.take_next.ensures.faithful f)
    dirs limits t.state start t.stands)))

pub returns-clause-went : goal.returns-clause-went
returns-clause-went g c = λ f dirs limits s start at told empty.
    let t = (subst (λ how. TakesNext (compiler (g.R.Runner.meaning dirs limits) dirs) dirs limits s
    how c.take_next.new.works.engine.core start (counts
    (g.R.Runner.runs_of c.take_next.new.works.runner) c.take_next.new.steps)
    (Some c.take_next.new.source.coming) 0 0) c.in-Taken.is
    (c.in_ok-take_next.ensures.took (begins g.R.Runner.meaning c.args.works.now f) dirs limits s
    start at (ap Some told))) in
    let made = (subst (λ all. MakesTurns (compiler (g.R.Runner.meaning dirs limits) dirs) dirs
    limits (turns_left_of c.take_next.new.works.engine.core) t.state all
    c.make_all_turns.new.works.engine.core start (counts
    (g.R.Runner.runs_of c.make_all_turns.new.works.runner) c.make_all_turns.new.steps))
    c.if-not-branch.false (c.in_ok-make_all_turns.ensures.made (c.take_next.ensures.faithful f)
    dirs limits t.state start t.stands)) in
    let settled = c.make_all_turns.new.works.engine.core in
    let forgot = forgotten_in g.R.Runner.meaning settled c.forget_runs.new.self.core
    c.forget_runs.ensures.files c.forget_runs.ensures.dirs c.forget_runs.ensures.limits
    c.forget_runs.ensures.state dirs limits made.state.engine made.stands.engine in
    reports g.R.Runner.meaning dirs limits s c.take_next.new.works.engine.core settled
    c.forget_runs.new.self.core c.take_next.new.source.coming start _ _ 0 0
    (turns_left_of c.take_next.new.works.engine.core) t refl _ _ empty made
    (c.in_ok-has_faults.ensures (c.make_all_turns.ensures.faithful
    (c.take_next.ensures.faithful f))) forgot

-- the runs are forgotten
pub returns-clause-faithful : goal.returns-clause-faithful
returns-clause-faithful g c = λ f.
    let e = c.forget_runs.ensures in
    let settled = c.make_all_turns.ensures.faithful (c.take_next.ensures.faithful f) in
    record {
      sound = e.sound settled.sound;
      kept = forgotten_kept g.R.Runner.meaning c.make_all_turns.new.works.engine.core
          c.forget_runs.new.self.core e.files e.dirs e.state settled.kept;
    }
