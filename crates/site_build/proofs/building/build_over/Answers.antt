use Rattle.std.proofs.Common.{IfErr, IfSome, rules, sym, subst}
use Rattle.std.proofs.lemmas.Result.{IfOk-weaker, err_from_is_err_and}
use Rattle.engine_session.proofs.Fits.{begins}
use Rattle.engine_session.specs.Compiler.{nothing}
use Rattle.engine_session.specs.Standing.{counts, HasSpentAtMost, IsIn}
use Rattle.outside.specs.Causes.{Caused}
use Rattle.site_build.specs.Ends.{IsEndOf, IsFailureOf, OfSource}
use Rattle.site_build.specs.declared.ends.Device.TheVariants as D
use Rattle.site_build.specs.Rounds.{Follows, Reaches, session_at}
use Rattle.site_build.specs.Scenes.{outs}
use Rattle.site_build.specs.Session.{Finished, TakesEarly, limits_of, session_for, state_for}
use Rattle.site_build.proofs.Ending.{uncaused_shelf, uncaused_out, uncaused_source}
use Rattle.site_build.proofs.Finishing.{comes_to, spends_on}
use Rattle.site_build.proofs.Following.{spends_err, spends_none, untouched_at}
use Rattle.site_build.proofs.Taking.{round_takes}
use Rattle.site_build.proofs.building.build_over.Goals as goal

pub returns-in_err-start-clause-follows : goal.returns-in_err-start-clause-follows
returns-in_err-start-clause-follows g c =
    let r = c.from_residual.result in
    let p = err_from_is_err_and r c.from_residual.ensures.1 in
    untouched_at (g.S.Source.coming c.args.devices.now.source)
    (session_for g.R.Runner.meaning c.args.work.now c.args.listed.now) c.args.listed.now r
    (outs g.H.Shelf g.O.Sink c.args.devices.now.shelf c.args.devices.now.out) p.0 p.1
    (subst (IsEndOf OfSource) (sym p.2) tt)

pub returns-in_err-start-clause-spent : goal.returns-in_err-start-clause-spent
returns-in_err-start-clause-spent g c =
    let r = c.from_residual.result in
    let p = err_from_is_err_and r c.from_residual.ensures.1 in
    spends_none (state_for g.R.Runner.meaning c.args.work.now)
    (g.S.Source.coming c.args.devices.now.source) r p.0
    (g.R.Runner.runs_of c.args.works.now.runner) (g.R.Runner.runs_of c.start.new.works.runner)
    c.args.steps.now p.1 c.start.ensures.runs

pub returns-in_err-reached-clause-follows : goal.returns-in_err-reached-clause-follows
returns-in_err-reached-clause-follows g c =
    let r = c.from_residual-in_err-reached.result in
    let p = err_from_is_err_and r c.from_residual-in_err-reached.ensures.1 in
    let kind : IsEndOf OfSource p.0 =
    subst (IsEndOf OfSource) (sym p.2) c.in_err-reached.ensures.kind in
    untouched_at (g.S.Source.coming c.args.devices.now.source)
    (session_for g.R.Runner.meaning c.args.work.now c.args.listed.now) c.args.listed.now r
    (outs g.H.Shelf g.O.Sink c.args.devices.now.shelf c.args.devices.now.out) p.0 p.1 kind

pub returns-in_err-reached-clause-spent : goal.returns-in_err-reached-clause-spent
returns-in_err-reached-clause-spent g c =
    let r = c.from_residual-in_err-reached.result in
    let p = err_from_is_err_and r c.from_residual-in_err-reached.ensures.1 in
    let M = g.R.Runner.meaning in
    let work = c.args.work.now in
    let core = c.start.new.works.engine.core in
    let coming = g.S.Source.coming c.args.devices.now.source in
    let steps = c.args.steps.now in
    let is : IsIn work.directories (limits_of work) core nothing =
    subst (λ l. IsIn work.directories l core nothing) c.limits.ensures
    (subst (λ d. IsIn d c.limits.result core nothing) c.as_slice.ensures
    c.in_ok-start.ensures.at) in
    let begun = begins M c.start.new.works c.in_ok-start.ensures.faithful in
    let now = counts (g.R.Runner.runs_of c.settle.new.works.runner) c.settle.new.steps in
    spends_err (state_for M work) coming r p.0 (counts (g.R.Runner.runs_of c.args.works.now.runner)
    steps) now p.1 (subst (λ n. IfSome coming (λ ps. HasSpentAtMost (state_for M work ps)
    (counts n steps) now)) c.start.ensures.runs (c.in_err-reached.ensures.cut begun work nothing
    is))

pub returns-in_err-reached-clause-shelf_cause : goal.returns-in_err-reached-clause-shelf_cause
returns-in_err-reached-clause-shelf_cause g c =
    let kind : IfErr c.from_residual-in_err-reached.result (IsEndOf OfSource) = search rules in
    uncaused_shelf c.from_residual-in_err-reached.result
    (g.H.Shelf.fault_count c.args.devices.now.shelf) kind

pub returns-in_err-reached-clause-out_cause : goal.returns-in_err-reached-clause-out_cause
returns-in_err-reached-clause-out_cause g c =
    let kind : IfErr c.from_residual-in_err-reached.result (IsEndOf OfSource) = search rules in
    uncaused_out c.from_residual-in_err-reached.result (g.O.Sink.fault_count c.args.devices.now.out)
    kind

pub returns-clause-follows : goal.returns-clause-follows
returns-clause-follows g c =
    let M = g.R.Runner.meaning in
    let work = c.args.work.now in
    let core = c.start.new.works.engine.core in
    let coming = g.S.Source.coming c.args.devices.now.source in
    let steps = c.args.steps.now in
    let is : IsIn work.directories (limits_of work) core nothing =
    subst (λ l. IsIn work.directories l core nothing) c.limits.ensures
    (subst (λ d. IsIn d c.limits.result core nothing) c.as_slice.ensures
    c.in_ok-start.ensures.at) in
    let begun = begins M c.start.new.works c.in_ok-start.ensures.faithful in
    let now = counts (g.R.Runner.runs_of c.settle.new.works.runner) c.settle.new.steps in
    let before = counts (g.R.Runner.runs_of c.args.works.now.runner) steps in
    let how = c.in_ok-reached.reached in
    let last = c.settle.new.works.engine.core in
    let reaches : IfSome coming (λ ps. Reaches M nothing work how ps last before now) =
    subst (λ n. IfSome coming (λ ps. Reaches M nothing work how ps last (counts n steps) now))
    c.start.ensures.runs (c.in_ok-reached.ensures.ok begun work nothing is) in
    comes_to M nothing work c.args.listed.now how last before now
    (λ s. Follows s c.args.listed.now c.finish.result
    (outs g.H.Shelf g.O.Sink c.args.devices.now.shelf c.args.devices.now.out)
    (outs g.H.Shelf g.O.Sink c.finish.new.devices.shelf c.finish.new.devices.out)) coming
    reaches (c.finish.ensures.follows (c.in_ok-reached.ensures.faithful begun))

pub returns-clause-spent : goal.returns-clause-spent
returns-clause-spent g c =
    let M = g.R.Runner.meaning in
    let work = c.args.work.now in
    let core = c.start.new.works.engine.core in
    let coming = g.S.Source.coming c.args.devices.now.source in
    let steps = c.args.steps.now in
    let is : IsIn work.directories (limits_of work) core nothing =
    subst (λ l. IsIn work.directories l core nothing) c.limits.ensures
    (subst (λ d. IsIn d c.limits.result core nothing) c.as_slice.ensures
    c.in_ok-start.ensures.at) in
    let begun = begins M c.start.new.works c.in_ok-start.ensures.faithful in
    let now = counts (g.R.Runner.runs_of c.settle.new.works.runner) c.settle.new.steps in
    let before = counts (g.R.Runner.runs_of c.args.works.now.runner) steps in
    let how = c.in_ok-reached.reached in
    let last = c.settle.new.works.engine.core in
    let reaches : IfSome coming (λ ps. Reaches M nothing work how ps last before now) =
    subst (λ n. IfSome coming (λ ps. Reaches M nothing work how ps last (counts n steps) now))
    c.start.ensures.runs (c.in_ok-reached.ensures.ok begun work nothing is) in
    let old = g.H.Shelf.cell c.args.devices.now.shelf in
    let new = g.H.Shelf.cell c.finish.new.devices.shelf in
    let held = g.O.Sink.held c.args.devices.now.out in
    let held' = g.O.Sink.held c.finish.new.devices.out in
    spends_on M nothing work c.args.listed.now how last before now coming reaches c.finish.result
    (IfOk-weaker _ _ _ (λ ended.
    λ (f : Finished (session_at work.most_removed c.args.listed.now M how last) ended held held'
    old new). f.ended) (c.finish.ensures.follows (c.in_ok-reached.ensures.faithful begun)).ok)

pub returns-clause-pictures : goal.returns-clause-pictures
returns-clause-pictures g c =
    subst (λ s. IfErr c.finish.result (λ e. TakesEarly e
    (g.S.Source.coming c.args.devices.now.source) (g.S.Source.coming s)))
    (sym c.finish.ensures.source) (round_takes c.finish.result _ _ c.finish.ensures.kind
    c.in_ok-reached.ensures.taken)

pub returns-clause-source_cause : goal.returns-clause-source_cause
returns-clause-source_cause g c =
    subst (λ s. Caused (IsFailureOf D.Source) (g.S.Source.fault_count c.args.devices.now.source)
    (g.S.Source.fault_count s) c.finish.result) (sym c.finish.ensures.source)
    (uncaused_source c.finish.result (g.S.Source.fault_count c.args.devices.now.source)
    (g.S.Source.fault_count c.settle.new.source) c.in_ok-reached.ensures.cause.done
    c.finish.ensures.kind)
