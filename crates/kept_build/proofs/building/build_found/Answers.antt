use Rattle.std.proofs.Common.{◌≡◌, IfSome, ap, inl, refl, sym, subst, ◌∙◌}
use Rattle.std.specs.Prelude.{Err}
use Rattle.std.proofs.lemmas.Result.{IfErr-weaker, IfOk-weaker, err_from_is_err_and}
use Rattle.engine_session.specs.Standing.{counts, HasSpentAtMost, IsBegun}
use Rattle.engine_rows.specs.Restoring.{IsSoundKept}
use Rattle.kept_state.specs.Stored.{stored}
use Rattle.site_build.specs.Ends.{IsFailureOf}
use Rattle.site_build.specs.Rounds.{Reaches, session_at}
use Rattle.site_build.specs.Scenes.{scene}
use Rattle.site_build.specs.Session.{Finished, IsPassed, session_from, state_from}
use Rattle.site_build.specs.declared.ends.Device.TheVariants as D
use Rattle.site_build.specs.declared.ends.End.TheVariants as E
use Rattle.site_build.proofs.Ending.{on_ok}
use Rattle.site_build.proofs.Finishing.{some_map}
use Rattle.site_build.proofs.Following.{all_told}
use Rattle.site_build.proofs.Taking.{by_source}
use Rattle.kept_build.specs.Ends.{IsLater, IsRoundEnd, TakesEarly}
use Rattle.kept_build.specs.Kept.{IsSoundStart, begun_for, kept_from, rows_from}
use Rattle.kept_build.specs.Rounds.{Follows}
use Rattle.kept_build.specs.Stores.{store_of}
use Rattle.kept_build.proofs.Counting.{counted_of, unfailed, uncaused_source}
use Rattle.kept_build.proofs.Finishing.{follows_so, kept_so, kept_sound}
use Rattle.kept_build.proofs.Running.{Runs, ends, outs_in, round_later, round_takes, spends_as, spends_most, spent_still, start_in, start_sound, stops, stops_early}
use Rattle.kept_build.proofs.Sound.{is_sound}
use Rattle.kept_build.proofs.building.build_found.Goals as goal

pub returns-in_err-begin-clause-part : goal.returns-in_err-begin-clause-part
returns-in_err-begin-clause-part g c =
    let M = g.R.Runner.meaning in
    let w = c.args.work.now in
    let found = stored c.args.found.kept in
    let before = scene g.R.Runner g.S.Source g.H.Shelf g.N.Lines g.O.Sink c.args.works.now.runner
    c.args.devices.now.devices c.args.steps.now in
    let runs = g.R.Runner.runs_of c.args.works.now.runner in
    let runs' = g.R.Runner.runs_of c.begin.new.works.runner in
    let r = c.from_residual.result in
    let p = err_from_is_err_and r c.from_residual.ensures.1 in
    stops_early M w c.args.found.listed.items c.args.found.rows.items found before
    (store_of g.K.Keeper c.args.devices.now.keeper) r E.Memory
    (p.1 ∙ ap (λ x. Err x) p.2) tt before.coming before.source_opened before.source_count
    (counts runs' c.args.steps.now)
    (λ sound. all_told before.coming (λ ps. HasSpentAtMost (state_from M (begun_for w found) w ps)
    before.spent (counts runs' c.args.steps.now))
    (λ ps. spent_still (state_from M (begun_for w found) w ps) runs runs' c.args.steps.now
    c.begin.ensures.runs))
    (inl refl) (unfailed before.source_count (λ (failed : IsFailureOf D.Source E.Memory). cc))

pub returns-in_err-reached-clause-part : goal.returns-in_err-reached-clause-part
returns-in_err-reached-clause-part g c =
    let M = g.R.Runner.meaning in
    let w = c.args.work.now in
    let found = stored c.args.found.kept in
    let before = scene g.R.Runner g.S.Source g.H.Shelf g.N.Lines g.O.Sink c.args.works.now.runner
    c.args.devices.now.devices c.args.steps.now in
    let core = c.begin.new.works.engine.core in
    let source = c.settle.new.source in
    let now = counts (g.R.Runner.runs_of c.settle.new.works.runner) c.settle.new.steps in
    let e = c.in_err-reached.field-0.0 in
    let told = c.in_err-reached.ensures in
    let r = c.from_residual-in_err-reached.result in
    let p = err_from_is_err_and r c.from_residual-in_err-reached.ensures.1 in
    let is = start_in w found c.as_slice.result.now c.limits.result c.as_slice.ensures
    c.limits.ensures core c.in_ok-begin.ensures.at in
    stops_early M w c.args.found.listed.items c.args.found.rows.items found before
    (store_of g.K.Keeper c.args.devices.now.keeper) r e
    (p.1 ∙ ap (λ x. Err x) p.2) told.kind (g.S.Source.coming source) (g.S.Source.opened source)
    (g.S.Source.fault_count source) now
    (λ sound.
    let begun =
    c.in_ok-begin.ensures.begun (start_sound w found c.as_slice.result.now c.limits.result
    c.as_slice.ensures c.limits.ensures M sound) in
    subst
    (λ n. IfSome before.coming (λ ps. HasSpentAtMost (state_from M (begun_for w found) w ps)
    (counts n c.args.steps.now) now)) c.begin.ensures.runs
    (told.cut begun w (begun_for w found) is))
    (by_source e before.coming (g.S.Source.coming source) told.kind told.perhaps)
    (counted_of e before.source_count (g.S.Source.fault_count source) told.cause)

pub returns-clause-ok : goal.returns-clause-ok
returns-clause-ok g c =
    let M = g.R.Runner.meaning in
    let w = c.args.work.now in
    let found = stored c.args.found.kept in
    let names = c.args.found.listed.items in
    let last = c.args.found.rows.items in
    let start = begun_for w found in
    let before = scene g.R.Runner g.S.Source g.H.Shelf g.N.Lines g.O.Sink c.args.works.now.runner
    c.args.devices.now.devices c.args.steps.now in
    let after = scene g.R.Runner g.S.Source g.H.Shelf g.N.Lines g.O.Sink c.settle.new.works.runner
    c.finish.new.devices.devices c.settle.new.steps in
    let store = store_of g.K.Keeper c.args.devices.now.keeper in
    let store_now = store_of g.K.Keeper c.finish.new.devices.keeper in
    let r = c.finish.result in
    let how = c.in_ok-reached.reached in
    let core = c.settle.new.works.engine.core in
    let reached = c.in_ok-reached.ensures in
    let done = c.finish.ensures in
    let is = start_in w found c.as_slice.result.now c.limits.result c.as_slice.ensures
    c.limits.ensures c.begin.new.works.engine.core c.in_ok-begin.ensures.at in
    let begun : IsSoundStart M w found → IsBegun M c.begin.new.works =
    (λ sound. c.in_ok-begin.ensures.begun (start_sound w found c.as_slice.result.now
    c.limits.result c.as_slice.ensures c.limits.ensures M sound)) in
    let reaches : IsSoundStart M w found
    → IfSome before.coming (λ ps. Reaches M start w how ps core before.spent after.spent) =
    (λ sound. subst
    (λ n. IfSome before.coming (λ ps. Reaches M start w how ps core (counts n c.args.steps.now)
    after.spent)) c.begin.ensures.runs (reached.ok (begun sound) w start is)) in
    let runs : Runs M w names last found r before after store store_now = (record {
      follows =
          λ sound. some_map before.coming (λ ps. Reaches M start w how ps core before.spent
          after.spent) (λ ps. Follows (session_from M start w names ps) names last
          (rows_from M w names start ps) r (outs_in before) (outs_in after) store.cell
          store_now.cell) (λ ps so. follows_so M start w ps names how core before.spent after.spent
          so last r (outs_in before) (outs_in after) store.cell store_now.cell
          (done.follows (reached.faithful (begun sound)))) (reaches sound);
      sound =
          λ sound. some_map before.coming (λ ps. Reaches M start w how ps core before.spent
          after.spent) (λ ps. IfSome (kept_from M w names start ps) (λ s. ∥ IsSoundKept M s ∥₁))
          (λ ps so. kept_so M start w ps names (λ o. IfSome o (λ s. ∥ IsSoundKept M s ∥₁)) how core
          before.spent after.spent so (kept_sound M w.most_removed names how core
          (λ all. is_sound M g.met.R.Runner.laws c.settle.new.works (reached.settled all)
          (reached.faithful (begun sound) all)))) (reaches sound);
      spent = λ sound. spends_as M start w names how core before.spent after.spent before.coming
          (reaches sound) r
          (IfOk-weaker r (λ how'. Finished (session_at w.most_removed names M how core) how'
          before.held after.held before.cell after.cell)
          (λ how'. (session_at w.most_removed names M how core).ended ≡ how') (λ how' f. f.ended)
          (done.follows (reached.faithful (begun sound))).ok);
      most = λ sound. spends_most M start w names how core before.spent after.spent before.coming
          (reaches sound) r;
      later = IfErr-weaker r IsRoundEnd IsLater round_later done.kind;
      taken =
          on_ok r (subst (λ s. IsPassed before.coming (g.S.Source.coming s)) (sym done.source)
          reached.taken);
      pictures = IfErr-weaker r IsRoundEnd (λ e. TakesEarly e before.coming after.coming)
          (round_takes before.coming after.coming
          (subst (λ s. IsPassed before.coming (g.S.Source.coming s)) (sym done.source)
          reached.taken)) done.kind;
      source_cause =
          uncaused_source r before.source_count after.source_count
          (ap g.S.Source.fault_count done.source ∙ reached.cause.done) done.kind;
      shelf_cause = done.shelf_cause;
      out_cause = done.out_cause;
      store_cause = done.store_cause;
      lines = ap g.N.Lines.left done.lines;
      lines_count = ap g.N.Lines.fault_count done.lines;
    }) in
    ends M w names last found before after store store_now r runs

pub returns-clause-part : goal.returns-clause-part
returns-clause-part g c =
    let M = g.R.Runner.meaning in
    let w = c.args.work.now in
    let found = stored c.args.found.kept in
    let names = c.args.found.listed.items in
    let last = c.args.found.rows.items in
    let start = begun_for w found in
    let before = scene g.R.Runner g.S.Source g.H.Shelf g.N.Lines g.O.Sink c.args.works.now.runner
    c.args.devices.now.devices c.args.steps.now in
    let after = scene g.R.Runner g.S.Source g.H.Shelf g.N.Lines g.O.Sink c.settle.new.works.runner
    c.finish.new.devices.devices c.settle.new.steps in
    let store = store_of g.K.Keeper c.args.devices.now.keeper in
    let store_now = store_of g.K.Keeper c.finish.new.devices.keeper in
    let r = c.finish.result in
    let how = c.in_ok-reached.reached in
    let core = c.settle.new.works.engine.core in
    let reached = c.in_ok-reached.ensures in
    let done = c.finish.ensures in
    let is = start_in w found c.as_slice.result.now c.limits.result c.as_slice.ensures
    c.limits.ensures c.begin.new.works.engine.core c.in_ok-begin.ensures.at in
    let begun : IsSoundStart M w found → IsBegun M c.begin.new.works =
    (λ sound. c.in_ok-begin.ensures.begun (start_sound w found c.as_slice.result.now
    c.limits.result c.as_slice.ensures c.limits.ensures M sound)) in
    let reaches : IsSoundStart M w found
    → IfSome before.coming (λ ps. Reaches M start w how ps core before.spent after.spent) =
    (λ sound. subst
    (λ n. IfSome before.coming (λ ps. Reaches M start w how ps core (counts n c.args.steps.now)
    after.spent)) c.begin.ensures.runs (reached.ok (begun sound) w start is)) in
    let runs : Runs M w names last found r before after store store_now = (record {
      follows =
          λ sound. some_map before.coming (λ ps. Reaches M start w how ps core before.spent
          after.spent) (λ ps. Follows (session_from M start w names ps) names last
          (rows_from M w names start ps) r (outs_in before) (outs_in after) store.cell
          store_now.cell) (λ ps so. follows_so M start w ps names how core before.spent after.spent
          so last r (outs_in before) (outs_in after) store.cell store_now.cell
          (done.follows (reached.faithful (begun sound)))) (reaches sound);
      sound =
          λ sound. some_map before.coming (λ ps. Reaches M start w how ps core before.spent
          after.spent) (λ ps. IfSome (kept_from M w names start ps) (λ s. ∥ IsSoundKept M s ∥₁))
          (λ ps so. kept_so M start w ps names (λ o. IfSome o (λ s. ∥ IsSoundKept M s ∥₁)) how core
          before.spent after.spent so (kept_sound M w.most_removed names how core
          (λ all. is_sound M g.met.R.Runner.laws c.settle.new.works (reached.settled all)
          (reached.faithful (begun sound) all)))) (reaches sound);
      spent = λ sound. spends_as M start w names how core before.spent after.spent before.coming
          (reaches sound) r
          (IfOk-weaker r (λ how'. Finished (session_at w.most_removed names M how core) how'
          before.held after.held before.cell after.cell)
          (λ how'. (session_at w.most_removed names M how core).ended ≡ how') (λ how' f. f.ended)
          (done.follows (reached.faithful (begun sound))).ok);
      most = λ sound. spends_most M start w names how core before.spent after.spent before.coming
          (reaches sound) r;
      later = IfErr-weaker r IsRoundEnd IsLater round_later done.kind;
      taken =
          on_ok r (subst (λ s. IsPassed before.coming (g.S.Source.coming s)) (sym done.source)
          reached.taken);
      pictures = IfErr-weaker r IsRoundEnd (λ e. TakesEarly e before.coming after.coming)
          (round_takes before.coming after.coming
          (subst (λ s. IsPassed before.coming (g.S.Source.coming s)) (sym done.source)
          reached.taken)) done.kind;
      source_cause =
          uncaused_source r before.source_count after.source_count
          (ap g.S.Source.fault_count done.source ∙ reached.cause.done) done.kind;
      shelf_cause = done.shelf_cause;
      out_cause = done.out_cause;
      store_cause = done.store_cause;
      lines = ap g.N.Lines.left done.lines;
      lines_count = ap g.N.Lines.fault_count done.lines;
    }) in
    stops M w names last found before after store store_now r runs
