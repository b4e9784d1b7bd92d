use Rattle.std.proofs.Common.{◌≡◌, [], None, ap, inl, inr, refl, subst}
use Rattle.engine_session.specs.Compiler.{nothing}
use Rattle.engine_session.specs.Standing.{IsBegun, counts, IsIn}
use Rattle.engine_session.proofs.Fits.{begins}
use Rattle.row_changes.specs.Stores.{store_of}
use Rattle.site_build.specs.Ends.{IsFailureOf}
use Rattle.site_build.specs.Scenes.{scene}
use Rattle.site_build.specs.Session.{limits_of}
use Rattle.site_build.specs.declared.ends.Device.TheVariants as D
use Rattle.site_build.specs.declared.ends.End.TheVariants as E
use Rattle.pan_top.specs.Watches.{Plays}
use Rattle.call_status.specs.declared.status.Status.TheVariants as S
use Rattle.pan_top.proofs.Counting.{counted_of, counted_same}
use Rattle.pan_top.proofs.Watched.{early_held, memory_wrote, not_sinks, plays, plays_from, ready_scene}
use Rattle.pan_top.proofs.watching.watch_unkept.Goals as goal

-- the devices could not be opened
pub returns-in-Err-clause-call : goal.returns-in-Err-clause-call
returns-in-Err-clause-call g c = rw (
  c.beside.ensures.status,
  c.beside.ensures.works,
  c.beside.ensures.devices,
  c.hand_back.ensures.status,
  c.hand_back.ensures.works,
  c.hand_back.ensures.devices,
) (inr (record {
  end = c.in-Err.end;
  opening = c.in-Err.ensures.kind;
  text = c.close_build-status.ensures.text [] (g.O.Sink.held c.args.devices.out)
      (early_held c.in-Err.end (g.O.Sink.held c.args.devices.out));
  coming = c.in-Err.ensures.coming;
  lines = refl;
  lines_count = refl;
  shelf = c.in-Err.ensures.same;
  changes = c.in-Err.ensures.changes;
  spent = refl;
  source_opened = c.in-Err.ensures.source_at;
  shelf_opened = c.in-Err.ensures.shelf_perhaps;
  source_count = counted_of c.in-Err.end _ _ c.in-Err.ensures.source_cause;
  shelf_count = counted_of c.in-Err.end _ _ c.in-Err.ensures.shelf_cause;
  out_count = c.close_build-status.ensures.count (g.O.Sink.fault_count c.args.devices.out)
      (counted_same (IsFailureOf D.Out c.in-Err.end) _ _ refl
      (not_sinks c.in-Err.end c.in-Err.ensures.kind));
}))

-- memory was wanting before the first line
pub returns-in_default-clause-call : goal.returns-in_default-clause-call
returns-in_default-clause-call g c = rw (
  c.beside-in_default.ensures.status,
  c.beside-in_default.ensures.works,
  c.beside-in_default.ensures.devices,
  c.hand_back-in_default.ensures.status,
  c.hand_back-in_default.ensures.works,
  c.hand_back-in_default.ensures.devices,
) (inr (record {
  end = E.Memory;
  opening = tt;
  text = memory_wrote (g.O.Sink.held c.args.devices.out);
  coming = c.in-Ok.ensures.coming;
  lines = refl;
  lines_count = refl;
  shelf = c.in-Ok.ensures.same;
  changes = c.in-Ok.ensures.changes;
  spent = ap (λ n. counts n c.args.steps.now) c.start.ensures.runs;
  source_opened = c.in-Ok.ensures.source_perhaps;
  shelf_opened = c.in-Ok.ensures.shelf_perhaps;
  source_count = counted_same (IsFailureOf D.Source E.Memory) _ _
      c.in-Ok.ensures.source_cause.done (λ is. cc);
  shelf_count = counted_same (IsFailureOf D.Shelf E.Memory) _ _ c.in-Ok.ensures.shelf_cause.done
      (λ is. cc);
  out_count = counted_same (S.Memory ≡ S.OutFault) _ _ refl (λ is. cc);
}))

-- the lines were played
pub returns-clause-call : goal.returns-clause-call
returns-clause-call g c =
    let M = g.R.Runner.meaning in
    let w = c.args.work.now in
    let before = scene g.R.Runner g.S.Source g.H.Shelf g.N.Lines g.O.Sink c.args.works.runner
    c.args.devices c.args.steps.now in
    let after = scene g.R.Runner g.S.Source g.H.Shelf g.N.Lines g.O.Sink
    c.play_all.result.works.runner
    c.play_all.result.devices c.play_all.new.steps in
    let store = store_of g.K.Keeper c.args.keeper in
    let works = c.start.new.works in
    let known = c.in-Ok.ensures.names in
    let is : IsIn w.directories (limits_of w) works.engine.core nothing =
    subst (λ l. IsIn w.directories l works.engine.core nothing) c.limits.ensures
    (subst (λ d. IsIn d c.limits.result works.engine.core nothing) c.as_slice.ensures
    c.in-Ok-start.ensures.at) in
    let opened = ready_scene w before _ _ _ _ _ _ _ _ c.in-Ok.ensures.coming
    c.in-Ok.ensures.source_opened c.in-Ok.ensures.source_cause.done c.in-Ok.ensures.same
    c.in-Ok.ensures.changes c.in-Ok.ensures.shelf_opened c.in-Ok.ensures.shelf_cause.done
    (ap (λ n. counts n c.args.steps.now) c.start.ensures.runs) in
    let played = plays M w (IsBegun M works) (Unit {0})
    (λ u. begins M works c.in-Ok-start.ensures.faithful) _ nothing known.names is refl known.has _
    after store (store_of g.K.Keeper c.play_all.result.keeper) tt c.play_all.result.status
    c.in-Ok.ensures.most (ap (λ s. s.source_opened) opened) (ap (λ s. s.shelf_opened) opened)
    c.play_all.ensures in
    inl (record {
      names = known.names;
      listed = known.listed;
      plays = subst (λ now. Plays M w (Unit {0}) nothing None known.names c.play_all.result.status
          before after store now) (c.play_all.ensures.uncalled refl)
          (plays_from M w (Unit {0}) nothing None known.names c.play_all.result.status before _
          after store _ opened played);
    })

pub returns-clause-store : goal.returns-clause-store
returns-clause-store g c = c.play_all.ensures.uncalled refl
