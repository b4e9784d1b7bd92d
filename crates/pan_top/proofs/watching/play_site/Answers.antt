use Rattle.std.proofs.Common.{ap, ◌∙◌}
use Rattle.row_changes.specs.Stores.{store_of}
use Rattle.site_build.specs.Scenes.{scene}
use Rattle.watch.specs.Sites.{IsReady}
use Rattle.call_status.specs.Statuses.{status_after}
use Rattle.pan_top.specs.Watches.{held_by}
use Rattle.pan_top.proofs.Counting.{counted_of}
use Rattle.pan_top.proofs.Watched.{all_ended, all_halted}
use Rattle.pan_top.proofs.watching.play_site.Goals as goal

pub returns-in-Ok : goal.returns-in-Ok
returns-in-Ok g c =
    let old = c.args.site.now in
    let new = c.play.new.site in
    let before = scene g.R.Runner g.S.Source g.H.Shelf g.N.Lines g.O.Sink old.works.runner (record {
      source = old.source;
      shelf = old.shelf;
      lines = c.args.lines.now;
      out = c.args.out.now;
    }) c.args.steps.now in
    all_ended g.R.Runner.meaning (IsReady g.R.Runner.meaning old) (held_by old) (held_by new)
    c.after.result before _ (store_of g.K.Keeper old.carried.keeper) (store_of g.K.Keeper new.carried.keeper)
    c.play.ensures.source_opened c.play.ensures.shelf_opened c.play.ensures.store_opened
    (λ none. ap (store_of g.K.Keeper) (c.play.ensures.unkept none).0) c.in-Ok.ensures.ok
    (c.after.ensures ∙ ap status_after c.ended_by.ensures) c.in-Ok.ensures.lines_cause.done
    c.in-Ok.ensures.out_cause.done

pub returns-in-Err : goal.returns-in-Err
returns-in-Err g c =
    let old = c.args.site.now in
    let new = c.play.new.site in
    let before = scene g.R.Runner g.S.Source g.H.Shelf g.N.Lines g.O.Sink old.works.runner (record {
      source = old.source;
      shelf = old.shelf;
      lines = c.args.lines.now;
      out = c.args.out.now;
    }) c.args.steps.now in
    all_halted g.R.Runner.meaning (IsReady g.R.Runner.meaning old) (held_by old) (held_by new)
    c.close.result before _ (store_of g.K.Keeper old.carried.keeper) (store_of g.K.Keeper new.carried.keeper)
    c.play.ensures.source_opened c.play.ensures.shelf_opened c.play.ensures.store_opened
    (λ none. ap (store_of g.K.Keeper) (c.play.ensures.unkept none).0) c.in-Err.end
    (g.O.Sink.held c.play.new.out) c.in-Err.ensures.err c.close.ensures.closes
    (counted_of c.in-Err.end _ _ c.in-Err.ensures.lines_cause)
    (c.close.ensures.count (g.O.Sink.fault_count c.args.out.now)
    (counted_of c.in-Err.end _ _ c.in-Err.ensures.out_cause))
