use Rattle.std.proofs.Common.{inl, inr, refl}
use Rattle.kept_build.specs.Stores.{store_of}
use Rattle.site_build.specs.Scenes.{scene}
use Rattle.pan_top.proofs.KeptEnds.{out_counted}
use Rattle.pan_top.proofs.keeping.build_with_rows.Goals as goal

pub returns-in-Ok : goal.returns-in-Ok
returns-in-Ok g c = inl (record {
  ended = c.in-Ok.ended;
  is = c.after.ensures;
  session = c.in-Ok.ensures.ok;
})

pub returns-in-Err : goal.returns-in-Err
returns-in-Err g c =
    let old = c.args.devices.now in
    let new = c.build_kept.new.devices in
    let before = scene g.R.Runner g.S.Source g.H.Shelf g.N.Lines g.O.Sink c.args.works.now.runner
    old.devices c.args.steps.now in
    let mid = scene g.R.Runner g.S.Source g.H.Shelf g.N.Lines g.O.Sink
    c.build_kept.new.works.runner new.devices c.build_kept.new.steps in
    let broke = c.in-Err.ensures.part in
    inr (record {
      end = c.in-Err.end;
      is = c.close_kept.ensures.status;
      mid = mid;
      broke = broke;
      closes = c.close_kept.ensures.closes;
      only = refl;
      out_count = c.close_kept.ensures.count before.out_count
          (out_counted g.R.Runner.meaning c.args.request.now.work.now c.args.request.now.file.now
          c.in-Err.end before mid (store_of g.K.Keeper old.keeper) (store_of g.K.Keeper new.keeper)
          broke);
    })
