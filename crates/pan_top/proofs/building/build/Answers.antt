use Rattle.std.proofs.Common.{inl, inr}
use Rattle.site_build.specs.Session.{WritesEarly, session_for}
use Rattle.site_build.proofs.Finishing.{some_map}
use Rattle.pan_top.specs.Builds.{Wrote}
use Rattle.pan_top.proofs.building.build.Goals as goal

pub returns-in-Ok : goal.returns-in-Ok
returns-in-Ok g c = record {
  session = inl (record {
    ended = c.in-Ok.ended;
    is = c.after.ensures;
    session =
        c.in-Ok.ensures.ok;
  });
  lines = c.in-Ok.ensures.ok.lines;
  lines_count = c.in-Ok.ensures.ok.lines_count;
}

pub returns-in-Err : goal.returns-in-Err
returns-in-Err g c =
    let M = g.R.Runner.meaning in
    let w = c.args.work.now in
    let e = c.in-Err.end in
    let part = c.in-Err.ensures.part in
    let old = g.O.Sink.held c.args.devices.now.out in
    let mid = g.O.Sink.held c.build_site.new.devices.out in
    let new = g.O.Sink.held c.close_build.new.out in
    record {
      session = inr (record {
        end = e;
        is = c.close_build.ensures.status;
        names = part.names;
        listed = part.listed;
        text = some_map (g.S.Source.coming c.args.devices.now.source)
            (λ ps. WritesEarly (session_for M w part.names ps).text e old mid)
            (λ ps. Wrote (session_for M w part.names ps).text e c.close_build.result old new)
            (λ ps early. c.close_build.ensures.text (session_for M w part.names ps).text old early)
            part.text;
        shelf = part.shelf;
        order = part.order;
        spent = part.spent;
        taken = part.taken;
        source_opened = part.source_opened;
        shelf_opened = part.shelf_opened;
        source_count = part.source_count;
        shelf_count = part.shelf_count;
        out_count = c.close_build.ensures.count (g.O.Sink.fault_count c.args.devices.now.out)
            part.out_count;
      });
      lines = part.lines;
      lines_count = part.lines_count;
    }
