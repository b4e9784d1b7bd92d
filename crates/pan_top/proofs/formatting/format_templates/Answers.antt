use Rattle.std.proofs.Common.{inl, inr}
use Rattle.site_build.specs.Session.{WritesEarly}
use Rattle.site_build.proofs.Finishing.{some_map}
use Rattle.format_site.specs.Formats.{formatting_for}
use Rattle.pan_top.specs.Builds.{Wrote}
use Rattle.pan_top.proofs.formatting.format_templates.Goals as goal

pub returns-in-Ok : goal.returns-in-Ok
returns-in-Ok g c = λ spent. inl (record {
  ended = c.in-Ok.ended;
  is = c.after.ensures;
  formats = c.in-Ok.ensures.ok spent;
})

pub returns-in-Err : goal.returns-in-Err
returns-in-Err g c = λ spent.
    let part = c.in-Err.ensures.part spent in
    let old = g.O.Sink.held c.args.devices.now.out in
    let mid = g.O.Sink.held c.format_site.new.devices.out in
    let new = g.O.Sink.held c.close_build.new.out in
    inr (record {
      end = c.in-Err.end;
      is = c.close_build.ensures.status;
      text = some_map (g.S.Source.coming c.args.devices.now.source)
          (λ ps. WritesEarly (formatting_for ps).text c.in-Err.end old mid)
          (λ ps. Wrote (formatting_for ps).text c.in-Err.end c.close_build.result old new)
          (λ ps early. c.close_build.ensures.text (formatting_for ps).text old early) part.text;
      shelf = part.shelf;
      order = part.order;
      spent = part.spent;
      taken = part.taken;
      source_opened = part.source_opened;
      shelf_opened = part.shelf_opened;
      source_count = part.source_count;
      shelf_count = part.shelf_count;
      out_count =
          c.close_build.ensures.count (g.O.Sink.fault_count c.args.devices.now.out) part.out_count;
      lines = part.lines;
      lines_count = part.lines_count;
    })
