use Rattle.std.proofs.Common.{◌≡◌, Some, ap, refl, ◌∙◌}
use Rattle.site_build.specs.Scenes.{seen}
use Rattle.format_site.proofs.Opening.{Over, Ready, breaks, err_for_all, finishes, ok_for_all, over_from, ready_by}
use Rattle.site_build.specs.Scenes.{Scene}
use Rattle.site_build.proofs.Opening.{opened_by}
use Rattle.format_site.proofs.run.format_site.Goals as goal

pub returns-clause-ok : goal.returns-clause-ok
returns-clause-ok g c =
    let r = c.format_next.result in
    ok_for_all r _ (λ spent.
    let before = seen g.S.Source g.H.Shelf g.N.Lines g.O.Sink c.args.devices.now spent in
    let after = seen g.S.Source g.H.Shelf g.N.Lines g.O.Sink c.format_next.new.devices spent in
    let source = c.open_source.new.source in
    let shelf = c.open_shelf.new.shelf in
    let mid : Scene = record before {
      coming = g.S.Source.coming source;
      cell = g.H.Shelf.cell shelf;
      changes =
          g.H.Shelf.changes shelf;
      source_opened = g.S.Source.opened source;
      source_count =
          g.S.Source.fault_count source;
      shelf_opened = g.H.Shelf.opened shelf;
      shelf_count =
          g.H.Shelf.fault_count shelf;
    } in
    let ready : mid ≡ Ready c.args.pair.now before after = opened_by before _ _ _
    (g.S.Source.opened source) (g.H.Shelf.opened shelf) (g.S.Source.fault_count source)
    (g.H.Shelf.fault_count shelf) c.open_source.ensures.coming c.open_shelf.ensures.same
    c.open_shelf.ensures.changes ∙ ready_by c.args.pair.now before after _ _ _ _
    (c.in_ok-open_source.ensures.opened ∙ ap Some c.as_str.ensures.text)
    c.in_ok-open_source.ensures.cause.done
    (c.in_ok-open_shelf.ensures.opened ∙ ap Some c.as_str-2.ensures.text)
    c.in_ok-open_shelf.ensures.cause.done in
    let over : Over r mid after = (record {
      follows = c.format_next.ensures.follows;
      spent = refl;
      taken = c.format_next.ensures.taken;
      pictures = c.format_next.ensures.pictures;
      source_opened = c.format_next.ensures.source_opened;
      shelf_opened = c.format_next.ensures.shelf_opened;
      lines = ap g.N.Lines.left c.format_next.ensures.lines;
      lines_count = ap g.N.Lines.fault_count c.format_next.ensures.lines;
      source_cause = c.format_next.ensures.source_cause;
      shelf_cause = c.format_next.ensures.shelf_cause;
      out_cause = c.format_next.ensures.out_cause;
    }) in
    finishes c.args.pair.now before after r
    (over_from c.args.pair.now before after r mid ready over))

pub returns-clause-part : goal.returns-clause-part
returns-clause-part g c =
    let r = c.format_next.result in
    err_for_all r _ (λ spent.
    let before = seen g.S.Source g.H.Shelf g.N.Lines g.O.Sink c.args.devices.now spent in
    let after = seen g.S.Source g.H.Shelf g.N.Lines g.O.Sink c.format_next.new.devices spent in
    let source = c.open_source.new.source in
    let shelf = c.open_shelf.new.shelf in
    let mid : Scene = record before {
      coming = g.S.Source.coming source;
      cell = g.H.Shelf.cell shelf;
      changes =
          g.H.Shelf.changes shelf;
      source_opened = g.S.Source.opened source;
      source_count =
          g.S.Source.fault_count source;
      shelf_opened = g.H.Shelf.opened shelf;
      shelf_count =
          g.H.Shelf.fault_count shelf;
    } in
    let ready : mid ≡ Ready c.args.pair.now before after = opened_by before _ _ _
    (g.S.Source.opened source) (g.H.Shelf.opened shelf) (g.S.Source.fault_count source)
    (g.H.Shelf.fault_count shelf) c.open_source.ensures.coming c.open_shelf.ensures.same
    c.open_shelf.ensures.changes ∙ ready_by c.args.pair.now before after _ _ _ _
    (c.in_ok-open_source.ensures.opened ∙ ap Some c.as_str.ensures.text)
    c.in_ok-open_source.ensures.cause.done
    (c.in_ok-open_shelf.ensures.opened ∙ ap Some c.as_str-2.ensures.text)
    c.in_ok-open_shelf.ensures.cause.done in
    let over : Over r mid after = (record {
      follows = c.format_next.ensures.follows;
      spent = refl;
      taken = c.format_next.ensures.taken;
      pictures = c.format_next.ensures.pictures;
      source_opened = c.format_next.ensures.source_opened;
      shelf_opened = c.format_next.ensures.shelf_opened;
      lines = ap g.N.Lines.left c.format_next.ensures.lines;
      lines_count = ap g.N.Lines.fault_count c.format_next.ensures.lines;
      source_cause = c.format_next.ensures.source_cause;
      shelf_cause = c.format_next.ensures.shelf_cause;
      out_cause = c.format_next.ensures.out_cause;
    }) in
    breaks c.args.pair.now before after r (over_from c.args.pair.now before after r mid ready over))
