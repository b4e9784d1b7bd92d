use Rattle.std.proofs.Common.{◌≡◌, Some, IfErr, inl, inr, refl, rules, ap, sym, subst, ◌∙◌}
use Rattle.std.proofs.lemmas.Result.{IfErr-weaker}
use Rattle.outside.specs.Causes.{Caused}
use Rattle.outside.specs.Cells.{AreSame}
use Rattle.publication.specs.Changing.{AreListed}
use Rattle.site_build.specs.Ends.{IsEndOf, IsFailureOf, OfSource, OfShelf}
use Rattle.site_build.specs.Scenes.{Scene, scene}
use Rattle.site_build.specs.declared.ends.Device.TheVariants as D
use Rattle.site_build.proofs.Opening.{IsOpeningEnd, Over, Ready, breaks, finishes, opened_by, over_from, ready_by, unbegun_if}
use Rattle.site_build.proofs.Publishing.{listed_from, listed_on}
use Rattle.site_build.proofs.run.build_site.Goals as goal

pub returns-in_err-open_source-clause-part : goal.returns-in_err-open_source-clause-part
returns-in_err-open_source-clause-part g c =
    let r = c.from_residual.result in
    let before = scene g.R.Runner g.S.Source g.H.Shelf g.N.Lines g.O.Sink c.args.works.now.runner
    c.args.devices.now c.args.steps.now in
    let kind : IfErr r (IsEndOf OfSource) = search rules in
    let source : Caused (IsFailureOf D.Source) (g.S.Source.fault_count c.args.devices.now.source)
    (g.S.Source.fault_count c.open_source.new.source) r = search rules in
    let shelf : Caused (IsFailureOf D.Shelf) (g.H.Shelf.fault_count c.args.devices.now.shelf)
    (g.H.Shelf.fault_count c.args.devices.now.shelf) r = search rules in
    unbegun_if g.R.Runner.meaning c.args.work.now before _ r _ _ _ _
    (opened_by before _ _ _ _ _ _ _ c.open_source.ensures.coming (λ n. refl) refl)
    (IfErr-weaker r (IsEndOf OfSource) IsOpeningEnd (λ e is. inl is) kind)
    (inl c.in_err-open_source.ensures.refused) (inl refl) source shelf

pub returns-in_err-open_shelf-clause-part : goal.returns-in_err-open_shelf-clause-part
returns-in_err-open_shelf-clause-part g c =
    let r = c.from_residual-in_err-open_shelf.result in
    let before = scene g.R.Runner g.S.Source g.H.Shelf g.N.Lines g.O.Sink c.args.works.now.runner
    c.args.devices.now c.args.steps.now in
    let kind : IfErr r (IsEndOf OfShelf) = search rules in
    let source : Caused (IsFailureOf D.Source) (g.S.Source.fault_count c.args.devices.now.source)
    (g.S.Source.fault_count c.open_source.new.source) r = search rules in
    let shelf : Caused (IsFailureOf D.Shelf) (g.H.Shelf.fault_count c.args.devices.now.shelf)
    (g.H.Shelf.fault_count c.open_shelf.new.shelf) r = search rules in
    unbegun_if g.R.Runner.meaning c.args.work.now before _ r _ _ _ _
    (opened_by before _ _ _ _ _ _ _ c.open_source.ensures.coming c.open_shelf.ensures.same
    c.open_shelf.ensures.changes)
    (IfErr-weaker r (IsEndOf OfShelf) IsOpeningEnd (λ e is. inr is) kind)
    (inr (c.in_ok-open_source.ensures.opened ∙ ap Some c.as_str.ensures.text))
    (inl c.in_err-open_shelf.ensures.refused) source shelf

pub returns-in_err-listed-clause-part : goal.returns-in_err-listed-clause-part
returns-in_err-listed-clause-part g c =
    let r = c.from_residual-in_err-listed.result in
    let before = scene g.R.Runner g.S.Source g.H.Shelf g.N.Lines g.O.Sink c.args.works.now.runner
    c.args.devices.now c.args.steps.now in
    let kind : IfErr r (IsEndOf OfShelf) = search rules in
    let source : Caused (IsFailureOf D.Source) (g.S.Source.fault_count c.args.devices.now.source)
    (g.S.Source.fault_count c.open_source.new.source) r = search rules in
    let shelf : Caused (IsFailureOf D.Shelf) (g.H.Shelf.fault_count c.args.devices.now.shelf)
    (g.H.Shelf.fault_count c.list_shelf.new.shelf) r = search rules in
    unbegun_if g.R.Runner.meaning c.args.work.now before _ r _ _ _ _
    (opened_by before _ _ _ _ _ _ _ c.open_source.ensures.coming
    (λ n. c.list_shelf.ensures.same n ∙ c.open_shelf.ensures.same n)
    (c.list_shelf.ensures.changes ∙ c.open_shelf.ensures.changes))
    (IfErr-weaker r (IsEndOf OfShelf) IsOpeningEnd (λ e is. inr is) kind)
    (inr (c.in_ok-open_source.ensures.opened ∙ ap Some c.as_str.ensures.text))
    (inr (c.list_shelf.ensures.opened ∙ (c.in_ok-open_shelf.ensures.opened
    ∙ ap Some c.as_str-2.ensures.text))) source shelf

-- a build over what was listed
pub returns-clause-ok : goal.returns-clause-ok
returns-clause-ok g c =
    let r = c.build_over.result in
    let before = scene g.R.Runner g.S.Source g.H.Shelf g.N.Lines g.O.Sink c.args.works.now.runner
    c.args.devices.now c.args.steps.now in
    let after = scene g.R.Runner g.S.Source g.H.Shelf g.N.Lines g.O.Sink
    c.build_over.new.works.runner c.build_over.new.devices c.build_over.new.steps in
    let names = c.deref.result.now in
    let w = c.args.work.now in
    let source = c.open_source.new.source in
    let shelf = c.list_shelf.new.shelf in
    let mid : Scene = record before {
      coming = g.S.Source.coming source;
      cell =
          g.H.Shelf.cell shelf;
      changes = g.H.Shelf.changes shelf;
      source_opened =
          g.S.Source.opened source;
      source_count = g.S.Source.fault_count source;
      shelf_opened =
          g.H.Shelf.opened shelf;
      shelf_count = g.H.Shelf.fault_count shelf;
    } in
    let same : AreSame before.cell mid.cell =
    (λ n. c.list_shelf.ensures.same n ∙ c.open_shelf.ensures.same n) in
    let ready : mid ≡ Ready g.R.Runner.meaning w names before after =
    opened_by before _ _ _ (g.S.Source.opened source) (g.H.Shelf.opened shelf)
    (g.S.Source.fault_count source) (g.H.Shelf.fault_count shelf) c.open_source.ensures.coming
    same (c.list_shelf.ensures.changes ∙ c.open_shelf.ensures.changes)
    ∙ ready_by g.R.Runner.meaning w names before after _ _ _ _
    (c.in_ok-open_source.ensures.opened ∙ ap Some c.as_str.ensures.text)
    c.in_ok-open_source.ensures.cause.done (c.list_shelf.ensures.opened
    ∙ (c.in_ok-open_shelf.ensures.opened ∙ ap Some c.as_str-2.ensures.text))
    (c.in_ok-listed.ensures.cause.done ∙ c.in_ok-open_shelf.ensures.cause.done) in
    let listed : AreListed names before.cell =
    listed_from names before.cell mid.cell same (subst (λ names. AreListed names mid.cell)
    (sym c.deref.ensures.value) (listed_on c.in_ok-listed.listed.items
    (g.H.Shelf.cell c.open_shelf.new.shelf) mid.cell c.in_ok-listed.ensures.same
    c.in_ok-listed.ensures.ok c.in_ok-listed.ensures.sorted)) in
    let over : Over g.R.Runner.meaning w names r mid after = (record {
      follows = c.build_over.ensures.follows;
      spent = c.build_over.ensures.spent;
      taken = c.build_over.ensures.taken;
      pictures = c.build_over.ensures.pictures;
      source_opened = c.build_over.ensures.source_opened;
      shelf_opened = c.build_over.ensures.shelf_opened;
      lines = ap g.N.Lines.left c.build_over.ensures.lines;
      lines_count = ap g.N.Lines.fault_count c.build_over.ensures.lines;
      source_cause = c.build_over.ensures.source_cause;
      shelf_cause = c.build_over.ensures.shelf_cause;
      out_cause = c.build_over.ensures.out_cause;
    }) in
    finishes g.R.Runner.meaning w names before after r listed
    (over_from g.R.Runner.meaning w names before after r mid ready over)

pub returns-clause-part : goal.returns-clause-part
returns-clause-part g c =
    let r = c.build_over.result in
    let before = scene g.R.Runner g.S.Source g.H.Shelf g.N.Lines g.O.Sink c.args.works.now.runner
    c.args.devices.now c.args.steps.now in
    let after = scene g.R.Runner g.S.Source g.H.Shelf g.N.Lines g.O.Sink
    c.build_over.new.works.runner c.build_over.new.devices c.build_over.new.steps in
    let names = c.deref.result.now in
    let w = c.args.work.now in
    let source = c.open_source.new.source in
    let shelf = c.list_shelf.new.shelf in
    let mid : Scene = record before {
      coming = g.S.Source.coming source;
      cell =
          g.H.Shelf.cell shelf;
      changes = g.H.Shelf.changes shelf;
      source_opened =
          g.S.Source.opened source;
      source_count = g.S.Source.fault_count source;
      shelf_opened =
          g.H.Shelf.opened shelf;
      shelf_count = g.H.Shelf.fault_count shelf;
    } in
    let same : AreSame before.cell mid.cell =
    (λ n. c.list_shelf.ensures.same n ∙ c.open_shelf.ensures.same n) in
    let ready : mid ≡ Ready g.R.Runner.meaning w names before after =
    opened_by before _ _ _ (g.S.Source.opened source) (g.H.Shelf.opened shelf)
    (g.S.Source.fault_count source) (g.H.Shelf.fault_count shelf) c.open_source.ensures.coming
    same (c.list_shelf.ensures.changes ∙ c.open_shelf.ensures.changes)
    ∙ ready_by g.R.Runner.meaning w names before after _ _ _ _
    (c.in_ok-open_source.ensures.opened ∙ ap Some c.as_str.ensures.text)
    c.in_ok-open_source.ensures.cause.done (c.list_shelf.ensures.opened
    ∙ (c.in_ok-open_shelf.ensures.opened ∙ ap Some c.as_str-2.ensures.text))
    (c.in_ok-listed.ensures.cause.done ∙ c.in_ok-open_shelf.ensures.cause.done) in
    let listed : AreListed names before.cell =
    listed_from names before.cell mid.cell same (subst (λ names. AreListed names mid.cell)
    (sym c.deref.ensures.value) (listed_on c.in_ok-listed.listed.items
    (g.H.Shelf.cell c.open_shelf.new.shelf) mid.cell c.in_ok-listed.ensures.same
    c.in_ok-listed.ensures.ok c.in_ok-listed.ensures.sorted)) in
    let over : Over g.R.Runner.meaning w names r mid after = (record {
      follows = c.build_over.ensures.follows;
      spent = c.build_over.ensures.spent;
      taken = c.build_over.ensures.taken;
      pictures = c.build_over.ensures.pictures;
      source_opened = c.build_over.ensures.source_opened;
      shelf_opened = c.build_over.ensures.shelf_opened;
      lines = ap g.N.Lines.left c.build_over.ensures.lines;
      lines_count = ap g.N.Lines.fault_count c.build_over.ensures.lines;
      source_cause = c.build_over.ensures.source_cause;
      shelf_cause = c.build_over.ensures.shelf_cause;
      out_cause = c.build_over.ensures.out_cause;
    }) in
    breaks g.R.Runner.meaning w names before after r listed
    (over_from g.R.Runner.meaning w names before after r mid ready over)
