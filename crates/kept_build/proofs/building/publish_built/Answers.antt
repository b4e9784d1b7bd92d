use Rattle.std.proofs.Common.{◌≡◌, ap, ◌∙◌, subst}
use Rattle.std.specs.Prelude.{Err}
use Rattle.std.proofs.Math.Path.{subst₂}
use Rattle.std.proofs.lemmas.Result.{err_from_is_err_and}
use Rattle.outside.specs.Contents.{Appends, AppendsPart}
use Rattle.publication.specs.Bounds.{answer_over, granted, shelf_of}
use Rattle.publication.specs.Changing.{BegunOver, MadeOver}
use Rattle.publication.specs.Stands.{Stands}
use Rattle.publication.specs.Wants.{wants_of}
use Rattle.session.specs.Sessions.{ended_by}
use Rattle.site_build.specs.Ends as site
use Rattle.site_build.specs.Rounds.{given_by}
use Rattle.site_build.specs.Scenes.{outs}
use Rattle.site_build.specs.Session.{ended_behind, text_behind}
use Rattle.site_build.specs.declared.ends.Device.TheVariants as D
use Rattle.engine_session.specs.Standing.{compiled_in}
use Rattle.kept_build.specs.Stores.{Keeps}
use Rattle.kept_build.specs.Rounds.{rows_in}
use Rattle.kept_build.proofs.Ending.{all_done, unpublished, unsaved, untold}
use Rattle.kept_build.proofs.Keeping.{here}
use Rattle.kept_build.proofs.Counting.{failure_on, uncaused_out}
use Rattle.kept_build.proofs.building.publish_built.Goals as goal

pub returns-in_err-publication-clause-follows : goal.returns-in_err-publication-clause-follows
returns-in_err-publication-clause-follows g c =
    let most = c.args.over.most in
    let names = c.args.over.listed.items in
    let b = c.args.built.now in
    let ws = wants_of b.profiles.items in
    let e = c.in_err-publication.field-0.0 in
    let r = c.from_residual.result in
    let p = err_from_is_err_and r c.from_residual.ensures.1 in
    let before =
    outs g.H.Shelf g.O.Sink c.args.devices.now.devices.shelf c.args.devices.now.devices.out in
    let cell = g.H.Shelf.cell c.publish.new.shelf in
    let changes = g.H.Shelf.changes c.publish.new.shelf in
    let told = c.in_err-publication.ensures in
    let at = c.deref.ensures.value in
    let of = c.deref-2.ensures.value in
    unpublished (given_by most names b) names c.args.over.rows.items
    (rows_in (answer_over most names ws) c.args.works.now.engine.core) r before cell changes
    (g.K.Keeper.cell c.args.devices.now.keeper) e
    (p.1 ∙ ap (λ x. Err x) p.2) told.kind
    (subst₂ (λ ns ps. site.Stopped e (shelf_of (granted most ns (wants_of ps))) before.cell cell) at
    of told.err)
    (λ tells. subst₂ (λ ns ps. BegunOver (granted most ns (wants_of ps)) ns before.cell cell
    before.changes changes) at of (told.begun tells))

pub returns-in_err-publication-clause-shelf_cause :
    goal.returns-in_err-publication-clause-shelf_cause
returns-in_err-publication-clause-shelf_cause g c =
    let r = c.from_residual.result in
    let p = err_from_is_err_and r c.from_residual.ensures.1 in
    failure_on D.Shelf (g.H.Shelf.fault_count c.args.devices.now.devices.shelf)
    (g.H.Shelf.fault_count c.publish.new.shelf) r c.in_err-publication.field-0.0
    (p.1 ∙ ap (λ x. Err x) p.2) c.in_err-publication.ensures.cause

pub returns-in_err-publication-clause-out_cause : goal.returns-in_err-publication-clause-out_cause
returns-in_err-publication-clause-out_cause g c =
    let r = c.from_residual.result in
    let p = err_from_is_err_and r c.from_residual.ensures.1 in
    uncaused_out r (g.O.Sink.fault_count c.args.devices.now.devices.out)
    c.in_err-publication.field-0.0 (p.1 ∙ ap (λ x. Err x) p.2) c.in_err-publication.ensures.kind

pub returns-in_err-keep-clause-follows : goal.returns-in_err-keep-clause-follows
returns-in_err-keep-clause-follows g c =
    let most = c.args.over.most in
    let names = c.args.over.listed.items in
    let b = c.args.built.now in
    let ws = wants_of b.profiles.items in
    let r = c.from_residual-in_err-keep.result in
    let p = err_from_is_err_and r c.from_residual-in_err-keep.ensures.1 in
    let before =
    outs g.H.Shelf g.O.Sink c.args.devices.now.devices.shelf c.args.devices.now.devices.out in
    let cell = g.H.Shelf.cell c.publish.new.shelf in
    let changes = g.H.Shelf.changes c.publish.new.shelf in
    let told = c.in_ok-publication.ensures in
    let at = c.deref.ensures.value in
    let of = c.deref-2.ensures.value in
    unsaved most names ws b.report.items (ended_by b.has_faults) c.args.over.rows.items
    (rows_in (answer_over most names ws) c.args.works.now.engine.core) before cell changes
    (g.K.Keeper.cell c.args.devices.now.keeper) (g.K.Keeper.cell c.keep.new.keeper)
    (subst₂ (λ ns ps. Stands (shelf_of (granted most ns (wants_of ps))) before.cell cell) at of
    told.ok)
    (λ tells. subst₂ (λ ns ps. MadeOver (granted most ns (wants_of ps)) ns before.cell cell
    before.changes changes) at of (told.made tells))
    r c.in_err-keep.field-0.0 (p.1 ∙ ap (λ x. Err x) p.2) c.in_err-keep.ensures.kind
    c.in_err-keep.ensures.err

pub returns-in_err-tell-clause-follows : goal.returns-in_err-tell-clause-follows
returns-in_err-tell-clause-follows g c =
    let most = c.args.over.most in
    let names = c.args.over.listed.items in
    let b = c.args.built.now in
    let ws = wants_of b.profiles.items in
    let core = c.args.works.now.engine.core in
    let last = c.args.over.rows.items in
    let r = c.from_residual-in_err-tell.result in
    let p = err_from_is_err_and r c.from_residual-in_err-tell.ensures.1 in
    let before =
    outs g.H.Shelf g.O.Sink c.args.devices.now.devices.shelf c.args.devices.now.devices.out in
    let cell = g.H.Shelf.cell c.publish.new.shelf in
    let changes = g.H.Shelf.changes c.publish.new.shelf in
    let old = g.K.Keeper.cell c.args.devices.now.keeper in
    let new = g.K.Keeper.cell c.keep.new.keeper in
    let held = g.O.Sink.held c.tell.new.out in
    let publication = c.in_ok-publication.publication in
    let told = c.in_ok-publication.ensures in
    let at = c.deref.ensures.value in
    let of = c.deref-2.ensures.value in
    let answer : publication ≡ answer_over most names ws =
    subst₂ (λ ns ps. publication ≡ answer_over most ns (wants_of ps)) at of told.answer in
    untold most names ws b.report.items (ended_by b.has_faults) last
    (rows_in (answer_over most names ws) core) before cell changes old new
    (subst₂ (λ ns ps. Stands (shelf_of (granted most ns (wants_of ps))) before.cell cell) at of
    told.ok)
    (λ tells. subst₂ (λ ns ps. MadeOver (granted most ns (wants_of ps)) ns before.cell cell
    before.changes changes) at of (told.made tells))
    publication answer
    (subst (λ q. Keeps last (rows_in q core) old new) answer
    (c.in_ok-keep.ensures.ok core.dirs core.limits (compiled_in core) (here core)))
    held r c.in_err-tell.field-0.0 (p.1 ∙ ap (λ x. Err x) p.2) c.in_err-tell.ensures.kind
    (subst (λ report. AppendsPart before.held (text_behind publication report) held)
    c.deref-3.ensures.value c.in_err-tell.ensures.err)

pub returns-clause-follows : goal.returns-clause-follows
returns-clause-follows g c =
    let most = c.args.over.most in
    let names = c.args.over.listed.items in
    let b = c.args.built.now in
    let ws = wants_of b.profiles.items in
    let core = c.args.works.now.engine.core in
    let last = c.args.over.rows.items in
    let before =
    outs g.H.Shelf g.O.Sink c.args.devices.now.devices.shelf c.args.devices.now.devices.out in
    let cell = g.H.Shelf.cell c.publish.new.shelf in
    let changes = g.H.Shelf.changes c.publish.new.shelf in
    let old = g.K.Keeper.cell c.args.devices.now.keeper in
    let new = g.K.Keeper.cell c.keep.new.keeper in
    let held = g.O.Sink.held c.tell.new.out in
    let publication = c.in_ok-publication.publication in
    let told = c.in_ok-publication.ensures in
    let at = c.deref.ensures.value in
    let of = c.deref-2.ensures.value in
    let answer : publication ≡ answer_over most names ws =
    subst₂ (λ ns ps. publication ≡ answer_over most ns (wants_of ps)) at of told.answer in
    all_done most names ws b.report.items (ended_by b.has_faults) last
    (rows_in (answer_over most names ws) core) before cell changes old new
    (subst₂ (λ ns ps. Stands (shelf_of (granted most ns (wants_of ps))) before.cell cell) at of
    told.ok)
    (λ tells. subst₂ (λ ns ps. MadeOver (granted most ns (wants_of ps)) ns before.cell cell
    before.changes changes) at of (told.made tells))
    publication answer
    (subst (λ q. Keeps last (rows_in q core) old new) answer
    (c.in_ok-keep.ensures.ok core.dirs core.limits (compiled_in core) (here core)))
    held c.in_ok-tell.field-0
    (subst (λ how. c.in_ok-tell.field-0 ≡ ended_behind publication how) c.ended_by-how.ensures
    c.in_ok-tell.ensures.ended)
    (subst (λ report. Appends before.held (text_behind publication report) held)
    c.deref-3.ensures.value c.in_ok-tell.ensures.ok)
