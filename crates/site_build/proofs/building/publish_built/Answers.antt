use Rattle.std.proofs.Common.{IfErr, OnErr, subst, rules, ◌≡◌}
use Rattle.std.specs.Prelude.{IfOk, OnOk}
use Rattle.outside.specs.Contents.{Appends, AppendsPart}
use Rattle.std.proofs.lemmas.Result.{IfErr-weaker, err_from_is_err_and}
use Rattle.publication.specs.Bounds.{answer_over, granted, shelf_of}
use Rattle.publication.specs.Changing.{MadeOver, BegunOver}
use Rattle.publication.specs.Stands.{Stands}
use Rattle.publication.specs.Wants.{wants_of}
use Rattle.publication.proofs.Planning.{on_err}
use Rattle.session.specs.Sessions.{ended_by}
use Rattle.site_build.specs.Ends.{IsEndOf, OfName, Stopped}
use Rattle.site_build.specs.Session.{ended_behind, text_behind}
use Rattle.site_build.specs.Rounds.{given_by}
use Rattle.site_build.proofs.Ending.{quiet, done_stopped, on_ok, stopped_at, told_ok, told_text}
use Rattle.site_build.specs.Scenes.{outs}
use Rattle.site_build.proofs.Following.{broken_follows}
use Rattle.site_build.proofs.Publishing.{over_all}
use Rattle.site_build.proofs.building.publish_built.Goals as goal

pub returns-in_err-publication-clause-follows : goal.returns-in_err-publication-clause-follows
returns-in_err-publication-clause-follows g c =
    let r = c.from_residual.result in
    let p = err_from_is_err_and r c.from_residual.ensures.1 in
    let kind : IfErr r (IsEndOf OfName) = search rules in
    let is : IfErr r (λ e. e ≡ c.in_err-publication.field-0.0) = search rules in
    let old = g.H.Shelf.cell c.args.shelf.now in
    let new = g.H.Shelf.cell c.publish.new.shelf in
    let before = outs g.H.Shelf g.O.Sink c.args.shelf.now c.args.out.now in
    let after = outs g.H.Shelf g.O.Sink c.publish.new.shelf c.args.out.now in
    let s = given_by c.args.most c.args.listed.now c.args.built in
    broken_follows s c.args.listed.now r before after p.0 p.1
    (IfErr-weaker _ _ _ (λ e is. quiet s.text (g.O.Sink.held c.args.out.now) e is) kind)
    (stopped_at r c.in_err-publication.field-0.0 s.shelf old new is
    (subst (λ ps. Stopped c.in_err-publication.field-0.0
    (shelf_of (granted c.args.most c.args.listed.now (wants_of ps))) old new)
    c.deref.ensures.value c.in_err-publication.ensures.err))
    (on_err r (λ told. subst (λ ps. BegunOver (granted c.args.most c.args.listed.now (wants_of ps))
    c.args.listed.now old new before.changes after.changes) c.deref.ensures.value
    (c.in_err-publication.ensures.begun told)))

-- the publication was done, or refused
pub returns-clause-follows : goal.returns-clause-follows
returns-clause-follows g c =
    let names = c.args.listed.now in
    let ws = wants_of c.args.built.profiles.items in
    let p = c.in_ok-publication.publication in
    let r = c.tell.result in
    let old = g.H.Shelf.cell c.args.shelf.now in
    let new = g.H.Shelf.cell c.publish.new.shelf in
    let before = g.H.Shelf.changes c.args.shelf.now in
    let now = g.H.Shelf.changes c.publish.new.shelf in
    let held = g.O.Sink.held c.args.out.now in
    let held' = g.O.Sink.held c.tell.new.out in
    let is : p ≡ answer_over c.args.most names ws =
    subst (λ ps. p ≡ answer_over c.args.most names (wants_of ps)) c.deref.ensures.value
    c.in_ok-publication.ensures.answer in
    let done : Stands (shelf_of (granted c.args.most names ws)) old new =
    subst (λ ps. Stands (shelf_of (granted c.args.most names (wants_of ps))) old new)
    c.deref.ensures.value c.in_ok-publication.ensures.ok in
    record {
      ok = told_ok c.args.most names ws c.args.built.report.items (ended_by c.args.built.has_faults)
          p r held held' old new is done
          (subst (λ how. IfOk r (λ reached. reached ≡ ended_behind p how)) c.ended_by-how.ensures
          c.tell.ensures.ended)
          (subst (λ report. OnOk r (Appends held (text_behind p report) held'))
          c.deref-2.ensures.value c.tell.ensures.ok);
      text = told_text c.args.most names ws c.args.built.report.items
          (ended_by c.args.built.has_faults) p r held held' is c.tell.ensures.kind
          (subst (λ report. OnErr r (AppendsPart held (text_behind p report) held'))
          c.deref-2.ensures.value c.tell.ensures.err);
      shelf = IfErr-weaker _ _ _ (λ e is. done_stopped e (granted c.args.most names ws) old new is
          done) c.tell.ensures.kind;
      made = on_ok r (λ told. subst (λ ps. MadeOver (granted c.args.most names (wants_of ps)) names
          old new before now) c.deref.ensures.value (c.in_ok-publication.ensures.made told));
      begun = on_err r (λ told. over_all (granted c.args.most names ws) names old new before now
          (subst (λ ps. MadeOver (granted c.args.most names (wants_of ps)) names old new before now)
          c.deref.ensures.value (c.in_ok-publication.ensures.made told)));
    }
