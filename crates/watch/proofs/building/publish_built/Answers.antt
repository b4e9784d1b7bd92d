use Rattle.std.proofs.Common.{◌++◌, ap, inl, inr, ◌∙◌}
use Rattle.engine_session.specs.Standing.{compiled_in, machine_in}
use Rattle.publication.proofs.Planning.{on_err}
use Rattle.session.specs.Sessions.{NotSaved, saved_text}
use Rattle.session.specs.Texts.{publication_text}
use Rattle.watch.proofs.Ready.{here}
use Rattle.watch.proofs.Publishing.{stopped_announcing}
use Rattle.watch.specs.Read.{as_saved}
use Rattle.watch.specs.Sites.{shelved, stocked}
use Rattle.kept_works.specs.Kept.{rows_by}
use Rattle.watch.proofs.building.publish_built.Goals as goal

pub returns-clause-done : goal.returns-clause-done
returns-clause-done g c = λ both.
    let core = c.args.works.now.engine.core in
    let a = c.in_ok-announced.ensures.done both in
    record {
      publication = c.in_ok-announced.announced.publication;
      saved = as_saved c.in_ok-saving.saving;
      faults = a.gives.has_faults;
      written = c.in_ok-report.ensures ∙ ap (λ before. before ++ (publication_text
          c.in_ok-announced.announced.publication ++ (saved_text (as_saved c.in_ok-saving.saving) ++
          c.in_ok-announced.announced.built.report.items))) c.requires.text ∙ ap (λ report.
          publication_text c.in_ok-announced.announced.publication ++ (saved_text (as_saved
          c.in_ok-saving.saving) ++ report)) a.gives.report;
      shelf = a.shelf;
      stock = c.in_ok-saving.ensures.saved core.dirs core.limits (compiled_in core) (here core);
      keys = a.keys;
      bound = a.bound;
    }

pub returns-in_err-announced-clause-left : goal.returns-in_err-announced-clause-left
returns-in_err-announced-clause-left g c = λ both.
    let core = c.args.works.now.engine.core in
    on_err c.from_residual.result (stopped_announcing (machine_in g.R.Runner.meaning core) (rows_by
    core.dirs core.limits (compiled_in core)) (compiled_in core) c.args.publisher.now (shelved
    g.H.Shelf c.args.shelf.now) (shelved g.H.Shelf c.announce.new.shelf) (stocked g.K.Keeper
    c.args.carried.now.keeper c.args.carried.now.rows) (c.in_err-announced.ensures.left both))

pub returns-in_err-saving-clause-left : goal.returns-in_err-saving-clause-left
returns-in_err-saving-clause-left g c = λ both.
    let a = c.in_ok-announced.ensures.done both in
    on_err c.from_residual-in_err-saving.result (inr (inr (record {
      publication = c.in_ok-announced.announced.publication;
      saved = NotSaved;
      shelf = a.shelf;
      removals = a.removals;
      stock = inr c.in_err-saving.ensures.unsaved;
    })))

pub returns-in_err-report-clause-left : goal.returns-in_err-report-clause-left
returns-in_err-report-clause-left g c = λ both.
    let core = c.args.works.now.engine.core in
    let a = c.in_ok-announced.ensures.done both in
    on_err c.from_residual-in_err-report.result (inr (inr (record {
      publication = c.in_ok-announced.announced.publication;
      saved = as_saved c.in_ok-saving.saving;
      shelf = a.shelf;
      removals = a.removals;
      stock = inl (c.in_ok-saving.ensures.saved core.dirs core.limits (compiled_in core) (here
          core));
    })))
