use Rattle.std.proofs.Common.{◌≡◌, ℕ, List, inl, inr, refl, subst, ◌∙◌}
use Rattle.publication.proofs.Planning.{on_err}
use Rattle.publication.specs.Bounds.{may_stand_after}
use Rattle.publication.specs.Published.{may_stand_in}
use Rattle.publication.specs.Wants.{wants_of}
use Rattle.watch.proofs.Cutting.{cut_short}
use Rattle.watch.specs.Shelves.{IsPublished}
use Rattle.watch.specs.Sites.{shelved}
use Rattle.watch.specs.Steps.{Interrupts}
use Rattle.watch.proofs.building.announce.Goals as goal

pub returns-clause-done : goal.returns-clause-done
returns-clause-done g c = λ both.
    let p = c.in_ok-publication.publication in
    let known = c.args.publisher.now in
    let before = shelved g.H.Shelf c.args.shelf.now in
    let after = shelved g.H.Shelf c.publish.new.shelf in
    let gives = c.in_ok-built.ensures.gives both in
    let profiles = c.deref.ensures.value ∙ gives.profiles in
    record {
      gives = gives;
      shelf = subst (λ profiles. IsPublished known.most (may_stand_in known) profiles p before
          after) profiles (record {
            bounded = c.in_ok-publication.ensures.bounded;
            done =
                c.in_ok-publication.ensures.ok;
            order = λ tells. record {
              publisher = known;
              knows = refl;
              log = c.in_ok-publication.ensures.log tells;
            };
          });
      removals = c.publish.ensures.within;
      keys = subst (λ profiles. (n : List ℕ) → may_stand_in c.publish.new.self n ≡ may_stand_after
          (wants_of profiles) p (may_stand_in known) n) profiles c.in_ok-publication.ensures.keys;
      bound = c.publish.ensures.most;
    }

pub returns-in_err-built-clause-left : goal.returns-in_err-built-clause-left
returns-in_err-built-clause-left g c = λ both. on_err c.from_residual.result (inl refl)

pub returns-in_err-publication-clause-left : goal.returns-in_err-publication-clause-left
returns-in_err-publication-clause-left g c = λ both.
    on_err c.from_residual-in_err-publication.result (inr (subst (λ profiles. Interrupts
    c.args.publisher.now.most (wants_of profiles) (may_stand_in c.args.publisher.now) (shelved
    g.H.Shelf c.args.shelf.now) (shelved g.H.Shelf c.publish.new.shelf)) (c.deref.ensures.value
    ∙ (c.in_ok-built.ensures.gives both).profiles) (cut_short _ _ _ _ _
    c.in_err-publication.ensures.err c.publish.ensures.later c.publish.ensures.within)))

pub returns-clause-texts : goal.returns-clause-texts
returns-clause-texts g c = c.in_ok-built.ensures.texts
