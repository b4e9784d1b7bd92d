use Rattle.std.proofs.Common.{IfErr, subst, ◌∙◌}
use Rattle.publication.specs.Bounds.{granted, shelf_of}
use Rattle.publication.specs.Leavings.{Left}
use Rattle.publication.proofs.until_failure.publish_until_failure.Goals as goal

pub returns-clause-err : goal.returns-clause-err
returns-clause-err g c =
    subst (λ ws. IfErr c.publish_within.result (λ e. Left e
    (shelf_of (granted c.args.most c.args.listed.now ws)) (g.H.Shelf.cell c.args.shelf.now)
    (g.H.Shelf.cell c.publish_within.new.shelf))) (c.deref.ensures.value ∙ c.in_ok-wants.ensures)
    c.publish_within.ensures.err
