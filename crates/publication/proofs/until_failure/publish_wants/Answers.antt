use Rattle.std.proofs.Common.{refl}
use Rattle.publication.proofs.Shelving.{all_stands, part_stands}
use Rattle.publication.proofs.until_failure.publish_wants.Goals as goal

pub returns-clause-ok : goal.returns-clause-ok
returns-clause-ok g c = all_stands c.bring_all.result c.args.wants.now c.args.wants.now _ _ refl
    c.bring_all.ensures.ok

pub returns-clause-err : goal.returns-clause-err
returns-clause-err g c =
    part_stands c.bring_all.result c.args.wants.now c.args.wants.now _ _ refl
    c.bring_all.ensures.err
