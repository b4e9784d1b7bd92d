use Rattle.std.proofs.Common.{rules}
use Rattle.path_tree.specs.Position.{Stands}
use Rattle.path_tree.proofs.Lacking.{stands_gives}
use Rattle.path_tree.proofs.tree.adding.put_new.Goals as goal

pub returns-in-Ok-clause-gives : goal.returns-in-Ok-clause-gives
returns-in-Ok-clause-gives c =
    let stands : Stands c.args.key.now c.args.dict.now.value.entries.items c.in-Ok.field-0 =
    search rules in
    stands_gives c.args.key.now c.args.value.now c.args.dict.now.value c.in-Ok.field-0
    c.requires.kept stands
