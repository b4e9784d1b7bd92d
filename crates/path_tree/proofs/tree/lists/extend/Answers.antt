use Rattle.std.proofs.Common.{arith}
use Rattle.std.proofs.lemmas.Grind.{common_steps}
use Rattle.path_tree.proofs.Filling.{extended}
use Rattle.path_tree.proofs.tree.lists.extend.Goals as goal

pub returns-clause-ok : goal.returns-clause-ok
returns-clause-ok c =
    extended c.args.items.now.items c.args.index c.loop.counter c.args.value c.push-2.new.self.items
    (grind (arith, common_steps))
    (omega (arith, c.args.items.now.ok.0))
