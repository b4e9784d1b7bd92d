use Rattle.std.proofs.Common.{sym}
use Rattle.path_tree.proofs.Removals.{left}
use Rattle.path_tree.proofs.tree.Tree.remove.Goals as goal

pub returns-in-None-clause-ok : goal.returns-in-None-clause-ok
returns-in-None-clause-ok c =
    sym (left c.args.terms.now c.args.self.now (sym c.in-None.ensures.value))
