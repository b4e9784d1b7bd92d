use Rattle.std.proofs.Common.{sym}
use Rattle.path_tree.proofs.Smaller.{child_smaller}
use Rattle.path_tree.proofs.tree.Tree.child_at.Goals as goal

pub returns-clause-smaller : goal.returns-clause-smaller
returns-clause-smaller c =
    child_smaller c.args.i c.args.self.now c.in_ok-child.child.now (sym c.in_ok-child.ensures)
