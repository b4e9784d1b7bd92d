use Rattle.std.proofs.Common.{sym}
use Rattle.path_tree.proofs.Smaller.{term_smaller}
use Rattle.path_tree.proofs.tree.Tree.child.Goals as goal

pub returns-clause-smaller : goal.returns-clause-smaller
returns-clause-smaller c =
    term_smaller c.args.term.now c.args.self.now c.in_ok-child.child.now (sym c.in_ok-child.ensures)
