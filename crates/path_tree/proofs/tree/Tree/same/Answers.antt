use Rattle.path_tree.proofs.Equality.{same-decides}
use Rattle.path_tree.proofs.tree.Tree.same.Goals as goal

pub returns-clause-test : goal.returns-clause-test
returns-clause-test c = same-decides c.equals.result c.args.self.now c.args.other.now
    c.equals.ensures.0 c.equals.ensures.1
