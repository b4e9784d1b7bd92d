use Rattle.std.proofs.Common.{sym}
use Rattle.path_tree.specs.declared.path.Term.TheVariants as term
use Rattle.path_tree.proofs.Smaller.{term_smaller}
use Rattle.path_tree.proofs.tree.Tree.field.Goals as goal

pub returns-clause-smaller : goal.returns-clause-smaller
returns-clause-smaller c =
    term_smaller (term.Key c.args.key.now) c.args.self.now c.in_ok-field.field.now
    (sym c.in_ok-field.ensures)
