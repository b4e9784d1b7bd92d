use Rattle.std.proofs.Common.{arith}
use Rattle.path_tree.proofs.Escapes.{undone, are_bytes}
use Rattle.path_tree.proofs.escaping.escape.Goals as goal

pub returns-clause-undone : goal.returns-clause-undone
returns-clause-undone c =
    undone c.args.text.now (are_bytes c.args.text.now
    (λ i lt. let h = c.type_inv.text i in omega arith))
