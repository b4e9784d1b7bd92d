use Rattle.std.proofs.Common.{arith, false}
use Rattle.std.proofs.lemmas.Grind.{common_steps}
use Rattle.path_tree.proofs.Pieces.{cut, uncut}
use Rattle.path_tree.proofs.path.first_piece.Goals as goal

pub returns-then-end-text-clause-pieces : goal.returns-then-end-text-clause-pieces
returns-then-end-text-clause-pieces c = grind (arith, common_steps, cut false c.args.text.now)

pub returns-else-end-text-clause-pieces : goal.returns-else-end-text-clause-pieces
returns-else-end-text-clause-pieces c = grind (arith, uncut false c.args.text.now)
