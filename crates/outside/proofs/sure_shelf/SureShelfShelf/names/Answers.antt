use Rattle.std.proofs.Common.{arith}
use Rattle.std.proofs.lemmas.Grind.{common_steps}
use Rattle.outside.proofs.Keeping.{names_kept}
use Rattle.outside.proofs.sure_shelf.SureShelfShelf.names.Goals as goal

pub returns-clause-ok : goal.returns-clause-ok
returns-clause-ok c = λ n. grind (arith, common_steps, names_kept)
