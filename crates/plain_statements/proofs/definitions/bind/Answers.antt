use Rattle.std.proofs.Common.{arith}
use Rattle.template_meaning.specs.Statements.{bind_run}
use Rattle.template_meaning.proofs.Leaving.{leaving}
use Rattle.plain_statements.proofs.definitions.bind.Goals as goal

pub returns-in_err-terms-clause-gives : goal.returns-in_err-terms-clause-gives
unfolding bind_run
returns-in_err-terms-clause-gives g c = λ keys. let terms = c.path_terms.ensures keys in
    grind (arith, leaving, terms)
