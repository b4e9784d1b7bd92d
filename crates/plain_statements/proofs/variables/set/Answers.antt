use Rattle.std.proofs.Common.{arith, rules}
use Rattle.template_meaning.specs.Statements.{set_run}
use Rattle.plain_statements.proofs.Refused.{unset_comes}
use Rattle.plain_statements.proofs.variables.set.Goals as goal

pub returns-then-not-is_value_for-clause-gives : goal.returns-then-not-is_value_for-clause-gives
unfolding set_run
returns-then-not-is_value_for-clause-gives g c =
    λ keys. (omega arith, λ told. first_of (search rules, grind arith))

pub returns-in-Ok-clause-gives : goal.returns-in-Ok-clause-gives
unfolding set_run
returns-in-Ok-clause-gives g c = λ keys. (omega arith, λ told. first_of (search rules, grind arith))

pub returns-in-Err-clause-gives : goal.returns-in-Err-clause-gives
unfolding set_run
returns-in-Err-clause-gives g c = λ keys. (
  omega arith,
  λ told. first_of
      (search (rules, unset_comes), grind (arith, unset_comes)),
)
