use Rattle.std.proofs.Common.{arith}
use Rattle.validate.specs.Checked.{checked}
use Rattle.validate.proofs.Leaving.{leaving}
use Rattle.validate.proofs.whole.check_all.Goals as goal

pub returns-in_err-check_undef-clause-gives : goal.returns-in_err-check_undef-clause-gives
unfolding checked
returns-in_err-check_undef-clause-gives g c = λ keys. let left = c.check_undef.ensures keys in
    grind (arith, leaving, left)
