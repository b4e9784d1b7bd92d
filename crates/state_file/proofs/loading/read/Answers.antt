use Rattle.std.proofs.Common.{subst}
use Rattle.state_file.specs.Refused.{GiveNothing}
use Rattle.state_file.proofs.Steps.{refused}
use Rattle.state_file.proofs.loading.read.Goals as goal

pub returns-in-Err-BadRows-clause-bad : goal.returns-in-Err-BadRows-clause-bad
returns-in-Err-BadRows-clause-bad c = λ _. subst GiveNothing c.deref.ensures.value
    (refused c.deref.result.now c.in-Err-BadRows.field-0 c.in-Err-BadRows.field-0-is
    c.in-Err-BadRows.ensures.only)
