use Rattle.std.proofs.Common.{arith}
use Rattle.dml_leaves.proofs.changing.extend_self.Goals as goal

pub returns-in_err-longer-clause-gives : goal.returns-in_err-longer-clause-gives
returns-in_err-longer-clause-gives g c = λ keys. let longer = c.extend_list.ensures keys in
    grind (arith, longer)

pub returns-clause-gives : goal.returns-clause-gives
returns-clause-gives g c = λ keys.
    let longer = c.extend_list.ensures keys in
    let changed = c.set_self.ensures.gives keys in
    grind (arith, longer, changed)
