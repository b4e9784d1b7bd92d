use Rattle.std.proofs.Common.{arith}
use Rattle.type_defs.specs.ResolvedSeen.{resolved_seen}
use Rattle.type_defs.specs.Tables.{all_seen}
use Rattle.type_defs.proofs.RecordFields.{pushed_deepest}
use Rattle.type_defs.proofs.fields.push_own.Goals as goal

pub returns-clause-measured : goal.returns-clause-measured
returns-clause-measured c =
    let e = pushed_deepest (all_seen c.args.done.now.list.items)
    (all_seen c.push_field.new.list.items) _ c.in_ok-push_field.ensures in
    omega arith
