use Rattle.std.proofs.Common.{arith}
use Rattle.type_defs.specs.Tables.{all_seen}
use Rattle.type_defs.proofs.RecordFields.{all_more_depth}
use Rattle.type_defs.proofs.fields.brought.Goals as goal

pub returns-clause-measured : goal.returns-clause-measured
returns-clause-measured c =
    let e = all_more_depth c.args.place.now (all_seen c.args.done.now.list.items)
    (all_seen c.args.fields.now) (all_seen c.all_more.new.done.items) c.in_ok-all_more.ensures
    in
    omega arith
