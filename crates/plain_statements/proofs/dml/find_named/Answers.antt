use Rattle.std.proofs.Common.{arith}
use Rattle.questions.specs.Told.{only}
use Rattle.plain_statements.specs.Executions.{meter_of}
use Rattle.plain_statements.specs.Seen.{inside_of, program_of, site_in}
use Rattle.plain_statements.proofs.Stopping.{named_leaves}
use Rattle.plain_statements.proofs.dml.find_named.Goals as goal

pub returns-in_err-frame-clause-gives : goal.returns-in_err-frame-clause-gives
returns-in_err-frame-clause-gives g c = λ keys.
    let leaves = named_leaves (site_in g.W.World c.args.inside.now) g.W.World.plain
    (inside_of c.args.inside.now) c.args.place.now c.args.name.now
    (only keys g.W.World.answers) (program_of c.args.execution.now.program)
    (meter_of g.W.World c.args.execution.now) in
    grind (arith, leaves)
