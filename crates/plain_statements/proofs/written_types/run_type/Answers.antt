use Rattle.std.proofs.Common.{arith}
use Rattle.pan_ast.specs.TypesSeen.{full_seen}
use Rattle.questions.specs.Told.{only}
use Rattle.template_meaning.proofs.Leaving.{type_leaves}
use Rattle.plain_statements.specs.Executions.{meter_of}
use Rattle.plain_statements.specs.Seen.{inside_of, program_of, site_in}
use Rattle.plain_statements.proofs.written_types.run_type.Goals as goal

pub returns-in_err-push_defaults-clause-gives : goal.returns-in_err-push_defaults-clause-gives
returns-in_err-push_defaults-clause-gives g c = λ keys.
    let leaves = type_leaves (site_in g.W.World c.args.inside.now) g.W.World.plain
    (inside_of c.args.inside.now) c.args.place.now (full_seen c.args.full.now)
    (only keys g.W.World.answers) (program_of c.args.execution.now.program)
    (meter_of g.W.World c.args.execution.now) in
    grind (arith, leaves)
