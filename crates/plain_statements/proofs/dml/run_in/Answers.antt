use Rattle.std.proofs.Common.{arith}
use Rattle.pan_ast.specs.Seen.{item_seen}
use Rattle.questions.specs.Told.{only}
use Rattle.template_meaning.proofs.Leaving.{dml_in_leaves}
use Rattle.dml_world.specs.Seen.{is_fixed}
use Rattle.plain_statements.specs.Executions.{meter_of}
use Rattle.plain_statements.specs.Seen.{inside_of, program_of, site_in}
use Rattle.plain_statements.proofs.dml.run_in.Goals as goal

pub returns-in_err-frame-clause-gives : goal.returns-in_err-frame-clause-gives
returns-in_err-frame-clause-gives g c = λ keys.
    let leaves = dml_in_leaves (site_in g.W.World c.args.inside.now) g.W.World.plain
    (inside_of c.args.inside.now) (is_fixed c.args.self_use) c.args.self_value
    (item_seen c.args.item.now) (only keys g.W.World.answers)
    (program_of c.args.execution.now.program) (meter_of g.W.World c.args.execution.now) in
    grind (arith, leaves)
