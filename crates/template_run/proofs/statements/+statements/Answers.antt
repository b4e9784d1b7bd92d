use Rattle.std.proofs.Common.{arith}
use Rattle.pan_ast.specs.TemplatesSeen.{statement_seen}
use Rattle.questions.specs.Told.{only}
use Rattle.dml_world.specs.Seen.{meter}
use Rattle.plain_statements.specs.Executions.{meter_of}
use Rattle.plain_statements.specs.Seen.{inside_of, program_of, site_in}
use Rattle.template_run.proofs.Stopping.{included_stops, statements_stop, step_stops}
use Rattle.template_run.proofs.statements.+statements.Goals as goal

pub run_statements-returns-in_err-prefix-clause-gives : goal.run_statements-returns-in_err-prefix-clause-gives
run_statements-returns-in_err-prefix-clause-gives g t c = λ keys.
    let stops = statements_stop (site_in g.W.World c.args.inside.now) g.W.World.plain
    c.in_err-prefix.field-0.0 c.args.inside.now.includes_left
    (inside_of c.args.inside.now) c.statements.prefix c.args.statements.now
    c.statements.statement-index c.statement-item.result (only keys g.W.World.answers)
    (program_of c.statements.execution.program) (meter_of g.W.World c.statements.execution)
    (meter_of g.W.World c.run_statement.new.execution) c.statements-test.true c.statement-item.is in
    grind (arith, stops)

pub run_statement-returns-in_err-spend_step-clause-gives : goal.run_statement-returns-in_err-spend_step-clause-gives
run_statement-returns-in_err-spend_step-clause-gives g t c = λ keys.
    let stops = step_stops (site_in g.W.World c.args.inside.now) g.W.World.plain
    c.in_err-spend_step.field-0.0 c.args.inside.now.includes_left
    (inside_of c.args.inside.now) c.args.prefix (statement_seen c.args.statement.now)
    (only keys g.W.World.answers) (program_of c.args.execution.now.program)
    (meter_of g.W.World c.args.execution.now)
    (meter c.spend_step.new.work (g.W.World.asked c.args.execution.now.world.now)) in
    grind (arith, stops)

pub include-returns-in_err-template-clause-gives : goal.include-returns-in_err-template-clause-gives
include-returns-in_err-template-clause-gives g t c = λ keys.
    let stops = included_stops (site_in g.W.World c.args.inside.now) g.W.World.plain
    c.args.inside.now.includes_left c.in_err-template.field-0.0
    (inside_of c.args.inside.now) c.args.place.now c.args.name.now (only keys g.W.World.answers)
    (program_of c.args.execution.now.program) (meter_of g.W.World c.args.execution.now)
    (meter_of g.W.World c.find_named.new.execution) in
    grind (arith, stops)
