use Rattle.std.proofs.Common.{arith}
use Rattle.questions.specs.Told.{only}
use Rattle.plain_statements.specs.Executions.{meter_of}
use Rattle.plain_statements.specs.Seen.{inside_of, program_of, site_in}
use Rattle.plain_statements.proofs.Stopping.{defaults_left, defaults_stop}
use Rattle.plain_statements.proofs.written_types.run_defaults.Goals as goal

pub returns-in_err-value-clause-gives : goal.returns-in_err-value-clause-gives
returns-in_err-value-clause-gives g c = λ keys.
    let stops = defaults_stop (site_in g.W.World c.args.inside.now) g.W.World.plain
    c.in_err-value.field-0.0 (inside_of c.args.inside.now) c.args.items.now c.items.item-index
    c.item-item.result c.items.values.items (only keys g.W.World.answers)
    (program_of c.items.execution.program) (meter_of g.W.World c.items.execution)
    (meter_of g.W.World c.run_default.new.execution) c.items-test.true c.item-item.is in
    grind (arith, stops)

pub returns-in_err-push-clause-gives : goal.returns-in_err-push-clause-gives
returns-in_err-push-clause-gives g c = λ keys.
    let leaves = defaults_left (site_in g.W.World c.args.inside.now) g.W.World.plain
    (inside_of c.args.inside.now) c.args.items.now c.items.item-index c.item-item.result
    c.items.values.items c.in_ok-value.value (only keys g.W.World.answers)
    (program_of c.items.execution.program) (program_of c.run_default.new.execution.program)
    (meter_of g.W.World c.items.execution) (meter_of g.W.World c.run_default.new.execution)
    c.items-test.true c.item-item.is in
    grind (arith, leaves)
