use Rattle.std.proofs.Common.{arith}
use Rattle.pan_ast.specs.Seen.{item_seen}
use Rattle.questions.specs.Told.{only}
use Rattle.template_meaning.proofs.Leaving.{assign_terms_leave}
use Rattle.plain_statements.specs.Executions.{meter_of}
use Rattle.plain_statements.specs.Seen.{inside_of, program_of, site_in}
use Rattle.plain_statements.proofs.assignments.assign_at.Goals as goal

pub returns-in_err-self_value-clause-gives : goal.returns-in_err-self_value-clause-gives
returns-in_err-self_value-clause-gives g c = λ keys.
    let leaves = assign_terms_leave (site_in g.W.World c.args.inside.now) g.W.World.plain
    (inside_of c.args.inside.now) c.args.assignment.place.now
    c.args.assignment.last c.args.assignment.target.now c.args.assignment.conditional
    (item_seen c.args.assignment.item.now) c.args.terms.now (only keys g.W.World.answers)
    (program_of c.args.execution.now.program) (meter_of g.W.World c.args.execution.now) in
    grind (arith, leaves)
