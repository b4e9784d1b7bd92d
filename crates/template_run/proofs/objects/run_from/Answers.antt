use Rattle.std.proofs.Common.{arith}
use Rattle.questions.specs.Told.{only}
use Rattle.template_meaning.specs.Program.{no_program}
use Rattle.template_meaning.proofs.Leaving.{object_leaves}
use Rattle.plain_statements.specs.Executions.{meter_of}
use Rattle.plain_statements.specs.Seen.{site_of}
use Rattle.template_run.proofs.Stopping.{object_stops}
use Rattle.template_run.proofs.objects.run_from.Goals as goal

pub returns-in_err-place-clause-gives : goal.returns-in_err-place-clause-gives
returns-in_err-place-clause-gives g c = λ keys.
    let leaves = object_leaves (site_of c.args.site.now g.W.World.reading g.W.World.calls)
    g.W.World.plain (only keys g.W.World.answers) no_program
    (meter_of g.W.World c.args.execution.now) in
    grind (arith, leaves)

pub returns-in_err-share-clause-gives : goal.returns-in_err-share-clause-gives
returns-in_err-share-clause-gives g c = λ keys.
    let leaves = object_leaves (site_of c.args.site.now g.W.World.reading g.W.World.calls)
    g.W.World.plain (only keys g.W.World.answers) no_program
    (meter_of g.W.World c.args.execution.now) in
    grind (arith, leaves)

pub returns-in_err-template-clause-gives : goal.returns-in_err-template-clause-gives
returns-in_err-template-clause-gives g c = λ keys.
    let stops = object_stops (site_of c.args.site.now g.W.World.reading g.W.World.calls)
    g.W.World.plain c.in_err-template.field-0.0 (only keys g.W.World.answers)
    (meter_of g.W.World c.args.execution.now) (meter_of g.W.World c.find_named.new.execution) in
    grind (arith, stops)
