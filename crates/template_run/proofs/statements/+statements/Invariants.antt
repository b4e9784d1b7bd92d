use Rattle.std.proofs.Common.{◌≡◌, ◌+◌, ◌-◌, ◌*◌, None, drop, map}
use Rattle.pan_ast.specs.TemplatesSeen.{statement_seen}
use Rattle.questions.specs.Told.{ToldEnough}
use Rattle.template_meaning.specs.Statements.{statements_run}
use Rattle.plain_statements.specs.Executions.{KeepsLoans, meter_of, total}
use Rattle.plain_statements.specs.Seen.{inside_of, program_of, site_in}
use Rattle.template_run.specs.Includes.{includes_in}
use Rattle.template_run.proofs.statements.+statements.Given as goal

-- an include leaves one fewer that may be opened; inside one template the rank gets lower

abbrev pub decreases-run_statements : goal.decreases-run_statements
decreases-run_statements g l = l.inside.now.includes_left * 10 + 5

abbrev pub decreases-run_statement : goal.decreases-run_statement
decreases-run_statement g l = l.inside.now.includes_left * 10 + 4

abbrev pub decreases-run_form : goal.decreases-run_form
decreases-run_form g l = l.inside.now.includes_left * 10 + 3

abbrev pub decreases-run_include : goal.decreases-run_include
decreases-run_include g l = l.inside.now.includes_left * 10 + 2

abbrev pub decreases-include_value : goal.decreases-include_value
decreases-include_value g l = l.inside.now.includes_left * 10 + 1

abbrev pub decreases-include : goal.decreases-include
decreases-include g l = l.inside.now.includes_left * 10

abbrev pub decreases-run_template : goal.decreases-run_template
decreases-run_template g l = (l.inside.now.includes_left - 1) * 10 + 6

abbrev pub invariant-run_statements-statements : goal.invariant-run_statements-statements
invariant-run_statements-statements g l =
    let M = g.W.World in
    let now = l.execution in
    let before = l.fn.execution in
    let from = statements_run (includes_in M l.inside) (site_in M l.inside) (inside_of l.inside) in
    record {
      gives : ToldEnough M.answers (M.asked before.world.now) (M.asked now.world.now)
          (λ told. from l.prefix (map statement_seen (drop l.statement-index l.statements)) told
          (program_of now.program) (meter_of M now)
          ≡ from None (map statement_seen l.statements) told (program_of before.program)
          (meter_of M before));
      counted : total now ≡ total before;
      lent : KeepsLoans before now;
    }
