use Rattle.std.proofs.Common.{◌≡◌, [], drop}
use Rattle.questions.specs.Told.{ToldEnough}
use Rattle.template_meaning.specs.Statements.{defaults_run}
use Rattle.plain_statements.specs.Executions.{KeepsLoans, meter_of, total}
use Rattle.plain_statements.specs.Seen.{inside_of, items_at, program_of, site_in}
use Rattle.plain_statements.proofs.written_types.run_defaults.Given as goal

abbrev pub invariant-items : goal.invariant-items
invariant-items g l =
    let M = g.W.World in
    let now = l.execution in
    let before = l.fn.execution in
    let from = defaults_run (site_in M l.inside) (inside_of l.inside) in
    record {
      gives : ToldEnough M.answers (M.asked before.world.now) (M.asked now.world.now)
          (λ told. from (items_at (drop l.item-index l.items)) l.values.items told
          (program_of now.program) (meter_of M now)
          ≡ from (items_at l.items) [] told (program_of before.program) (meter_of M before));
      counted : total now ≡ total before;
      lent : KeepsLoans before now;
    }
