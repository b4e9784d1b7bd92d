use Rattle.std.proofs.Common.{◌+◌, sym, ap, ◌∙◌, subst}
use Rattle.engine_turns.specs.Spent.{IsSpentAtMost}
use Rattle.engine_turns.specs.States.{pictured}
use Rattle.engine_turns.proofs.ByName.{row_named}
use Rattle.engine_turns.proofs.Spending.{spends_refused}
use Rattle.engine_machine.specs.Compiled.{built_end}
use Rattle.rebuild.specs.Engines.{objects_of}
use Rattle.run_again.specs.Again.{IsEndOf, scratch_steps}
use Rattle.works_again.proofs.building.build_end_again.Goals as goal

pub returns-clause-end : goal.returns-clause-end
returns-clause-end g c = λ f none.
    let core = c.args.works.now.engine.core in
    let named = row_named c.args.name.now c.deref.result.now c.in-Some.row.now
    (sym c.in-Some.ensures) in
    c.in_ok-end.ensures.end f.sound none
    ∙ ap (built_end (g.R.Runner.meaning core.dirs core.limits) (pictured core.files.items)
    (objects_of core)) named

pub returns-clause-by_runner : goal.returns-clause-by_runner
returns-clause-by_runner g c =
    let core = c.args.works.now.engine.core in
    let m = g.R.Runner.meaning core.dirs core.limits in
    let named = row_named c.args.name.now c.deref.result.now c.in-Some.row.now
    (sym c.in-Some.ensures) in
    subst (λ n. IsEndOf m n c.in_ok-end.end) named c.in_ok-end.ensures.by_runner

pub returns-clause-spent : goal.returns-clause-spent
returns-clause-spent g c = λ f none.
    let core = c.args.works.now.engine.core in
    let named = row_named c.args.name.now c.deref.result.now c.in-Some.row.now
    (sym c.in-Some.ensures) in
    record {
      in_steps = c.in_ok-end.ensures.steps f.sound none
          ∙ ap (λ n. c.args.steps.now + scratch_steps (g.R.Runner.meaning core.dirs core.limits)
          (pictured core.files.items) (objects_of core) n) named;
      in_runs = c.in_ok-end.ensures.runs;
    }

pub returns-in_err-end-clause-spent : goal.returns-in_err-end-clause-spent
returns-in_err-end-clause-spent g c = λ f none.
    let core = c.args.works.now.engine.core in
    let named = row_named c.args.name.now c.deref.result.now c.in-Some.row.now
    (sym c.in-Some.ensures) in
    let cost = scratch_steps (g.R.Runner.meaning core.dirs core.limits) (pictured core.files.items)
    (objects_of core) in
    let runs = g.R.Runner.runs_of c.args.works.now.runner in
    let spent : IsSpentAtMost (1, cost c.in-Some.row.now.name) c.args.steps.now
    c.run_again.new.steps runs (g.R.Runner.runs_of c.run_again.new.runner) = record {
      in_steps = c.in_err-end.ensures.refused_steps f.sound none;
      no_fewer = c.in_err-end.ensures.refused_runs.0;
      in_runs = c.in_err-end.ensures.refused_runs.1;
    } in
    spends_refused c.from_residual.result (1, cost c.args.name.now) c.args.steps.now
    c.run_again.new.steps runs (g.R.Runner.runs_of c.run_again.new.runner)
    c.from_residual.ensures.0
    (subst (λ n. IsSpentAtMost (1, cost n) c.args.steps.now c.run_again.new.steps runs
    (g.R.Runner.runs_of c.run_again.new.runner)) named spent)
