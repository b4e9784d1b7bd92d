use Rattle.std.proofs.Common.{sym, ◌∙◌, subst}
use Rattle.engine_turns.specs.States.{pictured}
use Rattle.rebuild.specs.Engines.{objects_of}
use Rattle.run_again.specs.Again.{IsEndOf, scratch_steps}
use Rattle.blamed_works.proofs.Lines.{spent_most}
use Rattle.blamed_works.proofs.built.build_again.Goals as goal

pub returns-in-Ok-clause-end : goal.returns-in-Ok-clause-end
returns-in-Ok-clause-end g c = λ f none. sym (c.in_ok-built.ensures.end f none) ∙ c.in-Ok.is

pub returns-in-Ok-clause-by_runner : goal.returns-in-Ok-clause-by_runner
returns-in-Ok-clause-by_runner g c =
    let core = c.args.works.now.engine.core in
    subst (λ e. IsEndOf (g.R.Runner.meaning core.dirs core.limits) c.args.name.now e) c.in-Ok.is
    c.in_ok-built.ensures.by_runner

pub returns-in-Ok-clause-spent : goal.returns-in-Ok-clause-spent
returns-in-Ok-clause-spent g c = λ f none. c.in_ok-built.ensures.spent f none

pub returns-in-Err-clause-spent : goal.returns-in-Err-clause-spent
returns-in-Err-clause-spent g c = λ f none.
    let core = c.args.works.now.engine.core in
    spent_most (scratch_steps (g.R.Runner.meaning core.dirs core.limits)
    (pictured core.files.items) (objects_of core) c.args.name.now) c.args.steps.now
    c.build_end_again.new.steps (g.R.Runner.runs_of c.args.works.now.runner)
    (g.R.Runner.runs_of c.build_end_again.new.works.runner) (c.in_ok-built.ensures.spent f none)
