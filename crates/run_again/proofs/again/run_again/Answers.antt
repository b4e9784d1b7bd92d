use Rattle.std.proofs.Common.{◌+◌, Ok, Err, sym, ap, ◌∙◌}
use Rattle.read_sets.specs.Items.{pairs_of}
use Rattle.runner.specs.Ends.{build_ran}
use Rattle.run_again.proofs.Settled.{run_at, steps_at, end_of, end_is, steps_are, at_most, within, on_err}
use Rattle.run_again.proofs.again.run_again.Goals as goal

pub returns-in-Done-clause-end : goal.returns-in-Done-clause-end
returns-in-Done-clause-end g c = λ sound none.
    let M = g.R.Runner.meaning in
    let dirs = g.R.Runner.dirs_of c.args.runner.now in
    let fs = g.R.Runner.files_of c.args.runner.now in
    end_is M g.met.R.Runner.laws c.args.engine.now.core c.args.engine.now.ready sound.reached none
    dirs c.requires.dirs fs c.requires.picture c.args.name.now (pairs_of c.in-Done._reads)
    (Ok c.in-Done.built) (ap (run_at M dirs fs c.args.name.now) (sym c.core-core.ensures)
    ∙ c.in_ok-built.ensures.answer ∙ ap build_ran c.in-Done.is)

pub returns-in-Fault-clause-end : goal.returns-in-Fault-clause-end
returns-in-Fault-clause-end g c = λ sound none.
    let M = g.R.Runner.meaning in
    let dirs = g.R.Runner.dirs_of c.args.runner.now in
    let fs = g.R.Runner.files_of c.args.runner.now in
    end_is M g.met.R.Runner.laws c.args.engine.now.core c.args.engine.now.ready sound.reached none
    dirs c.requires.dirs fs c.requires.picture c.args.name.now (pairs_of c.in-Fault._reads)
    (Err c.in-Fault.fault) (ap (run_at M dirs fs c.args.name.now) (sym c.core-core.ensures)
    ∙ c.in_ok-built.ensures.answer ∙ ap build_ran c.in-Fault.is)

pub returns-in-Done-clause-by_runner : goal.returns-in-Done-clause-by_runner
returns-in-Done-clause-by_runner g c =
    let M = g.R.Runner.meaning in
    let dirs = g.R.Runner.dirs_of c.args.runner.now in
    let fs = g.R.Runner.files_of c.args.runner.now in
    end_of M c.args.engine.now.core dirs c.requires.dirs fs c.args.name.now
    (pairs_of c.in-Done._reads) (Ok c.in-Done.built)
    (ap (run_at M dirs fs c.args.name.now) (sym c.core-core.ensures)
    ∙ c.in_ok-built.ensures.answer ∙ ap build_ran c.in-Done.is)

pub returns-in-Fault-clause-by_runner : goal.returns-in-Fault-clause-by_runner
returns-in-Fault-clause-by_runner g c =
    let M = g.R.Runner.meaning in
    let dirs = g.R.Runner.dirs_of c.args.runner.now in
    let fs = g.R.Runner.files_of c.args.runner.now in
    end_of M c.args.engine.now.core dirs c.requires.dirs fs c.args.name.now
    (pairs_of c.in-Fault._reads) (Err c.in-Fault.fault)
    (ap (run_at M dirs fs c.args.name.now) (sym c.core-core.ensures)
    ∙ c.in_ok-built.ensures.answer ∙ ap build_ran c.in-Fault.is)

pub returns-in-Done-clause-steps : goal.returns-in-Done-clause-steps
returns-in-Done-clause-steps g c = λ sound none.
    let M = g.R.Runner.meaning in
    let dirs = g.R.Runner.dirs_of c.args.runner.now in
    let fs = g.R.Runner.files_of c.args.runner.now in
    let core = c.args.engine.now.core in
    c.in_ok-built.ensures.steps ∙ ap (λ n. c.args.steps.now + n)
    (ap (steps_at M dirs fs c.args.name.now) c.core-core.ensures
    ∙ steps_are M g.met.R.Runner.laws core c.args.engine.now.ready sound.reached none dirs
    c.requires.dirs fs c.requires.picture c.args.name.now)

pub returns-in-Fault-clause-steps : goal.returns-in-Fault-clause-steps
returns-in-Fault-clause-steps g c = λ sound none.
    let M = g.R.Runner.meaning in
    let dirs = g.R.Runner.dirs_of c.args.runner.now in
    let fs = g.R.Runner.files_of c.args.runner.now in
    let core = c.args.engine.now.core in
    c.in_ok-built.ensures.steps ∙ ap (λ n. c.args.steps.now + n)
    (ap (steps_at M dirs fs c.args.name.now) c.core-core.ensures
    ∙ steps_are M g.met.R.Runner.laws core c.args.engine.now.ready sound.reached none dirs
    c.requires.dirs fs c.requires.picture c.args.name.now)

pub returns-in-Need-clause-refused_steps : goal.returns-in-Need-clause-refused_steps
returns-in-Need-clause-refused_steps g c = λ sound none.
    let M = g.R.Runner.meaning in
    let dirs = g.R.Runner.dirs_of c.args.runner.now in
    let fs = g.R.Runner.files_of c.args.runner.now in
    let core = c.args.engine.now.core in
    let spent = c.in_ok-built.ensures.steps ∙ ap (λ n. c.args.steps.now + n)
    (ap (steps_at M dirs fs c.args.name.now) c.core-core.ensures
    ∙ steps_are M g.met.R.Runner.laws core c.args.engine.now.ready sound.reached none dirs
    c.requires.dirs fs c.requires.picture c.args.name.now) in
    at_most _ _ spent

pub returns-in_err-built-clause-refused_steps : goal.returns-in_err-built-clause-refused_steps
returns-in_err-built-clause-refused_steps g c = λ sound none.
    let M = g.R.Runner.meaning in
    let dirs = g.R.Runner.dirs_of c.args.runner.now in
    let fs = g.R.Runner.files_of c.args.runner.now in
    let core = c.args.engine.now.core in
    let most = within c.run_build.new.steps c.args.steps.now _ _
    (ap (steps_at M dirs fs c.args.name.now) c.core-core.ensures
    ∙ steps_are M g.met.R.Runner.laws core c.args.engine.now.ready sound.reached none dirs
    c.requires.dirs fs c.requires.picture c.args.name.now) c.in_err-built.ensures.refused_steps
    in
    on_err c.from_residual.result most
