use Rattle.std.proofs.Common.{false, true, subst}
use Rattle.session.specs.Sessions.{state_in, with_turns}
use Rattle.engine_session.specs.Compiler.{compiler}
use Rattle.engine_session.specs.Standing.{counts, HasSpentAtMost, MakesTurns}
use Rattle.engine_session.proofs.Moves.{all_made_cut}
use Rattle.engine_session.proofs.Scanning.{on_err_is}
use Rattle.engine_session.proofs.turning.make_all_turns.Goals as goal

pub returns-in_err-make_turns-clause-cut : goal.returns-in_err-make_turns-clause-cut
returns-in_err-make_turns-clause-cut g c = λ f. on_err_is c.from_residual.result
    (λ dirs limits s start at next rising.
    let machine = compiler (g.R.Runner.meaning dirs limits) dirs in
    let now = counts (g.R.Runner.runs_of c.make_turns.new.works.runner) c.make_turns.new.steps in
    subst (λ n. HasSpentAtMost (state_in (with_turns machine n s next)) start now)
    c.turns_left-left.ensures
    (c.in_err-make_turns.ensures.cut f dirs limits s start at next rising))

pub returns-then-not-branch-clause-made : goal.returns-then-not-branch-clause-made
returns-then-not-branch-clause-made g c = λ f dirs limits s start at.
    let machine = compiler (g.R.Runner.meaning dirs limits) dirs in
    let core = c.make_turns.new.works.engine.core in
    let now = counts (g.R.Runner.runs_of c.make_turns.new.works.runner) c.make_turns.new.steps in
    subst (λ n. MakesTurns machine dirs limits n s false core start now) c.turns_left-left.ensures
    (subst (λ all. MakesTurns machine dirs limits c.turns_left-left.result s all core start now)
    c.if-not-branch.true (c.in_ok-make_turns.ensures.made f dirs limits s start at))

pub returns-then-turns_left-gt0-clause-cut : goal.returns-then-turns_left-gt0-clause-cut
returns-then-turns_left-gt0-clause-cut g c = λ f dirs limits s start at next rising.
    let machine = compiler (g.R.Runner.meaning dirs limits) dirs in
    let core = c.make_turns.new.works.engine.core in
    let now = counts (g.R.Runner.runs_of c.make_turns.new.works.runner) c.make_turns.new.steps in
    subst (λ n. HasSpentAtMost (state_in (with_turns machine n s next)) start now)
    c.turns_left-left.ensures
    (all_made_cut machine dirs limits c.turns_left-left.result s start core now
    (subst (λ all. MakesTurns machine dirs limits c.turns_left-left.result s all core start now)
    c.if-not-branch.false (c.in_ok-make_turns.ensures.made f dirs limits s start at)) next rising)

pub returns-clause-made : goal.returns-clause-made
returns-clause-made g c = λ f dirs limits s start at.
    let machine = compiler (g.R.Runner.meaning dirs limits) dirs in
    let core = c.make_turns.new.works.engine.core in
    let now = counts (g.R.Runner.runs_of c.make_turns.new.works.runner) c.make_turns.new.steps in
    subst (λ n. MakesTurns machine dirs limits n s true core start now) c.turns_left-left.ensures
    (subst (λ all. MakesTurns machine dirs limits c.turns_left-left.result s all core start now)
    c.if-not-branch.false (c.in_ok-make_turns.ensures.made f dirs limits s start at))
