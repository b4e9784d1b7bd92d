use Rattle.std.proofs.Common.{◌≡◌, ◌+◌, ◌-◌, suc, subst, arith}
use Rattle.engine_session.specs.Compiler.{compiler}
use Rattle.engine_session.specs.Standing.{counts, MakesTurn}
use Rattle.engine_session.proofs.Moves.{turning_step, turning_spent, turning_cut, turning_done}
use Rattle.engine_session.proofs.Scanning.{on_err_is}
use Rattle.engine_session.proofs.KeptTrees.{trees_then}
use Rattle.engine_session.proofs.turning.make_turns.Goals as goal

pub returns-in_err-make_turn-clause-cut : goal.returns-in_err-make_turn-clause-cut
returns-in_err-make_turn-clause-cut g c =
    λ f. on_err_is c.from_residual.result (λ dirs limits s start at next rising.
    let machine = compiler (g.R.Runner.meaning dirs limits) dirs in
    let count = c.args.count in
    let i = c.loop-i._i in
    let lt = c.loop-i-test.true in
    let more : count - i ≡ suc (count - (i + 1)) = omega (arith, lt) in
    let t = c.loop-i.invariant.turning f dirs limits s start at in
    turning_cut machine dirs limits count s start (count - i) (count - (i + 1))
    c.loop-i.works.engine.core c.make_turn.new.works.engine.core
    (counts (g.R.Runner.runs_of c.loop-i.works.runner) c.loop-i.steps)
    (counts (g.R.Runner.runs_of c.make_turn.new.works.runner) c.make_turn.new.steps) more t
    (c.in_err-make_turn.ensures.cut (c.loop-i.invariant.faithful f) dirs limits t.state start
    t.stands) next rising)

pub returns-then-not-branch-clause-made : goal.returns-then-not-branch-clause-made
returns-then-not-branch-clause-made g c = λ f dirs limits s start at.
    let machine = compiler (g.R.Runner.meaning dirs limits) dirs in
    let count = c.args.count in
    let i = c.loop-i._i in
    let lt = c.loop-i-test.true in
    let more : count - i ≡ suc (count - (i + 1)) = omega (arith, lt) in
    let t = c.loop-i.invariant.turning f dirs limits s start at in
    let now = counts (g.R.Runner.runs_of c.make_turn.new.works.runner) c.make_turn.new.steps in
    turning_spent machine dirs limits count s start (count - i) (count - (i + 1))
    c.loop-i.works.engine.core c.make_turn.new.works.engine.core
    (counts (g.R.Runner.runs_of c.loop-i.works.runner) c.loop-i.steps) now more t
    (subst (λ b. MakesTurn machine dirs limits t.state b c.make_turn.new.works.engine.core start
    now) c.if-not-branch.true (c.in_ok-make_turn.ensures.made (c.loop-i.invariant.faithful f)
    dirs limits t.state start t.stands))

pub loop-i-preserved : goal.loop-i-preserved
loop-i-preserved g c =
    let count = c.args.count in
    let i = c.loop-i._i in
    let lt = c.loop-i-test.true in
    record {
      within = omega (arith, lt);
      faithful = λ f. c.in_ok-make_turn.ensures.faithful (c.loop-i.invariant.faithful f);
      trees = λ f. trees_then _ _ _ (c.loop-i.invariant.trees f)
          (c.in_ok-make_turn.ensures.trees (c.loop-i.invariant.faithful f));
      turning = λ f dirs limits s start at.
          let machine = compiler (g.R.Runner.meaning dirs limits) dirs in
          let more : count - i ≡ suc (count - (i + 1)) = omega (arith, lt) in
          let t = c.loop-i.invariant.turning f dirs limits s start at in
          let now = counts (g.R.Runner.runs_of c.make_turn.new.works.runner) c.make_turn.new.steps
          in
          turning_step machine dirs limits count s start (count - i) (count - (i + 1))
          c.loop-i.works.engine.core c.make_turn.new.works.engine.core
          (counts (g.R.Runner.runs_of c.loop-i.works.runner) c.loop-i.steps) now more t
          (subst (λ b. MakesTurn machine dirs limits t.state b c.make_turn.new.works.engine.core
          start now) c.if-not-branch.false (c.in_ok-make_turn.ensures.made
          (c.loop-i.invariant.faithful f) dirs limits t.state start t.stands));
    }

pub returns-clause-made : goal.returns-clause-made
returns-clause-made g c = λ f dirs limits s start at.
    let machine = compiler (g.R.Runner.meaning dirs limits) dirs in
    let count = c.args.count in
    let i = c.loop-i._i in
    let past = c.loop-i-test.false in
    let within = c.loop-i.invariant.within in
    let none : count - i ≡ 0 = omega (arith, past) in
    turning_done machine dirs limits count s start c.loop-i.works.engine.core
    (counts (g.R.Runner.runs_of c.loop-i.works.runner) c.loop-i.steps) (count - i) none
    (c.loop-i.invariant.turning f dirs limits s start at)

pub returns-then-not-branch-clause-trees : goal.returns-then-not-branch-clause-trees
returns-then-not-branch-clause-trees g c = λ f. trees_then _ _ _ (c.loop-i.invariant.trees f)
    (c.in_ok-make_turn.ensures.trees (c.loop-i.invariant.faithful f))
