use Rattle.std.proofs.Common.{subst, sym}
use Rattle.engine_session.specs.Standing.{IsKept}
use Rattle.engine_turns.specs.Spent.{IsTurnRefused}
use Rattle.rebuild.specs.Engines.{value_of, after_turn}
use Rattle.engine_session.proofs.Moves.{turn_made, turn_spent, turn_cut, turned_kept}
use Rattle.engine_session.proofs.KeptTrees.{trees_left, trees_turned}
use Rattle.engine_session.proofs.turning.make_turn.Goals as goal

pub returns-in-Ok-clause-made : goal.returns-in-Ok-clause-made
returns-in-Ok-clause-made g c = λ f dirs limits s start at.
    let e = c.in-Ok.ensures in
    turn_made g.R.Runner.meaning dirs limits s c.args.works.now.engine.core c.turn.new.self.core
    start _ (g.R.Runner.runs_of c.turn.new.runner) c.turn.new.steps at e.files e.dirs e.limits
    (e.state f.sound) e.within (e.spent f.sound)

pub returns-in-Err-NumbersSpent-clause-made : goal.returns-in-Err-NumbersSpent-clause-made
returns-in-Err-NumbersSpent-clause-made g c = λ f dirs limits s start at.
    let e = c.in-Err-NumbersSpent.ensures in
    turn_spent g.R.Runner.meaning dirs limits s c.args.works.now.engine.core c.turn.new.self.core
    start _ (g.R.Runner.runs_of c.turn.new.runner) c.turn.new.steps at
    (subst (λ x. IsTurnRefused x (after_turn g.R.Runner.meaning
    (value_of c.args.works.now.engine.core)).state.counter) c.in-Err-NumbersSpent.field-0-is
    (e.refused f.sound)) (e.spent f.sound)

pub returns-in-Err-Memory-clause-cut : goal.returns-in-Err-Memory-clause-cut
returns-in-Err-Memory-clause-cut g c = λ f dirs limits s start at.
    turn_cut g.R.Runner.meaning dirs limits s c.args.works.now.engine.core c.turn.new.self.core
    start _ (g.R.Runner.runs_of c.turn.new.runner) c.turn.new.steps at
    (c.in-Err-Memory.ensures.spent f.sound)

-- turns leave the objects and the numbers of files as they are
pub returns-in-Ok-clause-faithful : goal.returns-in-Ok-clause-faithful
returns-in-Ok-clause-faithful g c = λ f.
    let e = c.in-Ok.ensures in
    record {
      sound = e.sound f.sound;
      kept = turned_kept g.R.Runner.meaning c.args.works.now.engine.core c.turn.new.self.core
          e.files
          e.dirs (e.state f.sound) f.kept;
    }

pub returns-in-Err-NumbersSpent-clause-faithful : goal.returns-in-Err-NumbersSpent-clause-faithful
returns-in-Err-NumbersSpent-clause-faithful g c = λ f.
    let e = c.in-Err-NumbersSpent.ensures in
    record {
      sound = e.sound f.sound;
      kept = subst (λ core. IsKept core) (sym e.before) f.kept;
    }

pub returns-in-Err-Memory-clause-faithful : goal.returns-in-Err-Memory-clause-faithful
returns-in-Err-Memory-clause-faithful g c = λ f.
    let e = c.in-Err-Memory.ensures in
    record {
      sound = e.sound f.sound;
      kept = subst (λ core. IsKept core) (sym e.before) f.kept;
    }

-- a turn leaves the trees that have their numbers
pub returns-in-Ok-clause-trees : goal.returns-in-Ok-clause-trees
returns-in-Ok-clause-trees g c = λ f.
    trees_turned g.R.Runner.meaning c.args.works.now.engine.core c.turn.new.self.core
    (c.in-Ok.ensures.state f.sound)

pub returns-in-Err-NumbersSpent-clause-trees : goal.returns-in-Err-NumbersSpent-clause-trees
returns-in-Err-NumbersSpent-clause-trees g c = λ f.
    trees_left c.args.works.now.engine.core c.turn.new.self.core
    c.in-Err-NumbersSpent.ensures.before
