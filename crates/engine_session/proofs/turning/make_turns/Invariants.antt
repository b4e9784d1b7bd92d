use Rattle.std.proofs.Common.{◌-◌, ◌≤◌, List, ℕ}
use Rattle.pan_ast.specs.declared.work.Limits.{Limits}
use Rattle.rebuild.specs.Engines.{situation_of}
use Rattle.engine_session.specs.Compiler.{compiler}
use Rattle.engine_session.specs.KeptTexts.{KeepsTrees}
use Rattle.engine_session.specs.Standing.{IsFaithful, Here, Counts, counts, IsAt, Turning}
use Rattle.engine_session.proofs.turning.make_turns.Given as goal

abbrev pub invariant-loop-i : goal.invariant-loop-i
invariant-loop-i g l = record {
  within : l._i ≤ l.count;
  faithful : IsFaithful g.R.Runner.meaning l.fn.works → IsFaithful g.R.Runner.meaning l.works;
  trees : IsFaithful g.R.Runner.meaning l.fn.works
      → KeepsTrees (situation_of l.fn.works.engine.core) (situation_of l.works.engine.core);
  turning : IsFaithful g.R.Runner.meaning l.fn.works → (dirs : List (List ℕ)) (limits : Limits)
      (s : Here g.row.R-Rest.Denot) (start : Counts)
      → IsAt dirs limits s l.fn.works.engine.core start
      (counts (g.R.Runner.runs_of l.fn.works.runner) l.fn.steps)
      → Turning (compiler (g.R.Runner.meaning dirs limits) dirs) dirs limits l.count
      (l.count - l._i) s l.works.engine.core start
      (counts (g.R.Runner.runs_of l.works.runner) l.steps);
}
