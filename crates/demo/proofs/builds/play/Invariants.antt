use Rattle.std.proofs.Common.{◌≡◌, ◌-◌, IsSome, List, [], ℕ}
use Rattle.engine_session.specs.Compiler.{Compiled, compiler}
use Rattle.engine_session.specs.Standing.{IsFaithful, counts, IsIn}
use Rattle.outside.specs.declared.source.MemFile.{MemFile}
use Rattle.pan_ast.specs.declared.work.Limits.{Limits}
use Rattle.session.specs.Sessions.{started}
use Rattle.demo.specs.Played.{Playing}
use Rattle.demo.proofs.builds.play.Given as goal

abbrev pub invariant-loop-i : goal.invariant-loop-i
invariant-loop-i g l = record {
  opened : IsSome l.source.root;
  out : g.O.Sink.fault_count l.out ≡ g.O.Sink.fault_count l.fn.out;
  faithful : IsFaithful g.R.Runner.meaning l.fn.works → IsFaithful g.R.Runner.meaning l.works;
  played : IsFaithful g.R.Runner.meaning l.fn.works
      → (dirs : List (List ℕ)) (limits : Limits) (e : Compiled g.row.R-Rest.Denot)
      (ps : List (List MemFile)) → IsIn dirs limits l.fn.works.engine.core e → l.fn.source.coming
      ≡ ps →
      Playing (compiler (g.R.Runner.meaning dirs limits) dirs) dirs limits (started e ps [])
      (4 - l._i) l.has_faults l.works.engine.core l.source.coming
      (counts (g.R.Runner.runs_of l.fn.works.runner) l.fn.steps)
      (counts (g.R.Runner.runs_of l.works.runner) l.steps) (g.O.Sink.held l.fn.out)
      (g.O.Sink.held l.out);
}
