-- What a line that asks who set the leaves of an object makes of a session. Inner contracts use it.
use Rattle.std.specs.Prelude.{◌≡◌, ◌++◌, ℕ, List}
use Rattle.pan_ast.specs.declared.work.Limits.{Limits}
use Rattle.path_tree.specs.declared.path.Term.{Term}
use Rattle.engine_turns.specs.declared.core_data.Core.{Core}
use Rattle.session.specs.Machines.{Machine}
use Rattle.session.specs.Sessions.{GoesOn, blamed_in}
use Rattle.engine_session.specs.Compiler.{Compiled}
use Rattle.engine_session.specs.Standing.{Here, Counts, IsAt}

-- the session goes on behind this text, and but for its counts and its text it is as before
pub record Blames {T : Type 0} (machine : Machine (Compiled T)) (dirs : List (List ℕ))
    (limits : Limits) (name : List ℕ) (terms : List Term) (s : Here T) (text : List ℕ)
    (core : Core T) (start now : Counts) : Type 0 where
  pub state : Here T
  pub leads : blamed_in machine name terms s ≡ GoesOn state
  pub only : state ≡ record s { runs = state.runs; steps = state.steps; text = state.text }
  pub written : state.text ≡ s.text ++ text
  pub stands : IsAt dirs limits state core start now
