-- What builds made of a session, against what the engine and the devices hold.
use Rattle.std.specs.Prelude.{◌≡◌, ℕ, Bool, List, ◌++◌, Option, nat_lt, option_map}
use Rattle.engine_session.specs.Compiler.{Compiled}
use Rattle.engine_session.specs.Standing.{Here, Counts, HasSpentAtMost, IsAt}
use Rattle.engine_turns.specs.declared.core_data.Core.{Core}
use Rattle.outside.specs.declared.source.MemFile.{MemFile}
use Rattle.pan_ast.specs.declared.work.Limits.{Limits}
use Rattle.session.specs.Machines.{Machine}
use Rattle.session.specs.Sessions.{State, Next, GoesOn, SpendsNumbers, IsTooMuch, build_round, next, answers_in}
use Rattle.session.specs.Texts.{report, faults_in}
use Rattle.demo.specs.Demo.{builds}
use Rattle.demo.specs.Reports.{last_line}
use Rattle.demo.specs.declared.builds.Step.{Step}
use Rattle.demo.specs.declared.builds.Step.TheVariants as step

-- what is said of a settled engine
pub record Says {E : Type 0} (machine : Machine E) (e : E) (has_faults : Bool) (line : List ℕ)
    : Type 0 where
  pub faults : has_faults ≡ nat_lt 0 (faults_in (answers_in machine e))
  pub written : line ≡ last_line (report (answers_in machine e) (machine.runs e))

abbrev pub outcome : {E : Type 0} → Step → State E → Next E
outcome step.Reports s = GoesOn s
outcome step.SpendsNumbers s = SpendsNumbers s
outcome step.IsTooMuch s = IsTooMuch s

-- the session goes on, and this is the last line of its report
pub record Reports {T : Type 0} (dirs : List (List ℕ)) (limits : Limits) (state : Here T)
    (line : List ℕ) (has_faults : Bool) (core : Core T) (coming : List (List MemFile))
    (start now : Counts) : Type 0 where
  pub at : IsAt dirs limits state core start now
  pub pictures : coming ≡ state.coming
  pub faults : state.has_faults ≡ has_faults
  pub written : line ≡ last_line state.text

abbrev pub IfReports : Step → Type 0 → Type 0 → Type 0
IfReports step.Reports P Q = P
IfReports step.SpendsNumbers P Q = Q
IfReports step.IsTooMuch P Q = Q

-- a build was made, or refused
pub record Goes {T : Type 0} (machine : Machine (Compiled T)) (dirs : List (List ℕ))
    (limits : Limits) (s : Here T) (how : Step) (line : List ℕ) (has_faults : Bool) (core : Core T)
    (coming : List (List MemFile)) (start now : Counts) : Type 0 where
  pub state : Here T
  pub leads : next machine build_round s ≡ outcome how state
  pub on : IfReports how (Reports dirs limits state line has_faults core coming start now)
      (HasSpentAtMost state start now)

-- some builds were made, and so many are left
pub record Playing {T : Type 0} (machine : Machine (Compiled T)) (dirs : List (List ℕ))
    (limits : Limits) (s : Here T) (left : ℕ) (has_faults : Bool) (core : Core T)
    (coming : List (List MemFile)) (start now : Counts) (held_old held_new : Option (List ℕ))
    : Type 0 where
  pub state : Here T
  pub leads : builds machine 4 s ≡ builds machine left state
  pub at : IsAt dirs limits state core start now
  pub pictures : coming ≡ state.coming
  pub faults : state.has_faults ≡ has_faults
  pub text : held_new ≡ option_map (λ held. held ++ state.text) held_old
