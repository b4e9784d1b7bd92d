-- A build behind its devices: what a settled engine gives, and how far a build came.
use Rattle.std.specs.Prelude.{◌≡◌, ℕ, List, [], Option, Result, Ok, Err, IfOk, IfErr, OnOk, OnErr, nat_lt}
use Rattle.command_words.specs.declared.commands.Work.{Work}
use Rattle.engine_session.specs.Compiler.{Compiled}
use Rattle.engine_session.specs.Standing.{Counts, HasSpent, HasSpentAtMost, IsIn, SpendsAs, compiled_in, machine_in}
use Rattle.engine_session.specs.declared.building.Built.{Built}
use Rattle.engine_turns.specs.declared.core_data.Core.{Core}
use Rattle.outside.specs.declared.source.MemFile.{MemFile}
use Rattle.publication.specs.Changing.{MadeOver, BegunOver, Tells}
use Rattle.publication.specs.Wants.{wants_of}
use Rattle.publication.specs.declared.answer.Publication.TheVariants as publication
use Rattle.rebuild.specs.Engines.{Meanings}
use Rattle.session.specs.Machines.{Machine}
use Rattle.session.specs.Sessions.{NotSaved, State, Next, GoesOn, answers_in, profiles_of, ended_by, reported}
use Rattle.session.specs.Texts.{report, faults_in}
use Rattle.session.specs.declared.Ended.{Ended}
use Rattle.session.specs.declared.Ended.TheVariants as ended
use Rattle.site_build.specs.Ends.{Stopped}
use Rattle.site_build.specs.Scenes.{Outs}
use Rattle.site_build.specs.Session.{Session, Finished, WritesEarly, engine_for, limits_of, line_alone, round_from, session_from, session_over, state_from}
use Rattle.site_build.specs.declared.ends.End.{End}
use Rattle.site_build.specs.declared.building.Reached.{Reached}
use Rattle.site_build.specs.declared.building.Reached.TheVariants as reached

-- the session of what a settled engine gives, over a shelf with these names
abbrev pub given_by : Option ℕ → List (List ℕ) → Built → Session
given_by most names b = session_over most names (wants_of b.profiles.items) b.report.items
    (ended_by b.has_faults)

-- the session of an engine in which all is settled
abbrev pub build_of : {E : Type 0} → Option ℕ → List (List ℕ) → Machine E → E → Session
build_of most names machine e = session_over most names
    (wants_of (profiles_of (answers_in machine e)))
    (report (answers_in machine e) (machine.runs e))
    (ended_by (nat_lt 0 (faults_in (answers_in machine e))))

-- the session by how far a build came
abbrev pub session_by : {E : Type 0} → Option ℕ → List (List ℕ) → Reached → Machine E → E
    → Session
session_by most names reached.All machine e = build_of most names machine e
session_by most names reached.NumbersSpent machine e = line_alone ended.NumbersSpent
session_by most names reached.TooMuch machine e = line_alone ended.TooMuch

-- .. of an engine, by what its runner means
abbrev pub session_at : {T : Type 0} → Option ℕ → List (List ℕ) → Meanings T → Reached → Core T
    → Session
session_at most names means reached core = session_by most names reached
    (machine_in means core) (compiled_in core)

-- exactly the session's runs and steps were made where it came to its end, else at most these
abbrev pub SpendsBy : {E : Type 0} → Reached → State E → Counts → Counts → Type 0
SpendsBy reached.All s before now = HasSpent s before now
SpendsBy reached.NumbersSpent s before now = HasSpentAtMost s before now
SpendsBy reached.TooMuch s before now = HasSpentAtMost s before now

-- where all is settled, the engine has come to what the round leads to, before its report
abbrev pub EndsIn : {T : Type 0} → Meanings T → Work → Next (Compiled T) → Reached → Core T → Type 0
EndsIn {T} means work x reached.All core = (t : State (Compiled T))
    × (x ≡ GoesOn (reported (engine_for means work) (publication.Done []) NotSaved t))
    × IsIn work.directories (limits_of work) core t.engine
EndsIn means work x reached.NumbersSpent core = Unit {0}
EndsIn means work x reached.TooMuch core = Unit {0}

-- a build that began with this engine came so far with the source's next pictures
pub record Reaches {T : Type 0} (means : Meanings T) (e : Compiled T) (work : Work) (how : Reached)
    (pictures : List (List MemFile)) (core : Core T) (before now : Counts) : Type 0 where
  pub session : (names : List (List ℕ)) → session_from means e work names pictures
      ≡ session_at work.most_removed names means how core
  pub spent : SpendsBy how (state_from means e work pictures) before now
  pub ends : EndsIn means work (round_from means e work pictures) how core

-- the shelf with these names, and the sink, follow a session, to its end or as far as an end lets
-- them
pub record Follows (s : Session) (names : List (List ℕ)) (result : Result Ended End)
    (before after : Outs) : Type 0 where
  pub ok : IfOk result (λ how. Finished s how before.held after.held before.cell after.cell)
  pub text : IfErr result (λ e. WritesEarly s.text e before.held after.held)
  pub shelf : IfErr result (λ e. Stopped e s.shelf before.cell after.cell)
  pub made : OnOk result (Tells before.cell → MadeOver s.wants names before.cell after.cell
      before.changes after.changes)
  pub begun : OnErr result (Tells before.cell → BegunOver s.wants names before.cell after.cell
      before.changes after.changes)

-- the runs and steps are a session's, or at most these where it was broken off
abbrev pub Spends : {E : Type 0} → Result Ended End → State E → Counts → Counts → Type 0
Spends (Ok how) s before now = SpendsAs how s before now
Spends (Err e) s before now = HasSpentAtMost s before now
