-- Where a session, its engine and its counts stand. Inner contracts use it.
use Rattle.std.specs.Prelude.{◌≡◌, ◌≤◌, ◌+◌, ℕ, Bool, true, false, List, Option, Some, None, not, is_some, nat_eq, nat_lt, if◌then◌else◌, codes}
use Rattle.load_path.specs.Pictures.{content_in}
use Rattle.load_path.specs.declared.picture.PictureFile.{PictureFile}
use Rattle.outside.specs.Causes.{Rose}
use Rattle.outside.specs.declared.source.MemFile.{MemFile}
use Rattle.pan_ast.specs.declared.work.Limits.{Limits}
use Rattle.engine_turns.specs.declared.core_data.Core.{Core}
use Rattle.engine_turns.specs.declared.rows.FileRow.{FileRow}
use Rattle.engine_turns.specs.Places.{names, file_number_in}
use Rattle.engine_turns.specs.Spent.{counted_more}
use Rattle.engine_turns.specs.States.{pictured}
use Rattle.read_index.specs.Readers as readers
use Rattle.rebuild.specs.Engines.{Meanings, situation_of}
use Rattle.rebuild.specs.Sound.{IsSound}
use Rattle.runner.specs.declared.runner.Runner as runner
use Rattle.session.specs.Machines.{Machine}
use Rattle.session.specs.Sessions.{State, Next, SpendsNumbers, IsTooMuch, Scanned, NotBegun, BrokeOff, Done, answers_in, profiles_of, state_in, worked, writes, with_turns, with_picture, scanned}
use Rattle.session.specs.Texts.{report, faults_in}
use Rattle.session.specs.declared.Ended.{Ended}
use Rattle.session.specs.declared.Ended.TheVariants as ended
use Rattle.engine_session.specs.Names.{objects_in}
use Rattle.engine_session.specs.Compiler.{Compiled, compiler}
use Rattle.engine_session.specs.declared.building.Built.{Built}
use Rattle.engine_session.specs.declared.taking.Took.{Took}
use Rattle.engine_session.specs.declared.taking.Took.TheVariants as took
use Rattle.engine_session.specs.declared.works.Works.{Works}

-- a session over a compiler
abbrev pub Here : Type 0 → Type 0
Here T = State (Compiled T)

-- what an engine has come to
abbrev pub compiled_in : {T : Type 0} → Core T → Compiled T
compiled_in c = record { files = pictured c.files.items; situation = situation_of c }

-- the session's machine of an engine, by what its runner means
abbrev pub machine_in : {T : Type 0} → Meanings T → Core T → Machine (Compiled T)
machine_in means c = compiler (means c.dirs c.limits) c.dirs

-- a file has the number 0 exactly where it is not there
abbrev pub AreNumbers : List FileRow → Type 0
AreNumbers files = (f : List ℕ) → nat_eq (file_number_in files f) 0
    ≡ not (is_some (content_in (pictured files) f))

-- what holds of an engine's data from take to take
pub record IsKept {T : Type 0} (core : Core T) : Type 0 where
  pub objects : names core.rows.items ≡ objects_in (pictured core.files.items) core.dirs
  pub numbers : AreNumbers core.files.items

-- What an engine and its runner say is what compiling from scratch gives: the engine is sound, and
-- its
-- objects and numbers are those of its files.
pub record IsFaithful {R T : Type 0} {M : runner.Ghosts R T} (means : Meanings T)
    (works : Works R T M) : Type 0 where
  pub sound : IsSound means works.engine.core (readers.asks works.engine.index)
  pub kept : IsKept works.engine.core

-- .. or will be, once it has taken a picture: it may be an engine from rows
pub record IsBegun {R T : Type 0} {M : runner.Ghosts R T} (means : Meanings T)
    (works : Works R T M) : Type 0 where
  pub sound : IsSound means works.engine.core (readers.asks works.engine.index)
  pub numbers : AreNumbers works.engine.core.files.items

-- an engine with these directories and limits has come to this
pub record IsIn {T : Type 0} (dirs : List (List ℕ)) (limits : Limits) (core : Core T)
    (e : Compiled T) : Type 0 where
  pub dirs_are : core.dirs ≡ dirs
  pub limits_are : core.limits ≡ limits
  pub is : compiled_in core ≡ e

-- a runner's count of runs, and the steps
pub record Counts : Type 0 where
  pub runs : ℕ
  pub steps : ℕ

abbrev pub counts : ℕ → ℕ → Counts
counts runs steps = record { runs = runs; steps = steps }

-- since these counts exactly the session's runs and steps were made
pub record HasSpent {E : Type 0} (s : State E) (start now : Counts) : Type 0 where
  pub in_runs : now.runs ≡ counted_more s.runs start.runs
  pub in_steps : now.steps ≡ start.steps + s.steps

-- .. or at most these
pub record HasSpentAtMost {E : Type 0} (s : State E) (start now : Counts) : Type 0 where
  pub no_fewer : start.runs ≤ now.runs
  pub in_runs : now.runs ≤ counted_more s.runs start.runs
  pub in_steps : now.steps ≤ start.steps + s.steps

-- exactly these where the session came to its end, and at most these where the engine refused a
-- call,
-- which makes no more than it would have made
abbrev pub SpendsAs : {E : Type 0} → Ended → State E → Counts → Counts → Type 0
SpendsAs ended.Clean s start now = HasSpent s start now
SpendsAs ended.SomeFaults s start now = HasSpent s start now
SpendsAs ended.NumbersSpent s start now = HasSpentAtMost s start now
SpendsAs ended.TooMuch s start now = HasSpentAtMost s start now
SpendsAs (ended.TooManyRemovals removals) s start now = HasSpent s start now

-- the engine and the counts stand where the session does
pub record IsAt {T : Type 0} (dirs : List (List ℕ)) (limits : Limits) (s : Here T) (core : Core T)
    (start now : Counts) : Type 0 where
  pub engine : IsIn dirs limits core s.engine
  pub spent : HasSpent s start now

-- no fewer runs and steps
pub record IsBelow {E : Type 0} (s t : State E) : Type 0 where
  pub in_runs : s.runs ≤ t.runs
  pub in_steps : s.steps ≤ t.steps

-- what comes next takes no run and no step back
abbrev pub IsRising : {E : Type 0} → (State E → Next E) → Type 0
IsRising {E} next = (s : State E) → IsBelow s (state_in (next s))

-- but for its engine, its counts and whether it has taken a picture it is the session before
pub record IsMoved {E : Type 0} (s t : State E) : Type 0 where
  pub kept : t.kept ≡ s.kept
  pub coming : t.coming ≡ s.coming
  pub shelf : t.shelf ≡ s.shelf
  pub may_stand : t.may_stand ≡ s.may_stand
  pub has_faults : t.has_faults ≡ s.has_faults
  pub text : t.text ≡ s.text

-- a turn was made, or refused as the numbers are spent
abbrev pub MakesTurn : {T : Type 0} → Machine (Compiled T) → List (List ℕ) → Limits → Here T → Bool
    → Core T → Counts → Counts → Type 0
MakesTurn {T} machine dirs limits s true core start now =
    (e : Compiled T) × ((machine.turn s.engine).state ≡ Some e)
    × IsAt dirs limits (record (worked machine (machine.turn s.engine) s) { engine = e }) core start
    now
MakesTurn machine dirs limits s false core start now = ((machine.turn s.engine).state ≡ None)
    × HasSpentAtMost (worked machine (machine.turn s.engine) s) start now

-- the session after turns that were all made, or not
abbrev pub if_made : {E : Type 0} → Bool → (State E → Next E) → State E → Next E
if_made true next s = next s
if_made false next s = SpendsNumbers s

abbrev pub StandsIf : {T : Type 0} → Bool → List (List ℕ) → Limits → Here T → Core T → Counts
    → Counts → Type 0
StandsIf true dirs limits s core start now = IsAt dirs limits s core start now
StandsIf false dirs limits s core start now = HasSpentAtMost s start now

-- so many turns were made, or the numbers were spent in one of them
pub record MakesTurns {T : Type 0} (machine : Machine (Compiled T)) (dirs : List (List ℕ))
    (limits : Limits) (count : ℕ) (s : Here T) (all : Bool) (core : Core T)
    (start now : Counts) : Type 0 where
  pub state : Here T
  pub leads : (next : Here T → Next (Compiled T)) → with_turns machine count s next
      ≡ if_made all next state
  pub moved : IsMoved s state
  pub taken : state.has_taken ≡ s.has_taken
  pub stands : StandsIf all dirs limits state core start now

-- some of them were made, and so many are left
pub record Turning {T : Type 0} (machine : Machine (Compiled T)) (dirs : List (List ℕ))
    (limits : Limits) (count left : ℕ) (s : Here T) (core : Core T) (start now : Counts) : Type 0
  where
    pub state : Here T
    pub leads : (next : Here T → Next (Compiled T)) → with_turns machine count s next
        ≡ with_turns machine left state next
    pub moved : IsMoved s state
    pub taken : state.has_taken ≡ s.has_taken
    pub stands : IsAt dirs limits state core start now

abbrev pub has_failed : Scanned → Bool
has_failed NotBegun = true
has_failed BrokeOff = true
has_failed Done = false

-- how many calls of the source failed in it
abbrev pub failures : Scanned → ℕ
failures scan = if has_failed scan then 1 else 0

-- what becomes of a session that wanted the source's next picture
abbrev pub going : {E : Type 0} → Took → (State E → Next E) → State E → Next E
going took.Failed next s = writes s (codes "source fault\n")
going took.Taken next s = next s
going took.SpendsNumbers next s = SpendsNumbers s
going took.IsTooMuch next s = IsTooMuch s

abbrev pub goes_on : Took → Bool
goes_on took.Failed = true
goes_on took.Taken = true
goes_on took.SpendsNumbers = false
goes_on took.IsTooMuch = false

-- whether the session has taken a picture, where it had or not before
abbrev pub taken_by : Took → Bool → Bool
taken_by took.Failed before = before
taken_by took.Taken before = true
taken_by took.SpendsNumbers before = before
taken_by took.IsTooMuch before = before

-- the source was asked for a picture and gave none
abbrev pub IsFailed : Took → Scanned → Type 0
IsFailed took.Failed scan = has_failed scan ≡ true
IsFailed took.Taken scan = scan ≡ Done
IsFailed took.SpendsNumbers scan = scan ≡ Done
IsFailed took.IsTooMuch scan = scan ≡ Done

-- the engine was to take this picture, and did, or refused it
pub record Takes {T : Type 0} (machine : Machine (Compiled T)) (dirs : List (List ℕ))
    (limits : Limits) (picture : List PictureFile) (s : Here T) (how : Took) (core : Core T)
    (start now : Counts) : Type 0 where
  pub state : Here T
  pub leads : (next : Here T → Next (Compiled T)) → with_picture machine (Some picture) s next
      ≡ going how next state
  pub moved : IsMoved s state
  pub taken : state.has_taken ≡ taken_by how s.has_taken
  pub stands : StandsIf (goes_on how) dirs limits state core start now

-- the engine took the source's next picture, or not
pub record TakesNext {T : Type 0} (machine : Machine (Compiled T)) (dirs : List (List ℕ))
    (limits : Limits) (s : Here T) (how : Took) (core : Core T) (start now : Counts)
    (coming : Option (List (List MemFile))) (faults faults_now : ℕ) : Type 0 where
  pub scan : Scanned
  pub failed : IsFailed how scan
  pub rose : has_failed scan ≡ true → Rose faults faults_now
  pub most : faults_now ≤ faults + failures scan
  pub state : Here T
  pub leads : (next : Here T → Next (Compiled T)) → scanned machine scan s next
      ≡ going how next state
  pub pictures : coming ≡ Some state.coming
  pub taken : state.has_taken ≡ taken_by how s.has_taken
  pub kept : state.kept ≡ s.kept
  pub shelf : state.shelf ≡ s.shelf
  pub may_stand : state.may_stand ≡ s.may_stand
  pub has_faults : state.has_faults ≡ s.has_faults
  pub text : state.text ≡ s.text
  pub stands : StandsIf (goes_on how) dirs limits state core start now

-- what a settled engine gives to publish and to report
pub record Gives {E : Type 0} (machine : Machine E) (e : E) (b : Built) : Type 0 where
  pub profiles : b.profiles.items ≡ profiles_of (answers_in machine e)
  pub report : b.report.items ≡ report (answers_in machine e) (machine.runs e)
  pub has_faults : b.has_faults ≡ nat_lt 0 (faults_in (answers_in machine e))
