-- An engine as contracts see it, and what its calls make of it.
use Rattle.std.specs.Prelude.{◌≡◌, false, ℕ, List, [], Bool, ◌&&◌, nat_le}
use Rattle.load_path.specs.declared.picture.PictureFile.{PictureFile}
use Rattle.pan_ast.specs.declared.work.Limits.{Limits}
use Rattle.questions.specs.declared.key.Key.{Key}
use Rattle.questions.specs.Contents.{Content}
use Rattle.runner.specs.Ends.{End, Verdict}
use Rattle.runner.specs.Meaning.{Meaning}
use Rattle.engine_laws.specs.Names.{Name}
use Rattle.engine_laws.specs.Engine.{Situation, Event, Take, Turn, Forget, happens, IsAllowed, on_chain, turns_left, IsFromScratch}
use Rattle.engine_laws.specs.Reached.{IsReached}
use Rattle.engine_laws.specs.Runner.{IsIn}
use Rattle.engine_laws.specs.Numbers.{KeepsNumbers}
use Rattle.engine_laws.specs.Narrowed.{IsNarrowed, IsLeftAlone}
use Rattle.engine_laws.specs.Steps.{Work, turn_work}
use Rattle.engine_machine.specs.Machine.{Kept, runner_of, keeping, judge_of, costs_of}
use Rattle.engine_machine.specs.Pictures.{picture_in}
use Rattle.engine_turns.specs.declared.core_data.Core.{Core}
use Rattle.engine_turns.specs.declared.rows.FileRow.{FileRow}
use Rattle.engine_turns.specs.Places.{names, file_names}
use Rattle.engine_turns.specs.States.{are_graded, file_number, state_of}
use Rattle.rebuild.specs.Taking.{numbered, counter_after}
use Rattle.object_names.specs.Objects.{are_rising}
use Rattle.engine_turns.specs.Ready.{core_state, core_picture, is_chain, are_known, none_before, is_open, is_unchecked}

abbrev pub EngineSituation : Type 0 → Type 0
EngineSituation T = Situation Key Content (End T) Kept Verdict

-- limits and directories, the files of the last take with their numbers, and the machine's picture
-- and state
pub record EngineValue (T : Type 0) : Type 0 where
  pub limits : Limits
  pub dirs : List (List ℕ)
  pub files : List FileRow
  pub situation : EngineSituation T

-- what a runner means, by directories and limits
abbrev pub Meanings : Type 0 → Type 0
Meanings T = List (List ℕ) → Limits → Meaning T

-- the engine's picture and state
abbrev pub situation_of : {T : Type 0} → Core T → EngineSituation T
situation_of c = record { picture = core_picture c; state = core_state c }

abbrev pub objects_of : {T : Type 0} → Core T → List Name
objects_of c = names c.rows.items

-- the parts on the chain
abbrev pub parts_of : {T : Type 0} → Core T → ℕ
parts_of c = on_chain (core_state c)

-- twice the unsettled parts less the parts on the chain
abbrev pub turns_left_of : {T : Type 0} → Core T → ℕ
turns_left_of c = turns_left (names c.rows.items) (core_state c)

abbrev pub value_of : {T : Type 0} → Core T → EngineValue T
value_of c =
    record { limits = c.limits; dirs = c.dirs; files = c.files.items; situation = situation_of c }

-- before the first take
abbrev pub new_situation : {T : Type 0} → EngineSituation T
new_situation = record { picture = picture_in [] []; state = state_of 3 [] [] [] }

-- the data is in order: an invariant as a test
abbrev pub is_ready : {T : Type 0} → Core T → Bool
is_ready c = nat_le 3 c.counter && (are_rising (names c.rows.items)
    && (are_rising (file_names c.files.items) && (none_before is_open c.first_build c.rows.items
    && (none_before is_unchecked c.first_check c.rows.items && (are_graded c.rows.items
    && (is_chain c.chain && are_known (names c.rows.items) c.chain))))))

-- some list of events of the machine leads to the engine's situation
abbrev pub IsEngine : {T : Type 0} → Meanings T → EngineValue T → Type 0
IsEngine m e = IsReached (runner_of (m e.dirs e.limits).build) keeping
    (judge_of (m e.dirs e.limits).check) e.situation

-- what an event makes of it
abbrev pub after_event : {T : Type 0} → Meanings T → EngineValue T → Event Key Content
    → EngineSituation T
after_event m e event = happens (runner_of (m e.dirs e.limits).build) keeping
    (judge_of (m e.dirs e.limits).check) e.situation event

-- what is settled in it is what compiling the whole picture from scratch gives
abbrev pub IsTrue : {T : Type 0} → Meanings T → EngineValue T → Type 0
IsTrue m e = IsFromScratch (runner_of (m e.dirs e.limits).build) keeping
    (judge_of (m e.dirs e.limits).check) e.situation

-- What its next event does to the number of a key that asks for an object: a turn leaves it while
-- the
-- same is seen there, and a number that it has lost does not come back; a take leaves it where a
-- kept record reads the key.
abbrev pub AreKept : {T : Type 0} → Meanings T → EngineValue T → Type 0
AreKept m e = KeepsNumbers (runner_of (m e.dirs e.limits).build) keeping
    (judge_of (m e.dirs e.limits).check) e.situation

-- an object that is not touched has a record in which no item differs, and its next turn does not
-- run
-- it, and leaves its result and its record
pub record IsSpared {T : Type 0} (m : Meanings T) (e : EngineValue T) (o : Name) : Type 0 where
  pub narrowed : IsNarrowed (runner_of (m e.dirs e.limits).build) keeping
      (judge_of (m e.dirs e.limits).check) e.situation o
  pub left : IsLeftAlone (runner_of (m e.dirs e.limits).build) keeping
      (judge_of (m e.dirs e.limits).check) e.situation o

abbrev pub AreSpared : {T : Type 0} → Meanings T → EngineValue T → Type 0
AreSpared m e = (o : Name) → IsIn o e.situation.picture.objects
    → e.situation.state.touched o ≡ false → IsSpared m e o

-- a take of these files and objects, after files that had numbers
abbrev pub take_of : List FileRow → ℕ → List PictureFile → List Name → Event Key Content
take_of old counter files objects = Take (picture_in files objects)
    (file_number (numbered old counter files)) (counter_after old counter files)

-- what a take of these files and objects makes of an engine
abbrev pub after_take : {T : Type 0} → Meanings T → EngineValue T → List PictureFile → List Name
    → EngineSituation T
after_take m e files objects =
    after_event m e (take_of e.files e.situation.state.counter files objects)

-- such a take, and forgetting the runs, are events of which the machine's laws speak
abbrev pub IsAllowedEvent : {T : Type 0} → Meanings T → EngineValue T → Event Key Content → Type 0
IsAllowedEvent m e event = IsAllowed (runner_of (m e.dirs e.limits).build) keeping
    (judge_of (m e.dirs e.limits).check) e.situation event

abbrev pub IsTakeAllowed : {T : Type 0} → Meanings T → EngineValue T → List PictureFile → List Name
    → Type 0
IsTakeAllowed m e files objects =
    IsAllowedEvent m e (take_of e.files e.situation.state.counter files objects)

abbrev pub IsForgetAllowed : {T : Type 0} → Meanings T → EngineValue T → Type 0
IsForgetAllowed m e = IsAllowedEvent m e Forget

-- the runs and the steps of its next turn
abbrev pub turn_work_of : {T : Type 0} → Meanings T → EngineValue T → Work
turn_work_of m e = turn_work (runner_of (m e.dirs e.limits).build) keeping
    (judge_of (m e.dirs e.limits).check) (costs_of (m e.dirs e.limits)) e.situation.picture
    e.situation.state

-- what one turn makes of it
abbrev pub after_turn : {T : Type 0} → Meanings T → EngineValue T → EngineSituation T
after_turn m e = after_event m e Turn

-- and what forgetting the runs does
abbrev pub after_forget : {T : Type 0} → Meanings T → EngineValue T → EngineSituation T
after_forget m e = after_event m e Forget
