-- The engine of a session: the incremental engine, by what a runner means, with these include
-- directories.
use Rattle.std.specs.Prelude.{ℕ, List, [], ◌++◌, Option, Some, None, Result, Ok, Err, if◌then◌else◌, not, nat_lt, length, map, codes}
use Rattle.asking.specs.declared.limits.TheConstants.{END_OF_NUMBERS}
use Rattle.base.specs.declared.limits.TheConstants.{MAX_OBJECTS}
use Rattle.json_profile.specs.Json.{profile_of}
use Rattle.load_path.specs.declared.picture.PictureFile.{PictureFile}
use Rattle.pan_ast.specs.Printed.{line_of}
use Rattle.questions.specs.declared.key.Key.{Key}
use Rattle.questions.specs.declared.key.Key.TheVariants.{File, Under}
use Rattle.questions.specs.Contents.{Content}
use Rattle.pan_impact.specs.Touched.{touched_in}
use Rattle.pan_impact.specs.Unused.{unused_in}
use Rattle.runner.specs.Meaning.{Meaning}
use Rattle.engine_laws.specs.Names.{Name}
use Rattle.engine_laws.specs.Engine.{Event, Turn, Forget, NotRun, NoRecord, Changed, happens, turns_left}
use Rattle.engine_laws.specs.Steps.{Work, turn_work}
use Rattle.engine_machine.specs.Machine.{Kept, runner_of, keeping, judge_of, costs_of}
use Rattle.engine_machine.specs.Compiled.{compiled}
use Rattle.engine_turns.specs.declared.rows.FileRow.{FileRow}
use Rattle.rebuild.specs.Taking.{counter_after}
use Rattle.rebuild.specs.Engines.{EngineSituation, new_situation, take_of}
use Rattle.rebuild.specs.Answers.{SeenWhy, of_object, of_none, is_pending, why_at, runs_at}
use Rattle.session.specs.Machines.{Machine, Refusal, TooManyObjects, NumbersSpent}
use Rattle.session.specs.declared.Answer.{Answer}
use Rattle.session.specs.declared.Outcome.{Outcome}
use Rattle.session.specs.declared.Outcome.TheVariants.{Profile, Fault}
use Rattle.engine_session.specs.Names.{objects_in}
use Rattle.engine_session.specs.Blaming.{blamed_in}
use Rattle.engine_session.specs.Looking.{deps_in, register_in}

-- the files that were taken last, and what they and all turns led to
pub record Compiled (T : Type 0) : Type 0 where
  pub files : List PictureFile
  pub situation : EngineSituation T

-- before the first take
abbrev pub nothing : {T : Type 0} → Compiled T
nothing = record { files = []; situation = new_situation }

-- the files with their numbers
abbrev pub rows_by : List PictureFile → (Key → ℕ) → List FileRow
rows_by files number = map (λ (f : PictureFile). record {
  name = f.name;
  number = number (File f.name);
  content = f.content;
}) files

abbrev pub rows_of : {T : Type 0} → Compiled T → List FileRow
rows_of e = rows_by e.files e.situation.state.number

-- a tree's profile, with the text of what was looked at, or a fault's line
abbrev pub outcome_by : Kept → List ℕ → Outcome
outcome_by (Ok tree) dep = Profile (profile_of tree) dep
outcome_by (Err fault) dep = Fault (line_of fault)

abbrev pub key_text : Key → List ℕ
key_text (File f) = codes "file " ++ f
key_text (Under object terms) = codes "object " ++ object

-- why a name was run last, as it is printed
abbrev pub cause_text : SeenWhy → List ℕ
cause_text of_none = codes "no object\n"
cause_text (of_object NotRun) = codes "not run\n"
cause_text (of_object NoRecord) = codes "no record\n"
cause_text (of_object (Changed k)) = codes "changed " ++ key_text k ++ codes "\n"

abbrev pub answer_name : Answer → List ℕ
answer_name a = a.name

module _ {T : Type 0} (m : Meaning T) (dirs : List (List ℕ)) where
  abbrev pub after : Compiled T → Event Key Content → EngineSituation T
  after e event = happens (runner_of m.build) keeping (judge_of m.check) e.situation event

  abbrev pub taken : List PictureFile → Compiled T → Compiled T
  taken picture e = record {
    files = picture;
    situation = after e
        (take_of (rows_of e) e.situation.state.counter picture (objects_in picture dirs));
  }

  -- the counter with the numbers that a picture needs
  abbrev pub counter_with : List PictureFile → Compiled T → ℕ
  counter_with picture e = counter_after (rows_of e) e.situation.state.counter picture

  abbrev pub take : List PictureFile → Compiled T → Result (Compiled T) Refusal
  take picture e =
      if nat_lt MAX_OBJECTS (length (objects_in picture dirs)) then Err TooManyObjects
      else if nat_lt END_OF_NUMBERS (counter_with picture e) then Err NumbersSpent
      else Ok (taken picture e)

  abbrev pub turned : Compiled T → Compiled T
  turned e = record e { situation = after e Turn }

  -- no number past the end was drawn
  abbrev pub unless_spent : Compiled T → Option (Compiled T)
  unless_spent e = if nat_lt END_OF_NUMBERS e.situation.state.counter then None else Some e

  -- the runs and the steps of the next turn
  abbrev pub work_of : Compiled T → Work
  work_of e = turn_work (runner_of m.build) keeping (judge_of m.check) (costs_of m)
      e.situation.picture e.situation.state

  abbrev pub forgotten : Compiled T → Compiled T
  forgotten e = record e { situation = after e Forget }

  -- what compiling an object from scratch gives, among these objects
  abbrev pub answer_of : List PictureFile → List Name → Name → Answer
  answer_of picture objects o = record {
    name = o;
    outcome = outcome_by (compiled m picture objects o) (deps_in m picture objects o);
  }

  abbrev pub answers_of : List PictureFile → List Name → List Answer
  answers_of picture objects = map (answer_of picture objects) objects

  abbrev pub compiler : Machine (Compiled T)
  compiler = record {
    take = take;
    turn = λ e. record {
      state = unless_spent (turned e);
      runs = (work_of e).0;
      steps = (work_of e).1;
    };
    turns_left = λ e. turns_left e.situation.picture.objects e.situation.state;
    picture = λ e. e.files;
    is_settled = λ e name. not (is_pending e.situation name);
    runs = λ e. runs_at e.situation;
    forget_runs = forgotten;
    cause = λ e name. cause_text (why_at e.situation name);
    answers = λ picture. answers_of picture (objects_in picture dirs);
    deps = λ picture name. deps_in m picture (objects_in picture dirs) name;
    blamed = λ picture name terms. blamed_in m picture (objects_in picture dirs) name terms;
    touched = λ picture file.
        touched_in (register_in m picture (objects_in picture dirs)) file dirs;
    unused = λ picture. unused_in (register_in m picture (objects_in picture dirs)) dirs picture;
  }
