-- What the rounds of a session run and cost, by the machine of a session.
use Rattle.std.specs.Prelude.{◌≡◌, ◌+◌, ◌≤◌, ◌==◌, if◌then◌else◌, ℕ, zero, suc, List, [], ◌∷◌, false}
use Rattle.load_path.specs.declared.picture.PictureFile.{PictureFile}
use Rattle.questions.specs.declared.key.Key.{Key}
use Rattle.questions.specs.Contents.{Content}
use Rattle.runner.specs.Meaning.{Meaning}
use Rattle.engine_laws.specs.Names.{Name}
use Rattle.engine_laws.specs.Runner.{IsIn}
use Rattle.engine_laws.specs.Engine.{Event, Turn}
use Rattle.engine_laws.specs.Rounds.{IsRound}
use Rattle.engine_laws.specs.Rows.{IsOnce, AreSoundRows}
use Rattle.engine_laws.specs.Steps.{round_bound}
use Rattle.engine_machine.specs.Machine.{runner_of, keeping, judge_of, costs_of}
use Rattle.engine_machine.specs.Pictures.{picture_in}
use Rattle.engine_turns.specs.States.{file_number}
use Rattle.engine_session.specs.Compiler.{Compiled, nothing, rows_of, compiler, taken, turned, forgotten, work_of}
use Rattle.engine_session.specs.Names.{objects_in}

-- a picture that is taken, and the number of turns that are made then
pub record Round : Type 0 where
  pub picture : List PictureFile
  pub turns : ℕ

module _ {T : Type 0} (m : Meaning T) (dirs : List (List ℕ)) where
  -- it begins with sound rows of its files
  pub record HasSoundRows (e : Compiled T) : Type 0 where
    pub rows : AreSoundRows (runner_of m.build) keeping (judge_of m.check) e.situation
    pub objects : List Name
    pub once : IsOnce objects
    pub picture : e.situation.picture ≡ picture_in e.files objects
    pub numbers : (k : Key) → file_number (rows_of e) k ≡ e.situation.state.number k

  -- what an engine of a session can come to, from nothing or from such rows: pictures are taken,
  -- turns
  -- are made, and runs are forgotten where no turn is left
  pub data Comes : Compiled T → Type 0 where
    at_first : Comes nothing
    at_rows : (e : Compiled T) → HasSoundRows e → Comes e
    with_picture : (picture : List PictureFile) (e : Compiled T) → Comes e
        → Comes (taken m dirs picture e)
    with_turn : (e : Compiled T) → Comes e → Comes (turned m dirs e)
    with_report : (e : Compiled T) → Comes e → (compiler m dirs).turns_left e ≡ 0
        → Comes (forgotten m dirs e)

  -- so many turns, and their steps
  abbrev pub with_turns : ℕ → Compiled T → Compiled T
  with_turns zero e = e
  with_turns (suc n) e = with_turns n (turned m dirs e)

  abbrev pub turns_steps : ℕ → Compiled T → ℕ
  turns_steps zero e = 0
  turns_steps (suc n) e = (work_of m dirs e).1 + turns_steps n (turned m dirs e)

  abbrev pub turn_events : ℕ → List (Event Key Content)
  turn_events zero = []
  turn_events (suc n) = Turn ∷ turn_events n

  -- A picture is taken, and so many turns are made.
  pub record IsRoundOf (picture : List PictureFile) (e : Compiled T) (n : ℕ) : Type 0 where
    -- where no name was run before, and all is settled then: a name that is not run has its record,
    -- and
    -- one that is run had no whole record, or one that has changed
    pub runs : ((o : Name) → e.situation.state.runs o ≡ false)
        → ((o : Name) → IsIn o (objects_in picture dirs)
        → (with_turns n (taken m dirs picture e)).situation.state.open_check o ≡ false)
        → (o : Name) → IsIn o (objects_in picture dirs)
        → IsRound (runner_of m.build) keeping (judge_of m.check)
        (taken m dirs picture e).situation (with_turns n (taken m dirs picture e)).situation o
    -- the turns cost at most what the records may cost, and the runs that they make
    pub steps : turns_steps n (taken m dirs picture e) ≤ round_bound (runner_of m.build) keeping
        (judge_of m.check) (costs_of m) (taken m dirs picture e).situation (turn_events n)

  -- behind a round, whose report forgets the runs where no turn is left
  abbrev pub reported : Compiled T → Compiled T
  reported e = if (compiler m dirs).turns_left e == 0 then forgotten m dirs e else e

  abbrev pub behind : Round → Compiled T → Compiled T
  behind r e = reported (with_turns r.turns (taken m dirs r.picture e))

  -- the steps of rounds, one after the other, and what they may cost
  abbrev pub rounds_steps : List Round → Compiled T → ℕ
  rounds_steps [] e = 0
  rounds_steps (r ∷ rs) e =
      turns_steps r.turns (taken m dirs r.picture e) + rounds_steps rs (behind r e)

  abbrev pub rounds_bound : List Round → Compiled T → ℕ
  rounds_bound [] e = 0
  rounds_bound (r ∷ rs) e =
      round_bound (runner_of m.build) keeping (judge_of m.check) (costs_of m)
      (taken m dirs r.picture e).situation (turn_events r.turns)
      + rounds_bound rs (behind r e)

  -- that is so wherever a session has come to, and so the rounds of a session cost at most the sum
  pub record HasRounds : Type 0 where
    pub each : (picture : List PictureFile) (e : Compiled T) (n : ℕ) → Comes e
        → IsRoundOf picture e n
    pub sum : (rounds : List Round) (e : Compiled T) → Comes e
        → rounds_steps rounds e ≤ rounds_bound rounds e
