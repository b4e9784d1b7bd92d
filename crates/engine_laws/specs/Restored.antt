-- What is kept of an engine from run to run, and the engine that is restored from it.
use Rattle.std.specs.Prelude.{◌≡◌, [], true, false, not, None}
use Rattle.engine_laws.specs.Names.{Name}
use Rattle.engine_laws.specs.Runner.{Runner, IsIn}
use Rattle.engine_laws.specs.Engine.{NotRun, Keeping, Judge, Situation, is_among, if_object}
use Rattle.engine_laws.specs.Reached.{IsReached}
use Rattle.engine_laws.specs.Rows.{row_entry, AreNamed, AreSoundRows}

-- the keys of objects have the numbers that the records name
abbrev pub with_numbers : {K C R S F : Type 0} → Keeping K C R S → Situation K C R S F
    → Situation K C R S F
with_numbers kp x = record {
  picture = x.picture;
  state = record x.state { table = λ k. row_entry kp x k (x.picture.target k) };
}

-- What is kept of each object: its last result and its record. Nothing of it is unsettled, it is
-- touched, and it was not run.
abbrev pub at_rest : {K C R S F : Type 0} → Situation K C R S F → Situation K C R S F
at_rest x = record {
  picture = x.picture;
  state = record {
    counter = x.state.counter;
    number = x.state.number;
    last = if_object x.picture.objects x.state.last;
    table = λ k. None;
    reads = if_object x.picture.objects x.state.reads;
    checked = if_object x.picture.objects x.state.checked;
    open_build = λ p. not (is_among p x.picture.objects);
    open_check = λ p. not (is_among p x.picture.objects);
    held = λ p. None;
    chain = [];
    checking = None;
    runs = λ p. false;
    why = λ p. NotRun;
    touched = λ p. true;
  };
}

-- restored from what is kept of this one
abbrev pub restored : {K C R S F : Type 0} → Keeping K C R S → Situation K C R S F
    → Situation K C R S F
restored kp x = with_numbers kp (at_rest x)

module _ {K C R S F : Type 0} (run : Runner K C R) (kp : Keeping K C R S) (jd : Judge K C R F) where
  -- nothing of an object is unsettled
  abbrev pub AllSettled : Situation K C R S F → Type 0
  AllSettled x = (o : Name) → IsIn o x.picture.objects
      → (x.state.open_build o ≡ false) × (x.state.open_check o ≡ false)

  -- what is kept where events lead, with nothing unsettled, is sound rows
  abbrev pub KeepsSoundRows : Type 0
  KeepsSoundRows = (x : Situation K C R S F) → IsReached run kp jd x → AreNamed kp x.picture
      → AllSettled x → AreSoundRows run kp jd (restored kp x)
