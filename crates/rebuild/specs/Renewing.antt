-- Rows that take what was kept of their objects.
use Rattle.std.specs.Prelude.{◌≡◌, ◌≤◌, length, ℕ, zero, suc, List, [], ◌∷◌, Bool, true, false, Option, Some, None, map, get_or, slice_set}
use Rattle.asking.specs.declared.limits.TheConstants.{END_OF_NUMBERS}
use Rattle.base.specs.declared.limits.TheConstants.{MAX_OBJECTS}
use Rattle.object_names.specs.Objects.{AreObjects}
use Rattle.engine_laws.specs.Names.{Name, equal}
use Rattle.engine_turns.specs.declared.rows.Row.{Row}
use Rattle.engine_turns.specs.Places.{row_in, names}
use Rattle.load_path.specs.declared.picture.PictureFile.{PictureFile}
use Rattle.engine_laws.specs.Engine.{taken, touched_by}
use Rattle.engine_machine.specs.Machine.{keeping}
use Rattle.path_numbers.specs.Numbers.{no_paths}
use Rattle.engine_turns.specs.declared.core_data.Core.{Core}
use Rattle.engine_turns.specs.States.{EngineState, file_number, picture_of}
use Rattle.engine_turns.specs.Ready.{core_state, IsReady}
use Rattle.rebuild.specs.Engines.{situation_of}
use Rattle.rebuild.specs.Reaching.{Asking, AreIndexed, touched_first}
use Rattle.rebuild.specs.Taking.{new_row, numbered, counter_after}

-- both parts are unsettled, there are no paths, and the object is touched where it is so whatever
-- the
-- others are
abbrev pub reopened : {T : Type 0} → Bool → Row T → Row T
reopened settled r = record r {
  open_build = true;
  open_check = true;
  held = None;
  paths = no_paths;
  touched = touched_first settled r;
}

-- what is kept of an object, else the row as it is
abbrev pub kept_or : {T : Type 0} → Bool → Row T → Option (Row T) → Row T
kept_or settled r None = r
kept_or settled r (Some x) = reopened settled x

-- the row of an object after a Take
abbrev pub taken_row : {T : Type 0} → Bool → Name → Option (Row T) → Row T
taken_row settled p None = new_row p
taken_row settled p (Some r) = reopened settled r

abbrev pub taken_rows : {T : Type 0} → Bool → List (Row T) → List Name → List (Row T)
taken_rows settled rows objects = map (λ p. taken_row settled p (row_in p rows)) objects

-- the row at this place takes what the old rows keep of its name; those keep all of other names
pub record IsRenewed {T : Type 0} (settled : Bool) (at : ℕ)
    (fresh old fresh' old' : List (Row T)) : Type 0 where
  pub taken : (e : Row T) → fresh' ≡ slice_set fresh at
      (kept_or settled (get_or fresh at e) (row_in (get_or fresh at e).name old))
  pub others : (e : Row T) (q : Name) → equal q (get_or fresh at e).name ≡ false
      → row_in q old' ≡ row_in q old
  pub named : names old' ≡ names old

-- the first i objects have what was kept of them, the others are fresh
abbrev pub renewed : {T : Type 0} → Bool → ℕ → List Name → List (Row T) → List (Row T)
renewed settled zero objects old = map new_row objects
renewed settled (suc i) [] old = []
renewed settled (suc i) (o ∷ objects) old =
    taken_row settled o (row_in o old) ∷ renewed settled i objects old

-- the state after a Take of a picture with these files and objects
abbrev pub taken_state : {T : Type 0} → List PictureFile → List Name → Core T → EngineState T
taken_state files objects c = let w = picture_of (numbered c.files.items c.counter files) objects in
    let number = file_number (numbered c.files.items c.counter files) in
    taken keeping w (touched_by (situation_of c) w number) number
    (counter_after c.files.items c.counter files) (core_state c)

-- the data after a Take of a picture with these files and objects; the state where the index was in
-- order, as what is touched is looked up in it
pub record IsTaken {T : Type 0} (asks : Asking) (files : List PictureFile) (objects : List Name)
    (c new : Core T) : Type 0 where
  pub state : AreIndexed asks (situation_of c) → core_state new ≡ taken_state files objects c
  pub ready : IsReady new
  pub limits : new.limits ≡ c.limits
  pub dirs : new.dirs ≡ c.dirs
  pub files_are : new.files.items ≡ numbered c.files.items c.counter files
  pub objects_are : names new.rows.items ≡ objects
  pub low : c.counter ≤ END_OF_NUMBERS → new.counter ≤ END_OF_NUMBERS

-- the data after a Take of a picture: its objects are those of the picture, and not too many
pub record IsPictureTaken {T : Type 0} (asks : Asking) (files : List PictureFile)
    (c new : Core T) : Type 0 where
  pub taken : IsTaken asks files (names new.rows.items) c new
  pub objects : AreObjects files c.dirs (names new.rows.items)
  pub few : length new.rows.items ≤ MAX_OBJECTS
