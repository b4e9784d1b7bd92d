-- What a Take touches, and what the index of readers has to say.
use Rattle.std.specs.Prelude.{◌≡◌, ℕ, List, [], ◌∷◌, ◌++◌, Bool, true, false, ◌||◌, ◌&&◌, not, cond, nat_eq, bytes_eq, map}
use Rattle.std.specs.List.{list_any}
use Rattle.questions.specs.declared.key.Key.{Key}
use Rattle.questions.specs.declared.key.Key.TheVariants.{File}
use Rattle.questions.specs.Keys.{key_eq}
use Rattle.read_index.specs.Subjects.{subject, reader_key}
use Rattle.engine_laws.specs.Names.{Name}
use Rattle.engine_laws.specs.Engine.{is_among, lacks_record, both_items, any_key}
use Rattle.engine_turns.specs.declared.core_data.Core.{Core}
use Rattle.engine_turns.specs.declared.rows.FileRow.{FileRow}
use Rattle.engine_turns.specs.declared.rows.Row.{Row}
use Rattle.engine_turns.specs.Places.{column, names, file_number_in}
use Rattle.engine_turns.specs.States.{reads_of, checked_of}
use Rattle.rebuild.specs.Engines.{EngineSituation}

-- who asks for what, by the keys of readers, and of files and objects
abbrev pub Asking : Type 0
Asking = Key → Key → Bool

-- one of these items asks for this file or object
abbrev pub asks_for : Key → List (Key × ℕ) → Bool
asks_for k items = any_key (λ j. key_eq k (subject j)) items

-- an object that is none reads nothing, and one that is not touched what its record says
abbrev pub AreIndexed : {T : Type 0} → Asking → EngineSituation T → Type 0
AreIndexed asks x =
    ((p : Name) (k : Key) → is_among p x.picture.objects ≡ false → asks (reader_key p) k ≡ false)
    × ((p : Name) (k : Key) → x.state.touched p ≡ false
    → asks (reader_key p) k ≡ asks_for k (both_items (x.state.reads p) (x.state.checked p)))

-- an object is touched whatever the others are: it has no whole record, or was touched before and
-- not
-- all was settled since
abbrev pub touched_first : {T : Type 0} → Bool → Row T → Bool
touched_first settled r =
    lacks_record (reads_of r) (checked_of r) || (not settled && r.touched)

-- the object of the row was touched, and has a whole record
abbrev pub is_noted : {T : Type 0} → Row T → Bool
is_noted r = r.touched && not (lacks_record (reads_of r) (checked_of r))

-- who asks for what once a row's object reads what its record says
abbrev pub noted_row : {T : Type 0} → Row T → Asking → Asking
noted_row r asks reader k = cond (is_noted r && key_eq reader (reader_key r.name))
    (asks_for k (both_items (reads_of r) (checked_of r))) (asks reader k)

abbrev pub noted_rows : {T : Type 0} → List (Row T) → Asking → Asking
noted_rows [] asks = asks
noted_rows (r ∷ rows) asks = noted_rows rows (noted_row r asks)

-- and once these read nothing
abbrev pub cleared : List Key → Asking → Asking
cleared readers asks reader k = cond (list_any (key_eq reader) readers) false (asks reader k)

-- the objects among these that are not among the others
abbrev pub missing : List Name → List Name → List Key
missing [] others = []
missing (p ∷ ps) others =
    cond (is_among p others) (missing ps others) (reader_key p ∷ missing ps others)

abbrev pub touched_keys : {T : Type 0} → Bool → List (Row T) → List Key
touched_keys settled [] = []
touched_keys settled (r ∷ rows) = cond (touched_first settled r)
    (reader_key r.name ∷ touched_keys settled rows) (touched_keys settled rows)

-- the files whose number is another one among the others
abbrev pub changed_files : List FileRow → List FileRow → List Key
changed_files [] others = []
changed_files (r ∷ files) others = cond (nat_eq (file_number_in others r.name) r.number)
    (changed_files files others) (File r.name ∷ changed_files files others)

-- what a Take moves besides the objects that are gone: those that are new, those that are touched
-- whatever the others are, and the files whose numbers differ
abbrev pub moved_keys : {T : Type 0} → Bool → Core T → List Name → List FileRow → List Key
moved_keys settled c objects files = missing objects (names c.rows.items)
    ++ (touched_keys settled c.rows.items
    ++ (changed_files c.files.items files ++ changed_files files c.files.items))

-- a row as if it were touched
abbrev pub calmless : {T : Type 0} → Row T → Row T
calmless r = record r { touched = true }

-- these are touched besides, and nothing else has changed
pub record IsTouched {T : Type 0} (objects : List Name) (rows new : List (Row T)) : Type 0 where
  pub same : map calmless new ≡ map calmless rows
  pub flags : (p : Name) → column (λ r. r.touched) true new p
      ≡ column (λ r. r.touched) true rows p || list_any (bytes_eq p) objects
