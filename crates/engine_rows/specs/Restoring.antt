-- The engine that is restored from what was kept.
use Rattle.std.specs.Prelude.{◌≡◌, ◌≤◌, ℕ, List, [], ◌∷◌, ◌++◌, Bool, true, false, ◌&&◌, cond, nat_le, nat_lt, Option, Some, None, map, length}
use Rattle.std.specs.List.{list_all}
use Rattle.asking.specs.declared.limits.TheConstants.{END_OF_NUMBERS}
use Rattle.base.specs.declared.limits.TheConstants.{MAX_OBJECTS}
use Rattle.load_path.specs.Pictures.{has_short_content}
use Rattle.questions.specs.declared.key.Key.{Key}
use Rattle.questions.specs.declared.key.Key.TheVariants.{File, Under}
use Rattle.stored_rows.specs.Rows.{are_rising}
use Rattle.kept_state.specs.declared.kept.KeptFile.{KeptFile}
use Rattle.kept_state.specs.declared.kept.KeptObject.{KeptObject}
use Rattle.kept_state.specs.Stored.{Stored, file_name, object_name}
use Rattle.path_numbers.specs.Numbers.{no_paths}
use Rattle.engine_laws.specs.Names.{Name}
use Rattle.engine_laws.specs.Restored.{with_numbers}
use Rattle.engine_laws.specs.Rows.{AreSoundRows}
use Rattle.engine_machine.specs.Machine.{runner_of, keeping, judge_of}
use Rattle.engine_turns.specs.declared.rows.Cause.TheVariants as cause
use Rattle.engine_turns.specs.declared.core_data.Core.{Core}
use Rattle.engine_turns.specs.declared.rows.FileRow.{FileRow}
use Rattle.engine_turns.specs.declared.rows.Last.{Last}
use Rattle.engine_turns.specs.declared.rows.Row.{Row}
use Rattle.engine_turns.specs.Kinds.{is_tree}
use Rattle.engine_turns.specs.Places.{column}
use Rattle.engine_turns.specs.Ready.{IsReady}
use Rattle.engine_turns.specs.States.{has_grade, picture_of, state_of, reads_of, checked_of}
use Rattle.engine_rows.specs.declared.restoring.RestoreError.{RestoreError}
use Rattle.engine_rows.specs.declared.restoring.RestoreError.TheVariants.{Unfit, Memory}
use Rattle.rebuild.specs.Engines.{EngineSituation, EngineValue, Meanings, value_of}
use Rattle.rebuild.specs.Keeping.{build_items, check_items}

abbrev pub file_row : KeptFile → FileRow
file_row f = record { name = f.name; number = f.number; content = f.content }

-- the row of an object: nothing of it is unsettled, it was not run, and its record is compared
-- whole
abbrev pub restored_row : {T : Type 0} → KeptObject → Row T
restored_row o = record {
  name = o.name;
  last = Some (record { number = o.number; result = o.built });
  paths = no_paths;
  build = Some o.build_reads;
  check = Some (record { reads = o.check_reads; verdict = o.verdict });
  open_build = false;
  open_check = false;
  held = None;
  run = false;
  cause = cause.NotRun;
  touched = true;
}

-- the files and objects, without the numbers of paths
abbrev pub without_paths : {T : Type 0} → Stored → EngineSituation T
without_paths s = record {
  picture = picture_of (map file_row s.files) (map object_name s.objects);
  state = state_of s.counter (map file_row s.files) (map restored_row s.objects) [];
}

-- a path of a tree has the number of the first item from 3 on that asked for it
abbrev pub restored_situation : {T : Type 0} → Stored → EngineSituation T
restored_situation s = with_numbers keeping (without_paths s)

abbrev pub restored_value : {T : Type 0} → Stored → EngineValue T
restored_value s = record {
  limits = s.limits;
  dirs = s.dirs;
  files = map file_row s.files;
  situation = restored_situation s;
}

-- what was kept is sound: each result is what compiling all of the files from scratch gives, and
-- each
-- record is what that reads, under the present numbers
abbrev pub IsSoundKept : {T : Type 0} → Meanings T → Stored → Type 0
IsSoundKept m s = AreSoundRows (runner_of (m s.dirs s.limits).build) keeping
    (judge_of (m s.dirs s.limits).check) (restored_situation s)

-- the number is one of its result's kind
abbrev pub has_own_grade : KeptObject → Bool
has_own_grade o = has_grade o.number o.built

-- each file has a number
abbrev pub has_number : KeptFile → Bool
has_number f = nat_lt 0 f.number

-- the file has no more bytes than a picture's file may have
abbrev pub is_short : KeptFile → Bool
is_short f = has_short_content f.content

-- An engine can hold it: its counter is from 3 to the end of numbers, names rise, each file has a
-- number and is one of a picture, each result has a number of its kind, and the objects are not too
-- many.
abbrev pub is_fit : Stored → Bool
is_fit s = nat_le 3 s.counter && (nat_le s.counter END_OF_NUMBERS
    && (are_rising (map file_name s.files) && (list_all has_number s.files
    && (list_all is_short s.files && (are_rising (map object_name s.objects)
    && (list_all has_own_grade s.objects && nat_le (length s.objects) MAX_OBJECTS))))))

-- why it is not restored
abbrev pub IsUnfit : RestoreError → Stored → Type 0
IsUnfit Unfit s = is_fit s ≡ false
IsUnfit Memory s = Unit {0}

-- the data of an engine that is restored from it
pub record IsRestored {T : Type 0} (s : Stored) (c : Core T) : Type 0 where
  pub value : value_of c ≡ restored_value s
  pub ready : IsReady c
  pub low : c.counter ≤ END_OF_NUMBERS
  pub few : length c.rows.items ≤ MAX_OBJECTS

-- ---- the items that enter the tables of paths: inner contracts use it

-- the last result is a tree
abbrev pub is_tree_last : Option Last → Bool
is_tree_last None = false
is_tree_last (Some l) = is_tree l.result

-- the last result of an object is a tree
abbrev pub has_tree : {T : Type 0} → List (Row T) → Name → Bool
has_tree rows p = column (λ r. is_tree_last r.last) false rows p

-- the key asks for such an object
abbrev pub asks_tree : {T : Type 0} → List (Row T) → Key → Bool
asks_tree rows (File f) = false
asks_tree rows (Under p terms) = has_tree rows p

abbrev pub is_tree_item : {T : Type 0} → List (Row T) → Key × ℕ → Bool
is_tree_item rows q = asks_tree rows q.0 && nat_le 3 q.1

-- the items from 3 on whose keys do
abbrev pub tree_items : {T : Type 0} → List (Row T) → List (Key × ℕ) → List (Key × ℕ)
tree_items rows [] = []
tree_items rows (q ∷ items) =
    cond (is_tree_item rows q) (q ∷ tree_items rows items) (tree_items rows items)

-- those of a record
abbrev pub record_items : {T : Type 0} → List (Row T) → Row T → List (Key × ℕ)
record_items rows r = tree_items rows (build_items (reads_of r))
    ++ tree_items rows (check_items (checked_of r))

-- and of all records of these rows
abbrev pub all_items : {T : Type 0} → List (Row T) → List (Row T) → List (Key × ℕ)
all_items rows [] = []
all_items rows (r ∷ rest) = record_items rows r ++ all_items rows rest
