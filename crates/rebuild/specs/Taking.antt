-- The numbers of files at a Take.
use Rattle.std.specs.Prelude.{ℕ, ◌+◌, List, [], ◌∷◌, Bool, true, false, cond, Option, Some, None, bytes_eq}
use Rattle.load_path.specs.declared.picture.Content.{Content}
use Rattle.load_path.specs.declared.picture.Content.TheVariants.{Bytes, TooLong}
use Rattle.load_path.specs.declared.picture.PictureFile.{PictureFile}
use Rattle.path_numbers.specs.Numbers.{no_paths}
use Rattle.engine_laws.specs.Names.{Name}
use Rattle.engine_turns.specs.declared.rows.Cause.TheVariants as cause
use Rattle.engine_turns.specs.declared.rows.FileRow.{FileRow}
use Rattle.engine_turns.specs.declared.rows.Row.{Row}
use Rattle.engine_turns.specs.Places.{file_in}

abbrev pub same_content : Content → Content → Bool
same_content (Bytes a) (Bytes b) = bytes_eq a b
same_content (Bytes a) TooLong = false
same_content TooLong (Bytes b) = false
same_content TooLong TooLong = true

-- the number of these contents before, if the file had them
abbrev pub number_before : Content → Option FileRow → Option ℕ
number_before new None = None
number_before new (Some r) = cond (same_content r.content new) (Some r.number) None

-- a file with a number; a drawn one is the counter
abbrev pub with_number : PictureFile → ℕ → FileRow
with_number f n = record { name = f.name; number = n; content = f.content }

abbrev pub number_or : ℕ → Option ℕ → ℕ
number_or counter None = counter
number_or counter (Some n) = n

abbrev pub counter_or : ℕ → Option ℕ → ℕ
counter_or counter None = counter + 1
counter_or counter (Some n) = counter

-- 1 where a file is too long, the number before where its bytes are the same, and else none
abbrev pub old_or_none : List FileRow → List ℕ → Content → Option ℕ
old_or_none old name TooLong = Some 1
old_or_none old name (Bytes bs) = number_before (Bytes bs) (file_in old name)

-- files keep their numbers or draw, in order
abbrev pub numbered : List FileRow → ℕ → List PictureFile → List FileRow
numbered old counter [] = []
numbered old counter (f ∷ fs) = with_number f (number_or counter (old_or_none old f.name f.content))
    ∷ numbered old (counter_or counter (old_or_none old f.name f.content)) fs

abbrev pub counter_after : List FileRow → ℕ → List PictureFile → ℕ
counter_after old counter [] = counter
counter_after old counter (f ∷ fs) =
    counter_after old (counter_or counter (old_or_none old f.name f.content)) fs

-- the row of an object that was none before
abbrev pub new_row : {T : Type 0} → Name → Row T
new_row p = record {
  name = p;
  last = None;
  paths = no_paths;
  build = None;
  check = None;
  open_build = true;
  open_check = true;
  held = None;
  run = false;
  cause = cause.NotRun;
  touched = true;
}
