-- The text of a dependency file.
use Rattle.std.specs.Prelude.{◌≡◌, ℕ, List, [], ◌∷◌, ◌++◌, codes, fold, flat_map, nat_eq, bytes_eq, if◌then◌else◌}
use Rattle.std.specs.BTreeSet.{insert_key}
use Rattle.std.specs.Cmp.Lexicographic.{slice_cmp}
use Rattle.std.specs.List.{ends_with, list_any}
use Rattle.std.specs.List.Sorted.{IsStrictlySortedBy}
use Rattle.std.specs.Ordering.{nat_cmp}
use Rattle.base.specs.Characters.{line_feed}
use Rattle.questions.specs.declared.key.Key.{Key}
use Rattle.questions.specs.declared.key.Key.TheVariants.{File, Under}

-- a file with number 0 is not there
abbrev pub file_word : List ℕ → ℕ → List ℕ
file_word name number =
    if nat_eq number 0 then codes "missing "
    else (if ends_with nat_eq name (codes ".pan") then codes "template " else codes "file ")

-- the line of a key that was asked, with its number
abbrev pub line_of : Key × ℕ → List ℕ
line_of (File name, n) = file_word name n ++ name
line_of (Under object terms, n) = codes "object " ++ object

-- lines in byte order, and the line of this item at its place, where it is new
abbrev pub with_line : List (List ℕ) → Key × ℕ → List (List ℕ)
with_line lines item = insert_key (slice_cmp nat_cmp) lines (line_of item)

-- the lines of all items, in byte order and each once
abbrev pub lines_of : List (Key × ℕ) → List (List ℕ)
lines_of items = fold with_line [] items

abbrev pub with_feed : List ℕ → List ℕ
with_feed line = line ++ line_feed ∷ []

-- of the items of a build and of what came later
abbrev pub dep_text_of : List (Key × ℕ) → List (Key × ℕ) → List ℕ
dep_text_of build later = flat_map with_feed (lines_of (build ++ later))

-- each line is below the next, and they are exactly these
pub record AreInOrder (lines all : List (List ℕ)) : Type 0 where
  pub rising : IsStrictlySortedBy (slice_cmp nat_cmp) lines
  pub exactly : (line : List ℕ) → list_any (bytes_eq line) lines ≡ list_any (bytes_eq line) all
