-- The paths that keep their numbers at a Take.
use Rattle.std.specs.Prelude.{ℕ, List, [], ◌∷◌, ◌++◌, Option, Some, None}
use Rattle.questions.specs.declared.key.Key.{Key}
use Rattle.engine_laws.specs.Names.{Name}
use Rattle.engine_turns.specs.declared.rows.Row.{Row}
use Rattle.engine_turns.specs.Places.{row_in}
use Rattle.engine_turns.specs.States.{reads_of, checked_of, table_in}
use Rattle.runner.specs.Ends.{Verdict}

abbrev pub with_own : Key → Option ℕ → List (Key × ℕ)
with_own k None = []
with_own k (Some n) = (k, n) ∷ []

-- a key with its own number, if it has one
abbrev pub own_entry : (Key → Option ℕ) → Key → List (Key × ℕ)
own_entry table k = with_own k (table k)

abbrev pub own_entries : (Key → Option ℕ) → List (Key × ℕ) → List (Key × ℕ)
own_entries table [] = []
own_entries table (q ∷ items) = own_entry table q.0 ++ own_entries table items

abbrev pub build_items : Option (List (Key × ℕ)) → List (Key × ℕ)
build_items None = []
build_items (Some items) = items

abbrev pub check_items : Option (List (Key × ℕ) × Verdict) → List (Key × ℕ)
check_items None = []
check_items (Some q) = q.0

-- the keys that the record of a row names
abbrev pub row_entries : {T : Type 0} → (Key → Option ℕ) → Row T → List (Key × ℕ)
row_entries table r = own_entries table (build_items (reads_of r))
    ++ own_entries table (check_items (checked_of r))

abbrev pub found_entries : {T : Type 0} → (Key → Option ℕ) → Option (Row T) → List (Key × ℕ)
found_entries table None = []
found_entries table (Some r) = row_entries table r

-- those that the records of these objects name
abbrev pub kept_entries : {T : Type 0} → List (Row T) → List Name → List (Key × ℕ)
kept_entries rows [] = []
kept_entries rows (o ∷ objects) =
    found_entries (table_in rows) (row_in o rows) ++ kept_entries rows objects
