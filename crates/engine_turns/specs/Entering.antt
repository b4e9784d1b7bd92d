-- The paths that a settling enters.
use Rattle.std.specs.Prelude.{◌≡◌, ℕ, List, [], ◌∷◌, Bool, false, ◌&&◌, cond, nat_le, Option, Some, map}
use Rattle.questions.specs.declared.key.Key.{Key}
use Rattle.questions.specs.declared.key.Key.TheVariants.{File, Under}
use Rattle.questions.specs.Keys.{key_eq}
use Rattle.engine_laws.specs.Names.{Name}
use Rattle.engine_laws.specs.Engine.{is_among, or_else}
use Rattle.path_numbers.specs.Numbers.{no_paths}
use Rattle.engine_turns.specs.declared.entering.Entry.{Entry}
use Rattle.engine_turns.specs.declared.rows.Row.{Row}
use Rattle.engine_turns.specs.Places.{names}
use Rattle.engine_turns.specs.States.{table_in}

abbrev pub entry_pair : Entry → Key × ℕ
entry_pair e = (Under e.object e.path.0, e.path.1)

-- an item of an object, from number 3 on
abbrev pub is_wanted_key : List Name → Key → Bool
is_wanted_key objects (File f) = false
is_wanted_key objects (Under p terms) = is_among p objects

abbrev pub is_wanted : List Name → Key × ℕ → Bool
is_wanted objects q = is_wanted_key objects q.0 && nat_le 3 q.1

abbrev pub wanted : List Name → List (Key × ℕ) → List (Key × ℕ)
wanted objects [] = []
wanted objects (q ∷ items) =
    cond (is_wanted objects q) (q ∷ wanted objects items) (wanted objects items)

-- a key has the number, unless it has one
abbrev pub entered_one : List Name → Key × ℕ → (Key → Option ℕ) → Key → Option ℕ
entered_one objects q table k =
    cond (is_wanted objects q && key_eq q.0 k) (or_else (table k) (Some q.1)) (table k)

abbrev pub entered_all : List Name → List (Key × ℕ) → (Key → Option ℕ) → Key → Option ℕ
entered_all objects [] table k = table k
entered_all objects (q ∷ items) table k =
    entered_all objects items (entered_one objects q table) k

-- a row without its paths
abbrev pub bare : {T : Type 0} → Row T → Row T
bare r = record r { paths = no_paths }

-- rows that differ in their paths alone, which have these numbers besides
pub record IsEntered {T : Type 0} (items : List (Key × ℕ)) (rows new : List (Row T)) : Type 0 where
  pub bare : map bare new ≡ map bare rows
  pub table : (k : Key) → table_in new k ≡ entered_all (names rows) items (table_in rows) k
