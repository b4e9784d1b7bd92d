-- What is kept of an engine.
use Rattle.std.specs.Prelude.{ℕ, List, [], ◌∷◌, Option, Some, None, map}
use Rattle.questions.specs.declared.key.Key.{Key}
use Rattle.read_sets.specs.declared.trace.Item.{Item}
use Rattle.runner.specs.Ends.{Verdict}
use Rattle.kept_state.specs.declared.kept.KeptFile.{KeptFile}
use Rattle.kept_state.specs.declared.kept.KeptObject.{KeptObject}
use Rattle.kept_state.specs.Stored.{Stored}
use Rattle.engine_laws.specs.Names.{Name}
use Rattle.engine_machine.specs.Machine.{Kept}
use Rattle.engine_turns.specs.declared.rows.CheckRecord.{CheckRecord}
use Rattle.engine_turns.specs.declared.rows.Last.{Last}
use Rattle.engine_turns.specs.declared.rows.FileRow.{FileRow}
use Rattle.engine_turns.specs.declared.rows.Row.{Row}
use Rattle.engine_turns.specs.States.{EngineState, last_of, reads_of, checked_of}
use Rattle.rebuild.specs.Engines.{EngineValue}

abbrev pub kept_file : FileRow → KeptFile
kept_file r = record { name = r.name; number = r.number; content = r.content }

abbrev pub item_of : Key × ℕ → Item
item_of q = record { key = q.0; number = q.1 }

abbrev pub items_of : List (Key × ℕ) → List Item
items_of items = map item_of items

-- an object with its last result and its whole record, if it has them
abbrev pub kept_object : Name → Option (ℕ × Kept) → Option (List (Key × ℕ))
    → Option (List (Key × ℕ) × Verdict) → Option KeptObject
kept_object o None r c = None
kept_object o (Some l) None c = None
kept_object o (Some l) (Some items) None = None
kept_object o (Some l) (Some items) (Some c) = Some (record {
  name = o;
  number = l.0;
  built = l.1;
  build_reads = items_of items;
  verdict = c.1;
  check_reads = items_of c.0;
})

abbrev pub with_some : {A : Type 0} → Option A → List A → List A
with_some None xs = xs
with_some (Some x) xs = x ∷ xs

abbrev pub kept_at : {T : Type 0} → EngineState T → Name → Option KeptObject
kept_at s o = kept_object o (s.last o) (s.reads o) (s.checked o)

abbrev pub kept_objects : {T : Type 0} → EngineState T → List Name → List KeptObject
kept_objects s [] = []
kept_objects s (o ∷ os) = with_some (kept_at s o) (kept_objects s os)

-- limits, directories, counter, files, and objects with their last results and whole records
abbrev pub kept_of : {T : Type 0} → EngineValue T → Stored
kept_of e = record {
  counter = e.situation.state.counter;
  limits = e.limits;
  dirs = e.dirs;
  files = map kept_file e.files;
  objects = kept_objects e.situation.state e.situation.picture.objects;
}

-- ---- by the rows of the code: inner contracts use it

abbrev pub kept_parts : Name → Last → List Item → CheckRecord → KeptObject
kept_parts o l build c = record {
  name = o;
  number = l.number;
  built = l.result;
  build_reads = build;
  verdict = c.verdict;
  check_reads = c.reads;
}

abbrev pub kept_in : {T : Type 0} → Row T → Option KeptObject
kept_in r = kept_object r.name (last_of r) (reads_of r) (checked_of r)

abbrev pub kept_rows : {T : Type 0} → List (Row T) → List KeptObject
kept_rows [] = []
kept_rows (r ∷ rows) = with_some (kept_in r) (kept_rows rows)
