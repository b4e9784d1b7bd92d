-- What is kept of a session's engine, and the engine that goes on from what was kept.
use Rattle.std.specs.Prelude.{◌≡◌, ℕ, List, Bool, true, ◌&&◌, nat_eq, bytes_eq, map, Option, Some, None, if◌then◌else◌}
use Rattle.std.specs.Cmp.Lexicographic.{pointwise}
use Rattle.pan_ast.specs.declared.work.Limits.{Limits}
use Rattle.kept_state.specs.Stored.{Stored}
use Rattle.stored_rows.specs.declared.row.StoredRow.{StoredRow}
use Rattle.record_rows.specs.Rows as record_rows
use Rattle.engine_turns.specs.States.{pictured}
use Rattle.rebuild.specs.Engines.{Meanings}
use Rattle.engine_rows.specs.Restoring.{file_row, restored_situation, is_fit, IsSoundKept}
use Rattle.engine_rows.specs.Storing.{kept_file, kept_objects}
use Rattle.engine_session.specs.Compiler.{Compiled, nothing, rows_of}

-- what an engine that goes on from what was kept has come to: its files, and its situation
abbrev pub resumed : {T : Type 0} → Stored → Compiled T
resumed s = record {
  files = pictured (map file_row s.files);
  situation = restored_situation s;
}

abbrev pub are_same_dirs : List (List ℕ) → List (List ℕ) → Bool
are_same_dirs = pointwise bytes_eq

abbrev pub are_same_limits : Limits → Limits → Bool
are_same_limits a b = nat_eq a.max_iteration b.max_iteration
    && nat_eq a.max_recursion b.max_recursion

-- it was kept under these directories and limits
abbrev pub is_under : List (List ℕ) → Limits → Stored → Bool
is_under dirs limits s = are_same_dirs s.dirs dirs && are_same_limits s.limits limits

-- an engine with these directories and limits goes on from it
abbrev pub fits : List (List ℕ) → Limits → Stored → Bool
fits dirs limits s = is_under dirs limits s && is_fit s

-- What an engine with these directories and limits has come to that begins with what was kept:
-- where that does not fit, or nothing was kept, it begins anew.
abbrev pub begun_with : {T : Type 0} → List (List ℕ) → Limits → Option Stored → Compiled T
begun_with dirs limits None = nothing
begun_with dirs limits (Some s) = if fits dirs limits s then resumed s else nothing

-- what was kept is sound, where an engine goes on from it
abbrev pub IsSoundFor : {T : Type 0} → Meanings T → List (List ℕ) → Limits → Option Stored → Type 0
IsSoundFor means dirs limits None = Unit {0}
IsSoundFor means dirs limits (Some s) = fits dirs limits s ≡ true → ∥ IsSoundKept means s ∥₁

-- what is kept of an engine with these directories and limits that has come to this
abbrev pub kept_by : {T : Type 0} → List (List ℕ) → Limits → Compiled T → Stored
kept_by dirs limits e = record {
  counter = e.situation.state.counter;
  limits = limits;
  dirs = dirs;
  files = map kept_file (rows_of e);
  objects = kept_objects e.situation.state e.situation.picture.objects;
}

-- its rows
abbrev pub rows_by : {T : Type 0} → List (List ℕ) → Limits → Compiled T → List StoredRow
rows_by dirs limits e = record_rows.rows_of (kept_by dirs limits e)
