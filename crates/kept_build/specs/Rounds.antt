-- A build behind its devices: what is kept of a settled engine, and how far a build came.
use Rattle.std.specs.Prelude.{ℕ, List, Option, None, option_map, Result, IfOk, IfErr, OnOk, OnErr}
use Rattle.engine_session.specs.Standing.{compiled_in, machine_in}
use Rattle.engine_turns.specs.declared.core_data.Core.{Core}
use Rattle.kept_state.specs.Stored.{Stored}
use Rattle.outside.specs.Cells.{Cell}
use Rattle.publication.specs.Bounds.{answer_over}
use Rattle.publication.specs.Changing.{MadeOver, BegunOver, Tells}
use Rattle.publication.specs.Wants.{wants_of}
use Rattle.publication.specs.declared.answer.Publication.{Publication}
use Rattle.publication.specs.declared.want.Want.{Want}
use Rattle.rebuild.specs.Engines.{Meanings}
use Rattle.record_rows.specs.Rows.{rows_of}
use Rattle.session.specs.Sessions.{answers_in, profiles_of}
use Rattle.session.specs.declared.Ended.{Ended}
use Rattle.site_build.specs.Scenes.{Outs}
use Rattle.site_build.specs.Session.{Session, Finished}
use Rattle.site_build.specs.declared.building.Reached.{Reached}
use Rattle.site_build.specs.declared.building.Reached.TheVariants as reached
use Rattle.stored_rows.specs.declared.row.StoredRow.{StoredRow}
use Rattle.kept_build.specs.Ends.{Stopped, StopsKeeping, WritesEarly}
use Rattle.kept_build.specs.Kept.{kept_behind}
use Rattle.kept_build.specs.Stores.{Keeps}
use Rattle.kept_build.specs.declared.ends.End.{End}

-- what is kept of an engine behind a publication, and its rows
abbrev pub kept_in : {T : Type 0} → Publication → Core T → Option Stored
kept_in p core = kept_behind core.dirs core.limits p (compiled_in core)

abbrev pub rows_in : {T : Type 0} → Publication → Core T → Option (List StoredRow)
rows_in p core = option_map rows_of (kept_in p core)

-- what the profiles of a settled engine want
abbrev pub wants_at : {T : Type 0} → Meanings T → Core T → List Want
wants_at means core = wants_of (profiles_of (answers_in (machine_in means core) (compiled_in core)))

-- what is kept by how far a build came, and its rows
abbrev pub kept_at : {T : Type 0} → Option ℕ → List (List ℕ) → Meanings T → Reached → Core T
    → Option Stored
kept_at most names means reached.All core =
    kept_in (answer_over most names (wants_at means core)) core
kept_at most names means reached.NumbersSpent core = None
kept_at most names means reached.TooMuch core = None

abbrev pub rows_at : {T : Type 0} → Option ℕ → List (List ℕ) → Meanings T → Reached → Core T
    → Option (List StoredRow)
rows_at most names means how core = option_map rows_of (kept_at most names means how core)

-- the shelf with these names, the keeper with these rows, and the sink follow a session and the
-- rows that it wants, to its end or as far as an end lets them
pub record Follows (s : Session) (names : List (List ℕ)) (last : List StoredRow)
    (wanted : Option (List StoredRow)) (result : Result Ended End) (before after : Outs)
    (old new : List ℕ → Cell) : Type 0 where
  pub ok : IfOk result (λ how. Finished s how before.held after.held before.cell after.cell)
  pub text : IfErr result (λ e. WritesEarly s.text e before.held after.held)
  pub shelf : IfErr result (λ e. Stopped e s.shelf before.cell after.cell)
  pub made : OnOk result (Tells before.cell → MadeOver s.wants names before.cell after.cell
      before.changes after.changes)
  pub begun : OnErr result (Tells before.cell → BegunOver s.wants names before.cell after.cell
      before.changes after.changes)
  pub kept : OnOk result (Keeps last wanted old new)
  pub stopped : IfErr result (λ e. StopsKeeping e last wanted old new)
