-- What a build keeps, by the engine that it begins with.
use Rattle.std.specs.Prelude.{ℕ, List, Option, Some, None, option_map}
use Rattle.command_words.specs.declared.commands.Work.{Work}
use Rattle.engine_session.specs.Compiler.{Compiled}
use Rattle.kept_state.specs.Stored.{Stored}
use Rattle.kept_works.specs.Kept.{IsSoundFor, begun_with, kept_by}
use Rattle.outside.specs.declared.source.MemFile.{MemFile}
use Rattle.pan_ast.specs.declared.work.Limits.{Limits}
use Rattle.publication.specs.Bounds.{answer_over}
use Rattle.publication.specs.declared.answer.Publication.{Publication}
use Rattle.publication.specs.declared.answer.Publication.TheVariants.{Done, TooManyRemovals}
use Rattle.rebuild.specs.Engines.{Meanings}
use Rattle.record_rows.specs.Rows.{rows_of}
use Rattle.session.specs.Sessions.{Next, GoesOn, Quits, SpendsNumbers, IsTooMuch, wants_in}
use Rattle.site_build.specs.Session.{engine_for, limits_of, round_from}
use Rattle.stored_rows.specs.declared.row.StoredRow.{StoredRow}

-- what an engine has come to that goes on from what was found, for this command
abbrev pub begun_for : {T : Type 0} → Work → Stored → Compiled T
begun_for w found = begun_with w.directories (limits_of w) (Some found)

-- what was found is sound, where the command goes on from it
abbrev pub IsSoundStart : {T : Type 0} → Meanings T → Work → Stored → Type 0
IsSoundStart means w found = IsSoundFor means w.directories (limits_of w) (Some found)

-- behind a publication the engine is kept; where too many names were to go, nothing is
abbrev pub kept_behind : {T : Type 0} → List (List ℕ) → Limits → Publication → Compiled T
    → Option Stored
kept_behind dirs limits (Done troubles) e = Some (kept_by dirs limits e)
kept_behind dirs limits (TooManyRemovals removals) e = None

module _ {T : Type 0} (means : Meanings T) (w : Work) (names : List (List ℕ)) where
  -- what is kept of what a round leads to, over a shelf with these names
  abbrev pub kept_after : Next (Compiled T) → Option Stored
  kept_after (GoesOn t) = kept_behind w.directories (limits_of w)
      (answer_over w.most_removed names (wants_in (engine_for means w) t)) t.engine
  kept_after (Quits t) = None
  kept_after (SpendsNumbers t) = None
  kept_after (IsTooMuch t) = None

  -- what a build keeps that begins with this engine, and its rows
  abbrev pub kept_from : Compiled T → List (List MemFile) → Option Stored
  kept_from e pictures = kept_after (round_from means e w pictures)

  abbrev pub rows_from : Compiled T → List (List MemFile) → Option (List StoredRow)
  rows_from e pictures = option_map rows_of (kept_from e pictures)
