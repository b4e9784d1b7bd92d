-- The session of a build, by what a runner means, its work, and the pictures that the source has to
-- give; and how a build ends.
use Rattle.std.specs.Prelude.{◌≡◌, ℕ, List, [], Option, Some, None, IfSome, option_map, ◌⊎◌}
use Rattle.command_words.specs.declared.commands.Work.{Work}
use Rattle.engine_session.specs.Compiler.{Compiled, compiler, nothing}
use Rattle.engine_session.specs.Standing.{HasSpentAtMost, SpendsAs}
use Rattle.outside.specs.Causes.{Counted}
use Rattle.outside.specs.Cells.{Cell, AreSame}
use Rattle.outside.specs.Contents.{Appends, AppendsPart}
use Rattle.outside.specs.Pictures.{later_pictures}
use Rattle.outside.specs.declared.source.MemFile.{MemFile}
use Rattle.pan_ast.specs.declared.work.Limits.{Limits}
use Rattle.publication.specs.Bounds.{answer_over, granted, shelf_of}
use Rattle.publication.specs.Changing.{AreListed, MadeOver, BegunOver, Tells}
use Rattle.publication.specs.Stands.{Stand, Stands, untouched}
use Rattle.publication.specs.declared.answer.Publication.{Publication}
use Rattle.publication.specs.declared.answer.Publication.TheVariants as publication
use Rattle.publication.specs.declared.want.Want.{Want}
use Rattle.rebuild.specs.Engines.{Meanings}
use Rattle.session.specs.Machines.{Machine}
use Rattle.session.specs.Sessions.{State, Next, GoesOn, Quits, SpendsNumbers, IsTooMuch, build_round, next, state_in, started, wants_in, end_of, end_line}
use Rattle.session.specs.declared.Ended.{Ended}
use Rattle.session.specs.declared.Ended.TheVariants as ended
use Rattle.site_build.specs.Ends.{IsFailureOf, Stopped}
use Rattle.site_build.specs.Scenes.{Scene}
use Rattle.site_build.specs.declared.ends.Device.TheVariants as D
use Rattle.site_build.specs.declared.ends.End.{End}
use Rattle.site_build.specs.declared.ends.End.TheVariants as E

-- what is written, how it ends, what stands under each name of the shelf, and what profiles want
-- there, where there is a publication
pub record Session : Type 0 where
  pub text : List ℕ
  pub ended : Ended
  pub shelf : List ℕ → Stand
  pub wants : Option (List Want)

-- a session that ends with a line, and leaves the shelf as it is
abbrev pub line_alone : Ended → Session
line_alone how = record { text = end_line how; ended = how; shelf = untouched; wants = None }

-- what is written behind a publication in place of a report, and how the session ends then: where
-- too many names were to go, a line tells how many
abbrev pub text_behind : Publication → List ℕ → List ℕ
text_behind (publication.Done troubles) report = report
text_behind (publication.TooManyRemovals removals) report =
    end_line (ended.TooManyRemovals removals)

abbrev pub ended_behind : Publication → Ended → Ended
ended_behind (publication.Done troubles) how = how
ended_behind (publication.TooManyRemovals removals) how = ended.TooManyRemovals removals

-- the session that publishes over a shelf with these names, where no call fails
abbrev pub session_over : Option ℕ → List (List ℕ) → List Want → List ℕ → Ended → Session
session_over most names ws report how = record {
  text = text_behind (answer_over most names ws) report;
  ended = ended_behind (answer_over most names ws) how;
  shelf = shelf_of (granted most names ws);
  wants = granted most names ws;
}

-- the session of what a round leads to, over a shelf with these names
abbrev pub session_after : {E : Type 0} → Machine E → Option ℕ → List (List ℕ) → Next E → Session
session_after machine most names (GoesOn t) =
    session_over most names (wants_in machine t) t.text (end_of (GoesOn t))
session_after machine most names (Quits t) = line_alone (end_of (Quits t))
session_after machine most names (SpendsNumbers t) = line_alone (end_of (SpendsNumbers t))
session_after machine most names (IsTooMuch t) = line_alone (end_of (IsTooMuch t))

abbrev pub limits_of : Work → Limits
limits_of w = record { max_iteration = w.iterations; max_recursion = w.recursion }

module _ {T : Type 0} (means : Meanings T) where
  -- the engine with the command's directories and limits
  abbrev pub engine_for : Work → Machine (Compiled T)
  engine_for w = compiler (means w.directories (limits_of w)) w.directories

  -- what a build's round leads to, from an engine that has come to this
  abbrev pub round_from : Compiled T → Work → List (List MemFile) → Next (Compiled T)
  round_from e w pictures = next (engine_for w) build_round (started e pictures [])

  -- over a shelf with these names
  abbrev pub session_from : Compiled T → Work → List (List ℕ) → List (List MemFile) → Session
  session_from e w names pictures =
      session_after (engine_for w) w.most_removed names (round_from e w pictures)

  -- where the session then stands, with the runs and the steps that were made
  abbrev pub state_from : Compiled T → Work → List (List MemFile) → State (Compiled T)
  state_from e w pictures = state_in (round_from e w pictures)

  -- .. from an engine that has taken nothing
  abbrev pub session_for : Work → List (List ℕ) → List (List MemFile) → Session
  session_for = session_from nothing

  abbrev pub state_for : Work → List (List MemFile) → State (Compiled T)
  state_for = state_from nothing

-- the session came to its end: its text is written, and the shelf is the session's
pub record Finished (s : Session) (how : Ended) (held_old held_new : Option (List ℕ))
    (old new : List ℕ → Cell) : Type 0 where
  pub ended : s.ended ≡ how
  pub text : Appends held_old s.text held_new
  pub shelf : Stands s.shelf old new

-- what is written where a run ends before its session, before the line of its end
abbrev pub WritesEarly : List ℕ → End → Option (List ℕ) → Option (List ℕ) → Type 0
WritesEarly text E.Out old new = AppendsPart old text new
WritesEarly text E.Memory old new = AppendsPart old text new
WritesEarly text E.Source old new = new ≡ old
WritesEarly text E.Shelf old new = new ≡ old
WritesEarly text (E.Publishing m) old new = new ≡ old

-- the source's next picture was taken
abbrev pub IsPassed : Option (List (List MemFile)) → Option (List (List MemFile)) → Type 0
IsPassed old new = new ≡ option_map later_pictures old

-- The pictures that are still to come, where a run ends early. Before the shelf was listed none was
-- taken; a publication comes after a scan.
abbrev pub TakesEarly : End → Option (List (List MemFile)) → Option (List (List MemFile)) → Type 0
TakesEarly E.Shelf old new = new ≡ old
TakesEarly (E.Publishing m) old new = IsPassed old new
TakesEarly E.Source old new = (new ≡ old) ⊎ IsPassed old new
TakesEarly E.Out old new = (new ≡ old) ⊎ IsPassed old new
TakesEarly E.Memory old new = (new ≡ old) ⊎ IsPassed old new

abbrev pub IsPerhapsOpened : List ℕ → Option (List ℕ) → Option (List ℕ) → Type 0
IsPerhapsOpened folder old new = (new ≡ old) ⊎ (new ≡ Some folder)

-- A build came to its end: its session is that of the names on the shelf, in byte order. All
-- changes
-- of its publication were made, over these names, and no other; without a publication nothing was
-- done. The runs and steps are the session's, the roots are those that the words name, one picture
-- was taken, no line was read, and no call of a device failed.
pub record Finishes {T : Type 0} (means : Meanings T) (w : Work) (how : Ended)
    (before after : Scene) : Type 0 where
  pub names : List (List ℕ)
  pub listed : AreListed names before.cell
  pub session : IfSome before.coming (λ ps. Finished (session_for means w names ps) how before.held
      after.held before.cell after.cell)
  pub order : Tells before.cell → IfSome before.coming (λ ps. MadeOver
      (session_for means w names ps).wants names before.cell after.cell before.changes
      after.changes)
  pub spent : IfSome before.coming (λ ps. SpendsAs how (state_for means w ps) before.spent
      after.spent)
  pub taken : IsPassed before.coming after.coming
  pub source_opened : after.source_opened ≡ Some w.source
  pub shelf_opened : after.shelf_opened ≡ Some w.out
  pub source_count : after.source_count ≡ before.source_count
  pub shelf_count : after.shelf_count ≡ before.shelf_count
  pub out_count : after.out_count ≡ before.out_count
  pub lines : after.lines ≡ before.lines
  pub lines_count : after.lines_count ≡ before.lines_count

-- It ended early, by this end: nothing was done to the shelf, or the names on it were listed, and a
-- part of that at most was done. The device whose call failed counts it, and no other does.
pub record Breaks {T : Type 0} (means : Meanings T) (w : Work) (end : End) (before after : Scene)
    : Type 0 where
  pub names : List (List ℕ)
  pub listed : ((after.changes ≡ before.changes) × AreSame before.cell after.cell)
      ⊎ AreListed names before.cell
  pub text : IfSome before.coming (λ ps. WritesEarly (session_for means w names ps).text end
      before.held after.held)
  pub shelf : IfSome before.coming (λ ps. Stopped end (session_for means w names ps).shelf
      before.cell after.cell)
  pub order : Tells before.cell → IfSome before.coming (λ ps. BegunOver
      (session_for means w names ps).wants names before.cell after.cell before.changes
      after.changes)
  pub spent : IfSome before.coming (λ ps. HasSpentAtMost (state_for means w ps) before.spent
      after.spent)
  pub taken : TakesEarly end before.coming after.coming
  pub source_opened : IsPerhapsOpened w.source before.source_opened after.source_opened
  pub shelf_opened : IsPerhapsOpened w.out before.shelf_opened after.shelf_opened
  pub source_count : Counted (IsFailureOf D.Source end) before.source_count after.source_count
  pub shelf_count : Counted (IsFailureOf D.Shelf end) before.shelf_count after.shelf_count
  pub out_count : Counted (IsFailureOf D.Out end) before.out_count after.out_count
  pub lines : after.lines ≡ before.lines
  pub lines_count : after.lines_count ≡ before.lines_count
