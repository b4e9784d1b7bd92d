-- How a watcher ends.
use Rattle.std.specs.Prelude.{◌≡◌, ◌⊎◌, ℕ, Bool, false, List, [], Option, Some, None, IfSome, codes, option_map, vec_items}
use Rattle.command_words.specs.declared.commands.Work.{Work}
use Rattle.engine_session.specs.Compiler.{Compiled, nothing}
use Rattle.engine_turns.specs.declared.core_data.Core.{Core}
use Rattle.outside.specs.Causes.{Counted}
use Rattle.outside.specs.Cells.{Cell, AreSame}
use Rattle.outside.specs.declared.source.MemFile.{MemFile}
use Rattle.publication.specs.Changing.{AreListed}
use Rattle.publication.specs.declared.publisher.Publisher.{Publisher}
use Rattle.rebuild.specs.Engines.{Meanings}
use Rattle.row_changes.specs.Stores.{Store}
use Rattle.runner.specs.declared.runner.Runner as runner
use Rattle.session.specs.Sessions.{started, ended_by}
use Rattle.site_build.specs.Ends.{IsFailureOf, OfSource, OfShelf, caller_of}
use Rattle.site_build.specs.Session.{IsPerhapsOpened, engine_for, limits_of}
use Rattle.site_build.specs.declared.ends.Device.TheVariants as D
use Rattle.site_build.specs.declared.ends.End as early
use Rattle.site_build.specs.declared.ends.End.TheVariants as E
use Rattle.stored_rows.specs.declared.row.StoredRow.{StoredRow}
use Rattle.watch.specs.Sites as sites
use Rattle.watch.specs.Played.{Finished, HasNames, Reel, Stopped, reel}
use Rattle.watch.specs.Steps.{Spot}
use Rattle.watch.specs.declared.site.Site.{Site}
use Rattle.watch.specs.declared.ends.End.{End}
use Rattle.watch.specs.declared.ends.End.TheVariants as W
use Rattle.pan_top.specs.Builds.{Wrote}
use Rattle.site_build.specs.Scenes.{Scene}
use Rattle.call_status.specs.Statuses.{status_after}
use Rattle.pan_top.specs.Statuses.{Says}
use Rattle.call_status.specs.declared.status.Status.{Status}
use Rattle.call_status.specs.declared.status.Status.TheVariants as S

-- the status of a watcher whose lines did not end it, and the line of its end: where a text could
-- not
-- be written, or memory was wanting, nothing more is written
abbrev pub status_at : End → Status
status_at W.Lines = S.LinesFault
status_at W.Out = S.OutFault
status_at W.NumbersSpent = S.NumbersSpent
status_at W.TooMuch = S.TooMuch
status_at W.TooManyLines = S.TooManyLines
status_at W.Memory = S.Memory

abbrev pub line_at : End → Option (List ℕ)
line_at W.Lines = Some (codes "lines fault\n")
line_at W.Out = None
line_at W.NumbersSpent = Some (codes "numbers spent\n")
line_at W.TooMuch = Some (codes "too much\n")
line_at W.TooManyLines = Some (codes "too many lines\n")
line_at W.Memory = None

-- behind what was written stands the line of an end, or a part of it, as it was cut; or nothing
-- does,
-- where the end has none
abbrev pub EndsWith : Status → Option (List ℕ) → Status → Option (List ℕ) → Option (List ℕ) → Type 0
EndsWith own None status old new = (status ≡ own) × (new ≡ old)
EndsWith own (Some line) status old new = Says own line status old new

-- what a watcher holds beside its devices: its engine, whether that has taken a picture, what it
-- knows
-- of the shelf, the rows that the keeper holds, where rows are kept, and whether the last report
-- had a
-- fault
pub record Holds (T : Type 0) : Type 0 where
  pub core : Core T
  pub has_taken : Bool
  pub publisher : Publisher
  pub rows : Option (List StoredRow)
  pub has_faults : Bool

abbrev pub held_by : {R S H K T : Type 0} {M : runner.Ghosts R T} → Site R S H K T M → Holds T
held_by site = record {
  core = site.works.engine.core;
  has_taken = site.has_taken;
  publisher = site.publisher;
  rows = option_map vec_items site.carried.rows;
  has_faults = site.has_faults;
}

-- before its first line no report had a fault
abbrev pub unreported : {T : Type 0} → Holds T → Holds T
unreported holds = record holds { has_faults = false }

-- what a watcher's lines find there
abbrev pub spot_in : {T : Type 0} → Holds T → Scene → Store → Spot T
spot_in holds s store = record {
  core = holds.core;
  has_taken = holds.has_taken;
  coming = s.coming;
  has_faults = holds.has_faults;
  spent = s.spent;
  source_count = s.source_count;
  shelf = record { cell = s.cell; changes = s.changes; count = s.shelf_count };
  publisher = holds.publisher;
  stock = record { store = store; rows = holds.rows };
}

-- the publisher knows the names on the shelf, and no other
pub record HasListed (publisher : Publisher) (cell : List ℕ → Cell) : Type 0 where
  pub names : List (List ℕ)
  pub listed : AreListed names cell
  pub has : HasNames publisher names

-- an end that comes before a watcher's session begins
abbrev pub IsOpening : early.End → Type 0
IsOpening e = IfSome (caller_of e) (λ c. (c ≡ OfSource) ⊎ (c ≡ OfShelf))

-- what the source was opened at then: SOURCE, where the shelf failed, which is opened after it
abbrev pub SourceAt : early.End → List ℕ → Option (List ℕ) → Option (List ℕ) → Type 0
SourceAt E.Shelf folder old new = new ≡ Some folder
SourceAt E.Source folder old new = new ≡ old
SourceAt _ folder old new = IsPerhapsOpened folder old new

-- The session did not begin: no line was read, no picture taken, nothing done to the shelf, no run
-- and no step made, and at most the line of the end was written.
pub record Unbegun (w : Work) (status : Status) (before after : Scene) : Type 0 where
  pub end : early.End
  pub opening : IsOpening end
  pub text : Wrote [] end status before.held after.held
  pub coming : after.coming ≡ before.coming
  pub lines : after.lines ≡ before.lines
  pub lines_count : after.lines_count ≡ before.lines_count
  pub shelf : AreSame before.cell after.cell
  pub changes : after.changes ≡ before.changes
  pub spent : after.spent ≡ before.spent
  pub source_opened : SourceAt end w.source before.source_opened after.source_opened
  pub shelf_opened : IsPerhapsOpened w.out before.shelf_opened after.shelf_opened
  pub source_count : Counted (IsFailureOf D.Source end) before.source_count after.source_count
  pub shelf_count : Counted (IsFailureOf D.Shelf end) before.shelf_count after.shelf_count
  pub out_count : Counted (status ≡ S.OutFault) before.out_count after.out_count

-- The status of a session that came to its end says whether its last report had a fault; one that
-- did
-- not has the status and the line of its end.
abbrev pub Closes : Option End → Bool → Status → Option (List ℕ) → Option (List ℕ) → Type 0
Closes None has_faults status old new =
    (status ≡ status_after (ended_by has_faults)) × (new ≡ old)
Closes (Some end) has_faults status old new =
    EndsWith (status_at end) (line_at end) status old new

-- a session was played to its end, or to this one
abbrev pub IsPlayed : {T : Type 0} → Meanings T → Option End → Reel → Spot T → Spot T → Type 0
IsPlayed means None r first last = sites.Finishes means r first last
IsPlayed means (Some end) r first last = sites.Stops means end r first last

-- .. over devices that are open, and the line of its end was written. What was played is said where
-- this holds of what it began with. A keeper that keeps no rows was not called.
pub record PlaysAll {T : Type 0} (means : Meanings T) (ready : Type 0) (first : Holds T)
    (status : Status) (before after : Scene) (store store_now : Store) : Type 0 where
  pub end : Option End
  pub last : Holds T
  pub held : Option (List ℕ)
  pub played : ready → IsPlayed means end (reel before.lines after.lines before.held held)
      (spot_in (unreported first) before store) (spot_in last after store_now)
  pub closes : Closes end last.has_faults status held after.held
  pub source_opened : after.source_opened ≡ before.source_opened
  pub shelf_opened : after.shelf_opened ≡ before.shelf_opened
  pub store_opened : store_now.opened ≡ store.opened
  pub uncalled : first.rows ≡ None → store_now ≡ store
  pub lines_count : Counted (end ≡ Some W.Lines) before.lines_count after.lines_count
  pub out_count : Counted (status ≡ S.OutFault) before.out_count after.out_count

module _ {T : Type 0} (means : Meanings T) (w : Work) where
  -- the session that begins with this engine was played from one spot to another, to its end or to
  -- this one, over a shelf with these names
  abbrev pub PlaysTo : Option End → Compiled T → List (List ℕ) → List (List MemFile) → Reel
      → Spot T → Spot T → Type 0
  PlaysTo None e names ps r first last = Finished (engine_for means w) means w.directories
      (limits_of w) (started e ps names) r first last
  PlaysTo (Some end) e names ps r first last = Stopped (engine_for means w) means w.directories
      (limits_of w) (started e ps names) end r first last

  -- A session was played, with the pictures that the source had to give, over the names on the
  -- shelf,
  -- that begins with this engine and with these rows; what was played is said where this is sound.
  -- Its
  -- publisher may remove as many names as the words allow. The roots are those that the words name,
  -- and the lines and the sink have counted the failure that ended it, and no other.
  pub record Plays (sound : Type 0) (e : Compiled T) (rows : Option (List StoredRow))
      (names : List (List ℕ)) (status : Status) (before after : Scene) (store store_now : Store)
      : Type 0 where
    pub end : Option End
    pub first : Holds T
    pub last : Holds T
    pub kept : first.rows ≡ rows
    pub bound : first.publisher.most ≡ w.most_removed
    pub held : Option (List ℕ)
    pub session : sound → IfSome before.coming (λ ps. PlaysTo end e names ps
        (reel before.lines after.lines before.held held) (spot_in first before store)
        (spot_in last after store_now))
    pub closes : Closes end last.has_faults status held after.held
    pub source_opened : after.source_opened ≡ Some w.source
    pub shelf_opened : after.shelf_opened ≡ Some w.out
    pub store_opened : store_now.opened ≡ store.opened
    pub lines_count : Counted (end ≡ Some W.Lines) before.lines_count after.lines_count
    pub out_count : Counted (status ≡ S.OutFault) before.out_count after.out_count

  -- one that keeps no rows: it begins with an engine that has taken no picture
  pub record PlaysUnkept (status : Status) (before after : Scene) (store : Store) : Type 0 where
    pub names : List (List ℕ)
    pub listed : AreListed names before.cell
    pub plays : Plays (Unit {0}) nothing None names status before after store store

  abbrev pub WatchCall : Status → Scene → Scene → Store → Type 0
  WatchCall status before after store =
      PlaysUnkept status before after store ⊎ Unbegun w status before after
