-- How a build with a keeper ends: it goes on from the rows of an earlier run, where these are
-- sound, and keeps its own.
use Rattle.std.specs.Prelude.{◌≡◌, ℕ, List, Some, IfSome}
use Rattle.command_words.specs.declared.commands.Work.{Work}
use Rattle.engine_session.specs.Standing.{HasSpentAtMost, SpendsAs}
use Rattle.engine_rows.specs.Restoring.{IsSoundKept}
use Rattle.keepers.specs.Keeping.{Follows, unchanged}
use Rattle.kept_state.specs.Stored.{Stored}
use Rattle.outside.specs.Causes.{Counted}
use Rattle.outside.specs.Cells.{AreSame}
use Rattle.publication.specs.Changing.{AreListed, MadeOver, BegunOver, Tells}
use Rattle.rebuild.specs.Engines.{Meanings}
use Rattle.session.specs.declared.Ended.{Ended}
use Rattle.site_build.specs.Scenes.{Scene}
use Rattle.site_build.specs.Session.{Finished, IsPassed, session_from, state_from}
use Rattle.site_build.specs.declared.ends.Device.TheVariants as D
use Rattle.stored_rows.specs.declared.row.StoredRow.{StoredRow}
use Rattle.kept_build.specs.Ends.{IsFailure, IsKeeperFailure, IsLater, IsOpening, ShelfAt, SourceAt, Stopped, StopsKeeping, StoreAt, TakesEarly, WritesEarly}
use Rattle.kept_build.specs.Kept.{IsSoundStart, begun_for, kept_from, rows_from}
use Rattle.kept_build.specs.Stores.{HoldsBadRows, Keeps, Loads, Store}
use Rattle.kept_build.specs.declared.ends.End.{End}
use Rattle.kept_build.specs.declared.ends.End.TheVariants as K

module _ {T : Type 0} (means : Meanings T) (w : Work) (names : List (List ℕ))
    (last : List StoredRow) (found : Stored) where
  -- It came to its end, over a shelf with these names and a keeper with these rows, which give what
  -- was found. Where that is sound, the text, the shelf, the runs and the steps are those of the
  -- session that goes on from it; what this one has come to is kept, and is sound. One picture was
  -- taken, no line was read, and no call of a device failed.
  pub record Ends (how : Ended) (before after : Scene) (store store_now : Store) : Type 0 where
    pub session : IsSoundStart means w found → IfSome before.coming (λ ps. Finished
        (session_from means (begun_for w found) w names ps) how before.held after.held before.cell
        after.cell)
    pub order : IsSoundStart means w found → Tells before.cell → IfSome before.coming
        (λ ps. MadeOver (session_from means (begun_for w found) w names ps).wants names before.cell
        after.cell before.changes after.changes)
    pub spent : IsSoundStart means w found → IfSome before.coming (λ ps. SpendsAs how
        (state_from means (begun_for w found) w ps) before.spent after.spent)
    pub rows : IsSoundStart means w found → IfSome before.coming (λ ps. Keeps last
        (rows_from means w names (begun_for w found) ps) store.cell store_now.cell)
    pub sound : IsSoundStart means w found → IfSome before.coming (λ ps. IfSome
        (kept_from means w names (begun_for w found) ps) (λ s. ∥ IsSoundKept means s ∥₁))
    pub taken : IsPassed before.coming after.coming
    pub source_count : after.source_count ≡ before.source_count
    pub shelf_count : after.shelf_count ≡ before.shelf_count
    pub out_count : after.out_count ≡ before.out_count
    pub store_count : store_now.count ≡ store.count
    pub lines : after.lines ≡ before.lines
    pub lines_count : after.lines_count ≡ before.lines_count

  -- It ended early, by this end: a part of that at most. The device whose call failed counts it,
  -- and no other does.
  pub record Stops (end : End) (before after : Scene) (store store_now : Store) : Type 0 where
    pub later : IsLater end
    pub text : IsSoundStart means w found → IfSome before.coming (λ ps. WritesEarly
        (session_from means (begun_for w found) w names ps).text end before.held after.held)
    pub shelf : IsSoundStart means w found → IfSome before.coming (λ ps. Stopped end
        (session_from means (begun_for w found) w names ps).shelf before.cell after.cell)
    pub order : IsSoundStart means w found → Tells before.cell → IfSome before.coming
        (λ ps. BegunOver (session_from means (begun_for w found) w names ps).wants names before.cell
        after.cell before.changes after.changes)
    pub spent : IsSoundStart means w found → IfSome before.coming (λ ps. HasSpentAtMost
        (state_from means (begun_for w found) w ps) before.spent after.spent)
    pub rows : IsSoundStart means w found → IfSome before.coming (λ ps. StopsKeeping end last
        (rows_from means w names (begun_for w found) ps) store.cell store_now.cell)
    pub taken : TakesEarly end before.coming after.coming
    pub source_count : Counted (IsFailure D.Source end) before.source_count after.source_count
    pub shelf_count : Counted (IsFailure D.Shelf end) before.shelf_count after.shelf_count
    pub out_count : Counted (IsFailure D.Out end) before.out_count after.out_count
    pub store_count : Counted (IsKeeperFailure end) store.count store_now.count
    pub lines : after.lines ≡ before.lines
    pub lines_count : after.lines_count ≡ before.lines_count

-- The devices were opened, where the words name them, and nothing else was done; these names are on
-- the shelf, and the keeper holds these rows, which give what was found.
pub record Opens (w : Work) (file : List ℕ) (names : List (List ℕ)) (last : List StoredRow)
    (found : Stored) (before after : Scene) (store store_now : Store) : Type 0 where
  pub listed : AreListed names before.cell
  pub loaded : Loads last found store_now.cell
  pub told : Follows unchanged store.cell store_now.cell
  pub scene : after ≡ record before { source_opened = Some w.source; shelf_opened = Some w.out }
  pub store_opened : store_now.opened ≡ Some file
  pub store_count : store_now.count ≡ store.count

module _ {T : Type 0} (means : Meanings T) (w : Work) (file : List ℕ) where
  -- a build opened its devices and came to its end
  pub record Finishes (how : Ended) (before after : Scene) (store store_now : Store) : Type 0 where
    pub names : List (List ℕ)
    pub last : List StoredRow
    pub found : Stored
    pub mid : Scene
    pub read : Store
    pub opens : Opens w file names last found before mid store read
    pub ends : Ends means w names last found how mid after read store_now
    pub source_opened : after.source_opened ≡ Some w.source
    pub shelf_opened : after.shelf_opened ≡ Some w.out
    pub store_opened : store_now.opened ≡ Some file

  -- .. or ended early
  pub record Breaks (end : End) (before after : Scene) (store store_now : Store) : Type 0 where
    pub names : List (List ℕ)
    pub last : List StoredRow
    pub found : Stored
    pub mid : Scene
    pub read : Store
    pub opens : Opens w file names last found before mid store read
    pub stops : Stops means w names last found end mid after read store_now
    pub source_opened : after.source_opened ≡ Some w.source
    pub shelf_opened : after.shelf_opened ≡ Some w.out
    pub store_opened : store_now.opened ≡ Some file

-- It did not begin: nothing was written, taken, run or changed. Bad rows are rows of the keeper
-- that give nothing.
pub record Unbegun (w : Work) (file : List ℕ) (end : End) (before after : Scene)
    (store store_now : Store) : Type 0 where
  pub opening : IsOpening end
  pub bad : end ≡ K.BadRows → HoldsBadRows store_now.cell
  pub held : after.held ≡ before.held
  pub coming : after.coming ≡ before.coming
  pub shelf : AreSame before.cell after.cell
  pub changes : after.changes ≡ before.changes
  pub spent : after.spent ≡ before.spent
  pub rows : Follows unchanged store.cell store_now.cell
  pub source_opened : SourceAt end w.source before.source_opened after.source_opened
  pub shelf_opened : ShelfAt end w.out before.shelf_opened after.shelf_opened
  pub store_opened : StoreAt end file store.opened store_now.opened
  pub source_count : Counted (IsFailure D.Source end) before.source_count after.source_count
  pub shelf_count : Counted (IsFailure D.Shelf end) before.shelf_count after.shelf_count
  pub out_count : after.out_count ≡ before.out_count
  pub store_count : Counted (IsKeeperFailure end) store.count store_now.count
  pub lines : after.lines ≡ before.lines
  pub lines_count : after.lines_count ≡ before.lines_count
