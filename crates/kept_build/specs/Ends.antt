-- Ends of a build with a keeper that come before its session's own.
use Rattle.std.specs.Prelude.{◌≡◌, ◌⊎◌, ℕ, List, Option, Some, IfSome}
use Rattle.keepers.specs.Keeping.{Follows, unchanged}
use Rattle.outside.specs.Cells.{Cell}
use Rattle.outside.specs.declared.source.MemFile.{MemFile}
use Rattle.publication.specs.Stands.{Stand, Stands}
use Rattle.site_build.specs.Ends as site
use Rattle.site_build.specs.Ends.{IsFailureOf, OfSource, OfShelf, caller_of}
use Rattle.site_build.specs.Session as session
use Rattle.site_build.specs.Session.{IsPassed}
use Rattle.site_build.specs.declared.ends.Device.{Device}
use Rattle.site_build.specs.declared.ends.End.TheVariants as E
use Rattle.stored_rows.specs.declared.row.StoredRow.{StoredRow}
use Rattle.kept_build.specs.Stores.{Keeps}
use Rattle.kept_build.specs.declared.ends.End.{End}
use Rattle.kept_build.specs.declared.ends.End.TheVariants as K

-- a call of this device failed, or one of the keeper
abbrev pub IsFailure : Device → End → Type 0
IsFailure device (K.Build e) = IsFailureOf device e
IsFailure device K.Keeper = ⊥
IsFailure device K.Saving = ⊥
IsFailure device K.BadRows = ⊥

abbrev pub IsKeeperFailure : End → Type 0
IsKeeperFailure (K.Build e) = ⊥
IsKeeperFailure K.Keeper = Unit {0}
IsKeeperFailure K.Saving = Unit {0}
IsKeeperFailure K.BadRows = ⊥

-- an end that comes before the build begins
abbrev pub IsOpening : End → Type 0
IsOpening (K.Build e) = IfSome (caller_of e) (λ c. (c ≡ OfSource) ⊎ (c ≡ OfShelf))
IsOpening K.Keeper = Unit {0}
IsOpening K.Saving = ⊥
IsOpening K.BadRows = Unit {0}

-- .. of these, one of a call on the keeper
abbrev pub IsLoading : End → Type 0
IsLoading (K.Build e) = e ≡ E.Memory
IsLoading K.Keeper = Unit {0}
IsLoading K.Saving = ⊥
IsLoading K.BadRows = Unit {0}

-- an end that comes after the rows were read
abbrev pub IsLater : End → Type 0
IsLater (K.Build e) = Unit {0}
IsLater K.Keeper = ⊥
IsLater K.Saving = Unit {0}
IsLater K.BadRows = ⊥

-- an end of a call that keeps the rows
abbrev pub IsSaving : End → Type 0
IsSaving (K.Build e) = e ≡ E.Memory
IsSaving K.Keeper = ⊥
IsSaving K.Saving = Unit {0}
IsSaving K.BadRows = ⊥

-- .. of a publication, of the keeping of rows or of a write
abbrev pub IsRoundEnd : End → Type 0
IsRoundEnd (K.Build e) = site.IsRoundEnd e
IsRoundEnd K.Keeper = ⊥
IsRoundEnd K.Saving = Unit {0}
IsRoundEnd K.BadRows = ⊥

-- what is written before the line of such an end: where the rows could not be kept, nothing
abbrev pub WritesEarly : List ℕ → End → Option (List ℕ) → Option (List ℕ) → Type 0
WritesEarly text (K.Build e) old new = session.WritesEarly text e old new
WritesEarly text K.Keeper old new = new ≡ old
WritesEarly text K.Saving old new = new ≡ old
WritesEarly text K.BadRows old new = new ≡ old

-- what stands on the shelf: where the rows could not be kept, the publication was done
abbrev pub Stopped : End → (List ℕ → Stand) → (List ℕ → Cell) → (List ℕ → Cell) → Type 0
Stopped (K.Build e) shelf old new = site.Stopped e shelf old new
Stopped K.Keeper shelf old new = (n : List ℕ) → new n ≡ old n
Stopped K.Saving shelf old new = Stands shelf old new
Stopped K.BadRows shelf old new = (n : List ℕ) → new n ≡ old n

-- What the keeper holds. The rows are kept before the text is written: where that fails they are
-- kept; where memory was wanting, they are or are not.
abbrev pub StopsKeeping : End → List StoredRow → Option (List StoredRow) → (List ℕ → Cell)
    → (List ℕ → Cell) → Type 0
StopsKeeping (K.Build E.Out) last wanted old new = Keeps last wanted old new
StopsKeeping (K.Build E.Memory) last wanted old new =
    Follows unchanged old new ⊎ Keeps last wanted old new
StopsKeeping e last wanted old new = Follows unchanged old new

-- the pictures that are still to come
abbrev pub TakesEarly : End → Option (List (List MemFile)) → Option (List (List MemFile)) → Type 0
TakesEarly (K.Build e) old new = session.TakesEarly e old new
TakesEarly K.Keeper old new = new ≡ old
TakesEarly K.Saving old new = IsPassed old new
TakesEarly K.BadRows old new = new ≡ old

-- what was opened: the source before the shelf, and both before the keeper
abbrev pub SourceAt : End → List ℕ → Option (List ℕ) → Option (List ℕ) → Type 0
SourceAt (K.Build E.Source) folder old new = new ≡ old
SourceAt (K.Build E.Shelf) folder old new = new ≡ Some folder
SourceAt (K.Build e) folder old new = session.IsPerhapsOpened folder old new
SourceAt e folder old new = new ≡ Some folder

abbrev pub ShelfAt : End → List ℕ → Option (List ℕ) → Option (List ℕ) → Type 0
ShelfAt (K.Build E.Source) folder old new = new ≡ old
ShelfAt (K.Build e) folder old new = session.IsPerhapsOpened folder old new
ShelfAt e folder old new = new ≡ Some folder

-- the keeper is not called where the source or the shelf failed, and bad rows are those of FILE
abbrev pub StoreAt : End → List ℕ → Option (List ℕ) → Option (List ℕ) → Type 0
StoreAt (K.Build E.Source) file old new = new ≡ old
StoreAt (K.Build E.Shelf) file old new = new ≡ old
StoreAt K.BadRows file old new = new ≡ Some file
StoreAt e file old new = session.IsPerhapsOpened file old new
