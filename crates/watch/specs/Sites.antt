-- What a session works on, as clauses speak of it, and what a line makes of it.
use Rattle.std.specs.declared.alloc.Global.{Global}
use Rattle.std.specs.Prelude.{◌≡◌, ◌≤◌, ℕ, List, Option, Some, None, IfSome, IsSome, true, false, Result, OnOk, option_map, vec_items, Vec}
use Rattle.engine_session.specs.Compiler.{Compiled, compiler}
use Rattle.engine_session.specs.KeptTexts.{AreTexts}
use Rattle.engine_session.specs.Standing.{Here, IsBegun, IsFaithful, IsIn, counts}
use Rattle.keepers.specs.declared.keeper.Keeper as keeper
use Rattle.outside.specs.declared.shelf.Shelf as shelf
use Rattle.outside.specs.declared.source.MemFile.{MemFile}
use Rattle.outside.specs.declared.source.Source as source
use Rattle.pan_ast.specs.declared.work.Limits.{Limits}
use Rattle.publication.specs.Published.{Knows}
use Rattle.rebuild.specs.Engines.{Meanings, situation_of}
use Rattle.row_changes.specs.Stores.{store_of}
use Rattle.runner.specs.declared.runner.Runner as runner
use Rattle.session.specs.Orders.{Order}
use Rattle.session.specs.Sessions.{started}
use Rattle.watch.specs.Played.{Reel, Played, Finished, HasNames, Stopped}
use Rattle.watch.specs.Shelves.{Shelved, Stock, Held}
use Rattle.watch.specs.Steps.{Spot, Start, At, Went, Cut, IsListed}
use Rattle.stored_rows.specs.declared.row.StoredRow.{StoredRow}
use Rattle.watch.specs.declared.ends.End.{End}
use Rattle.watch.specs.declared.site.Carried.{Carried}
use Rattle.watch.specs.declared.site.Site.{Site}
use Rattle.watch.specs.declared.step.Step.{Step}

-- What holds before each line: the engine may take a picture, and once it has taken one, what it
-- and its runner say is what compiling from scratch gives; the texts that are kept are those of its
-- trees.
pub record IsReady {R S H K T : Type 0} {M : runner.Ghosts R T} (means : Meanings T)
    (site : Site R S H K T M) : Type 0 where
  pub begun : IsBegun means site.works
  pub faithful : site.has_taken ≡ true → IsFaithful means site.works
  pub texts : AreTexts (situation_of site.works.engine.core) site.carried.texts

abbrev pub shelved : {H : Type 0} → shelf.Ghosts H → H → Shelved
shelved H h = record { cell = H.cell h; changes = H.changes h; count = H.fault_count h }

abbrev pub stocked : {K : Type 0} → keeper.Ghosts K → K → Option (Vec StoredRow Global) → Stock
stocked K k rows = record { store = store_of K k; rows = option_map vec_items rows }

abbrev pub held_of : {H K : Type 0} → shelf.Ghosts H → keeper.Ghosts K → H → K
    → Option (Vec StoredRow Global) → Held
held_of H K h k rows = record { shelf = shelved H h; stock = stocked K k rows }

-- what a site holds and its devices tell
abbrev pub spot_of : {R S H K T : Type 0} (M : runner.Ghosts R T) → source.Ghosts S
    → shelf.Ghosts H → keeper.Ghosts K → Site R S H K T M → ℕ → Spot T
spot_of M S H K site steps = record {
  core = site.works.engine.core;
  has_taken = site.has_taken;
  coming = S.coming site.source;
  has_faults = site.has_faults;
  spent = counts (M.runs_of site.works.runner) steps;
  source_count = S.fault_count site.source;
  shelf = shelved H site.shelf;
  publisher = site.publisher;
  stock = stocked K site.carried.keeper site.carried.rows;
}

-- where rows are kept the keeper is open
abbrev pub MayKeep : {K : Type 0} → keeper.Ghosts K → Carried K → Type 0
MayKeep K carried = IfSome (option_map vec_items carried.rows) (λ rows. IsSome (K.opened
    carried.keeper))

-- where no rows are kept, none are kept then, and the keeper was not called
abbrev pub LeavesUnkept : {K : Type 0} → Carried K → Carried K → Type 0
LeavesUnkept before after = option_map vec_items before.rows ≡ None
    → (after.keeper ≡ before.keeper) × (option_map vec_items after.rows ≡ None)

-- before the first line no report had a fault
abbrev pub begun : {T : Type 0} → Spot T → Spot T
begun first = record first { has_faults = false }

-- whatever session they held, a line with this order was worked on, and this is its text
abbrev pub Goes : {T : Type 0} → Meanings T → Order → Step → List ℕ → Spot T → Spot T → Type 0
Goes {T} means order step text before after = (dirs : List (List ℕ)) (limits : Limits)
    (s : Here T) (start : Start) → At means dirs limits s before start
    → Went (compiler (means dirs limits) dirs) means dirs limits order s step text before after
    start

-- .. or it was cut off
abbrev pub IsCut : {T : Type 0} → Meanings T → Order → Spot T → Spot T → Type 0
IsCut {T} means order before after = (dirs : List (List ℕ)) (limits : Limits) (s : Here T)
    (start : Start) → At means dirs limits s before start
    → Cut (compiler (means dirs limits) dirs) means dirs limits order s before after start.spent

-- the devices were opened where they are, and no failure is forgotten
pub record IsLater {R S H K T : Type 0} {M : runner.Ghosts R T} (D : source.Ghosts S)
    (P : shelf.Ghosts H) (Q : keeper.Ghosts K) (before after : Site R S H K T M) : Type 0 where
  pub source_opened : D.opened after.source ≡ D.opened before.source
  pub shelf_opened : P.opened after.shelf ≡ P.opened before.shelf
  pub store_opened : Q.opened after.carried.keeper ≡ Q.opened before.carried.keeper
  pub source_later : D.fault_count before.source ≤ D.fault_count after.source
  pub shelf_later : P.fault_count before.shelf ≤ P.fault_count after.shelf
  pub store_later : Q.fault_count before.carried.keeper ≤ Q.fault_count after.carried.keeper

-- what holds behind a line, however it ended: where it was worked on, the publisher knows the
-- shelf,
-- and where no rows are kept the keeper was not called
pub record IsBehind {R S H K T A E : Type 0} {M : runner.Ghosts R T} (D : source.Ghosts S)
    (P : shelf.Ghosts H) (Q : keeper.Ghosts K) (result : Result A E)
    (before after : Site R S H K T M) : Type 0 where
  pub later : IsLater D P Q before after
  pub unkept : LeavesUnkept before.carried after.carried
  pub knows : OnOk result (Knows after.publisher (P.cell after.shelf))

-- What a session begins with: an engine that has come to this and has taken no picture, the
-- pictures that the source has to give, the names that may be on the shelf, and the rows that the
-- keeper holds.
pub record Begins {T : Type 0} (dirs : List (List ℕ)) (limits : Limits) (e : Compiled T)
    (ps : List (List MemFile)) (names : List (List ℕ)) (first : Spot T) : Type 0 where
  pub engine : IsIn dirs limits first.core e
  pub fresh : first.has_taken ≡ false
  pub coming : first.coming ≡ Some ps
  pub known : HasNames first.publisher names
  pub listed : IsListed first.stock

-- whatever it began with, so many rounds of a session were played
abbrev pub Plays : {T : Type 0} → Meanings T → Reel → Spot T → Spot T → ℕ → Type 0
Plays {T} means r first here many = (dirs : List (List ℕ)) (limits : Limits) (e : Compiled T)
    (ps : List (List MemFile)) (names : List (List ℕ)) → Begins dirs limits e ps names first
    → Played (compiler (means dirs limits) dirs) means dirs limits (started e ps names) r first
    here many

-- .. or all of them
abbrev pub Finishes : {T : Type 0} → Meanings T → Reel → Spot T → Spot T → Type 0
Finishes {T} means r first here = (dirs : List (List ℕ)) (limits : Limits) (e : Compiled T)
    (ps : List (List MemFile)) (names : List (List ℕ)) → Begins dirs limits e ps names first
    → Finished (compiler (means dirs limits) dirs) means dirs limits (started e ps names) r first
    here

-- .. or it ended before its lines did
abbrev pub Stops : {T : Type 0} → Meanings T → End → Reel → Spot T → Spot T → Type 0
Stops {T} means end r first here = (dirs : List (List ℕ)) (limits : Limits) (e : Compiled T)
    (ps : List (List MemFile)) (names : List (List ℕ)) → Begins dirs limits e ps names first
    → Stopped (compiler (means dirs limits) dirs) means dirs limits (started e ps names) end r
    first here
