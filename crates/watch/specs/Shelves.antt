-- What the lines of a session do to the shelf and to the keeper of its rows, in order.
use Rattle.std.specs.Prelude.{◌≡◌, ◌≤◌, ◌+◌, ℕ, Bool, true, List, [], ◌∷◌, map, Option, Some, None}
use Rattle.keepers.specs.Keeping.{Follows, unchanged}
use Rattle.outside.specs.Causes.{Rose}
use Rattle.outside.specs.Cells.{Cell}
use Rattle.outside.specs.declared.shelf.Change.{Change}
use Rattle.publication.specs.Bounds.{Bounded}
use Rattle.publication.specs.Changing.{Tells}
use Rattle.publication.specs.Logs.{LoggedBy}
use Rattle.publication.specs.Published.{Published, may_stand_in}
use Rattle.publication.specs.Wants.{wants_of}
use Rattle.publication.specs.declared.answer.Publication.{Publication}
use Rattle.publication.specs.declared.profile.Profile.{Profile}
use Rattle.publication.specs.declared.publisher.Publisher.{Publisher}
use Rattle.session.specs.Machines.{Machine}
use Rattle.session.specs.Orders.{Order, order_of, Build}
use Rattle.row_changes.specs.Stores.{Saves, Store}
use Rattle.session.specs.Sessions.{State, Next, GoesOn, Scanned, Done, Saved, NotSaved, IsSaved, SaveFailed, Round, IfGoesOn, answers, next, profiles_of}
use Rattle.stored_rows.specs.Rows.{are_rising, row_name}
use Rattle.stored_rows.specs.declared.row.StoredRow.{StoredRow}

-- what a shelf tells of its names, what was done to it, and how often it failed
pub record Shelved : Type 0 where
  pub cell : List ℕ → Cell
  pub changes : Option (List Change)
  pub count : ℕ

-- What a publication did, in order, by a publisher that knows which names might be there: first the
-- names went that no profile wants, in byte order; then the files were put whose bytes differ, in
-- the order of the profiles. The calls that failed are told in the order in which they were made.
pub record IsLogged (may_stand : List ℕ → Bool) (profiles : List Profile) (p : Publication)
    (before after : Shelved) : Type 0 where
  pub publisher : Publisher
  pub knows : may_stand_in publisher ≡ may_stand
  pub log : LoggedBy publisher profiles p before.cell before.changes after.changes

-- Profiles were published over the names that might be there, and this was answered: within the
-- bound, but for the calls that failed, which the shelf has counted, and in order.
pub record IsPublished (most : Option ℕ) (may_stand : List ℕ → Bool) (profiles : List Profile)
    (p : Publication) (before after : Shelved) : Type 0 where
  pub bounded : Bounded most (wants_of profiles) may_stand p
  pub done : Published (wants_of profiles) p before.count after.count before.cell after.cell
  pub order : Tells before.cell → IsLogged may_stand profiles p before after

-- what the keeper tells, and the rows that were kept last, where rows are kept at all
pub record Stock : Type 0 where
  pub store : Store
  pub rows : Option (List StoredRow)

-- whether rows that are kept stand in byte order of their names, of which none stands twice
abbrev pub is_rising : Option (List StoredRow) → Bool
is_rising None = true
is_rising (Some rows) = are_rising (map row_name rows)

-- what a session has outside: the shelf, and the rows that it keeps
pub record Held : Type 0 where
  pub shelf : Shelved
  pub stock : Stock

-- The wanted rows are kept in place of those kept last: what differs was saved, and where nothing
-- does the keeper was not called.
pub record HasSaved (last wanted : List StoredRow) (before after : Stock) : Type 0 where
  pub rows : after.rows ≡ Some wanted
  pub saves : Saves last wanted before.store.cell after.store.cell
  pub opened : after.store.opened ≡ before.store.opened
  pub count : after.store.count ≡ before.store.count
  pub same : last ≡ wanted → after.store ≡ before.store

-- The keeper failed, which it has counted, to keep rows that differ from those kept last: it
-- changed none, and these are still the rows kept last.
pub record HasFailed (last wanted : List StoredRow) (before after : Stock) : Type 0 where
  pub differ : last ≡ wanted → ⊥
  pub rows : after.rows ≡ before.rows
  pub told : Follows unchanged before.store.cell after.store.cell
  pub opened : after.store.opened ≡ before.store.opened
  pub later : before.store.count ≤ after.store.count
  pub rose : Rose before.store.count after.store.count
  pub once : after.store.count ≤ before.store.count + 1

-- the keeper was not called
abbrev pub IsUncalled : Saved → Stock → Stock → Type 0
IsUncalled k before after = (k ≡ NotSaved) × (after ≡ before)

abbrev pub SavesAs : Saved → List StoredRow → List StoredRow → Stock → Stock → Type 0
SavesAs NotSaved last wanted before after = ⊥
SavesAs IsSaved last wanted before after = HasSaved last wanted before after
SavesAs SaveFailed last wanted before after = HasFailed last wanted before after

-- What became of the wanted rows, where these were kept last: they were kept, or the keeper failed.
-- Where no rows are kept, it was not called.
abbrev pub KeepsOver : Option (List StoredRow) → List StoredRow → Saved → Stock → Stock → Type 0
KeepsOver None wanted k before after = IsUncalled k before after
KeepsOver (Some last) wanted k before after = SavesAs k last wanted before after

-- of the state that a build leads to which came to its publication; of any other line this
abbrev pub IfBuilt : {E : Type 0} → Order → Scanned → Next E → (State E → Type 0) → Type 0
    → Type 0
IfBuilt Build Done (GoesOn t) P Q = P t
IfBuilt order scan x P Q = Q

module _ {E : Type 0} (machine : Machine E) (rows_of : E → List StoredRow) (most : Option ℕ) where
  -- A build did this that leads from one state to another: the profiles were published, over the
  -- names that might be there before, and behind that, also where too many names were to go, the
  -- rows of its engine were kept.
  pub record IsBuilt (s t : State E) (p : Publication) (k : Saved) (before after : Held) : Type 0
    where
      pub shelf : IsPublished most s.may_stand (profiles_of (answers machine t)) p before.shelf
          after.shelf
      pub stock : KeepsOver before.stock.rows (rows_of t.engine) k before.stock after.stock

  -- A line with these answers of the devices, which leads here, does this to the shelf and the
  -- rows: a build publishes and keeps; any other line does nothing.
  abbrev pub Does : Order → Scanned → Publication → Saved → State E → Next E → Held → Held → Type 0
  Does order scan p k s x before after = IfBuilt order scan x
      (λ t. IsBuilt s t p k before after) ((k ≡ NotSaved) × (after ≡ before))

  -- rounds do it one after the other
  abbrev pub AllDo : List Round → State E → Held → Held → Type 0
  AllDo [] s before after = after ≡ before
  AllDo (r ∷ rounds) s before after = (mid : Held)
      × Does (order_of r.line) r.scan r.publication r.saved s (next machine r s) before mid
      × IfGoesOn (λ t. AllDo rounds t mid after) (next machine r s)
