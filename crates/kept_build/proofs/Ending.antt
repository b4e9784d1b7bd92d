-- How far a build follows its session, and the rows that it wants, by where it ends.
use Rattle.std.proofs.Common.{◌≡◌, ℕ, List, Option, None, inl, inr, refl, sym, subst}
use Rattle.std.specs.Prelude.{Result, Ok, Err}
use Rattle.keepers.specs.Keeping as keeping
use Rattle.keepers.specs.Keeping.{unchanged}
use Rattle.outside.specs.Cells.{Cell}
use Rattle.outside.specs.Contents.{Appends, AppendsPart}
use Rattle.outside.specs.declared.shelf.Change.{Change}
use Rattle.publication.specs.Bounds.{answer_over, granted, shelf_of}
use Rattle.publication.specs.Changing.{BegunOver, MadeOver, Tells}
use Rattle.publication.specs.Stands.{Stands}
use Rattle.publication.specs.declared.answer.Publication.{Publication}
use Rattle.publication.specs.declared.want.Want.{Want}
use Rattle.session.specs.Sessions.{end_line}
use Rattle.session.specs.declared.Ended.{Ended}
use Rattle.site_build.specs.Ends as site
use Rattle.site_build.specs.Ends.{IsEndOf, OfName, OfSink, OfSource}
use Rattle.site_build.specs.Scenes.{Outs}
use Rattle.site_build.specs.Session.{Session, ended_behind, line_alone, session_over, text_behind}
use Rattle.site_build.specs.declared.ends.End as build
use Rattle.site_build.specs.declared.ends.End.TheVariants as E
use Rattle.site_build.proofs.Ending.{done_stopped, early_none, line_unwritten, line_written, stopped_none, told_ok, told_text}
use Rattle.site_build.proofs.Publishing.{over_all, over_none}
use Rattle.stored_rows.specs.declared.row.StoredRow.{StoredRow}
use Rattle.kept_build.specs.Ends.{IsSaving, Stopped, StopsKeeping, WritesEarly}
use Rattle.kept_build.specs.Rounds.{Follows}
use Rattle.kept_build.specs.Stores.{Keeps}
use Rattle.kept_build.specs.declared.ends.End.{End}
use Rattle.kept_build.specs.declared.ends.End.TheVariants as K
use Rattle.kept_build.proofs.Keeping.{still}

-- it was broken off
broken : (s : Session) (names : List (List ℕ)) (last : List StoredRow)
    (wanted : Option (List StoredRow)) (r : Result Ended End) (before after : Outs)
    (old new : List ℕ → Cell) (e : End) → r ≡ Err e → WritesEarly s.text e before.held after.held
    → Stopped e s.shelf before.cell after.cell
    → (Tells before.cell → BegunOver s.wants names before.cell after.cell before.changes
    after.changes) → StopsKeeping e last wanted old new → Follows s names last wanted r before after
    old new
broken s names last wanted r before after old new e is text shelf begun stopped =
    subst (λ x. Follows s names last wanted x before after old new) (sym is) (record {
      ok = tt;
      text = text;
      shelf = shelf;
      made = tt;
      begun = begun;
      kept = tt;
      stopped = stopped;
    })

-- nothing was kept yet
unkept_name : (e : build.End) → IsEndOf OfName e → (last : List StoredRow)
    (wanted : Option (List StoredRow)) (old : List ℕ → Cell) → StopsKeeping (K.Build e) last wanted
    old old
unkept_name E.Source kind last wanted old = cc
unkept_name E.Shelf kind last wanted old = cc
unkept_name (E.Publishing m) kind last wanted old = still old
unkept_name E.Out kind last wanted old = cc
unkept_name E.Memory kind last wanted old = inl (still old)

pub unkept_source : (e : build.End) → IsEndOf OfSource e → (last : List StoredRow)
    (wanted : Option (List StoredRow)) (old : List ℕ → Cell) → StopsKeeping (K.Build e) last wanted
    old old
unkept_source E.Source kind last wanted old = still old
unkept_source E.Shelf kind last wanted old = cc
unkept_source (E.Publishing m) kind last wanted old = cc
unkept_source E.Out kind last wanted old = cc
unkept_source E.Memory kind last wanted old = inl (still old)

-- the rows were kept
kept_sink : (e : build.End) → IsEndOf OfSink e → (last : List StoredRow)
    (wanted : Option (List StoredRow)) (old new : List ℕ → Cell) → Keeps last wanted old new
    → StopsKeeping (K.Build e) last wanted old new
kept_sink E.Source kind last wanted old new kept = cc
kept_sink E.Shelf kind last wanted old new kept = cc
kept_sink (E.Publishing m) kind last wanted old new kept = cc
kept_sink E.Out kind last wanted old new kept = kept
kept_sink E.Memory kind last wanted old new kept = inr kept

-- before anything was done
pub untouched : (s : Session) (names : List (List ℕ)) (last : List StoredRow)
    (wanted : Option (List StoredRow)) (r : Result Ended End) (o : Outs) (old : List ℕ → Cell)
    (e : build.End) → r ≡ Err (K.Build e) → IsEndOf OfSource e → Follows s names last wanted r o o
    old old
untouched s names last wanted r o old e is kind =
    broken s names last wanted r o o old old (K.Build e) is (early_none s.text o.held e)
    (stopped_none e s.shelf o.cell kind) (λ tells. over_none s.wants names o.cell o.cell o.changes
    o.changes (λ n. refl) refl) (unkept_source e kind last wanted old)

-- a publication failed
pub unpublished : (s : Session) (names : List (List ℕ)) (last : List StoredRow)
    (wanted : Option (List StoredRow)) (r : Result Ended End) (before : Outs) (cell : List ℕ → Cell)
    (changes : Option (List Change)) (old : List ℕ → Cell) (e : build.End) → r ≡ Err (K.Build e)
    → IsEndOf OfName e → site.Stopped e s.shelf before.cell cell
    → (Tells before.cell → BegunOver s.wants names before.cell cell before.changes changes)
    → Follows s names last wanted r before (record before { cell = cell; changes = changes }) old
    old
unpublished s names last wanted r before cell changes old e is kind shelf begun =
    broken s names last wanted r before (record before { cell = cell; changes = changes }) old old
    (K.Build e) is (early_none s.text before.held e) shelf begun
    (unkept_name e kind last wanted old)

-- a line in place of a report: nothing was published, and nothing is kept
module _ (how : Ended) (names : List (List ℕ)) (last : List StoredRow) (o : Outs)
    (held : Option (List ℕ)) (old : List ℕ → Cell) where
  pub line_broken : (r : Result Ended End) (e : build.End) → r ≡ Err (K.Build e) → IsEndOf OfSink e
      → AppendsPart o.held (end_line how) held → Follows (line_alone how) names last None r o
      (record o { held = held }) old old
  line_broken r e is kind part =
      broken (line_alone how) names last None r o (record o { held = held }) old old (K.Build e) is
      (line_unwritten {T = Ended} (end_line how) o.held held (Err e) kind part)
      (done_stopped e None o.cell o.cell kind (λ n. refl))
      (λ tells. (refl, λ n. refl))
      (kept_sink e kind last None old old (still old))

  pub line_done : (reached : Ended) → reached ≡ how → Appends o.held (end_line how) held
      → Follows (line_alone how) names last None (Ok reached) o (record o { held = held }) old old
  line_done reached is text = record {
    ok = line_written {T = build.End} how o.held held o.cell (Ok reached) is text;
    text = tt;
    shelf = tt;
    made = λ tells. (refl, λ n. refl);
    begun = tt;
    kept = still old;
    stopped = tt;
  }

-- a publication was done, or refused
module _ (most : Option ℕ) (names : List (List ℕ)) (ws : List Want) (report : List ℕ) (how : Ended)
    (last : List StoredRow) (wanted : Option (List StoredRow)) (before : Outs)
    (cell : List ℕ → Cell) (changes : Option (List Change)) (old new : List ℕ → Cell)
    (done : Stands (shelf_of (granted most names ws)) before.cell cell)
    (made : Tells before.cell → MadeOver (granted most names ws) names before.cell cell
    before.changes changes) where
  begun : Tells before.cell → BegunOver (granted most names ws) names before.cell cell
      before.changes changes
  begun tells = over_all (granted most names ws) names before.cell cell before.changes changes
      (made tells)

  unsaved_text : (e : End) → IsSaving e → (text : List ℕ) → WritesEarly text e before.held
      before.held
  unsaved_text (K.Build e) kind text = early_none text before.held e
  unsaved_text K.Keeper kind text = absurd kind
  unsaved_text K.Saving kind text = refl
  unsaved_text K.BadRows kind text = absurd kind

  unsaved_shelf : (e : End) → IsSaving e → Stopped e (shelf_of (granted most names ws)) before.cell
      cell
  unsaved_shelf (K.Build e) kind =
      done_stopped e (granted most names ws) before.cell cell (subst (IsEndOf OfSink) (sym kind) tt)
      done
  unsaved_shelf K.Keeper kind = absurd kind
  unsaved_shelf K.Saving kind = done
  unsaved_shelf K.BadRows kind = absurd kind

  unsaved_rows : (e : End) → IsSaving e → keeping.Follows unchanged old new
      → StopsKeeping e last wanted old new
  unsaved_rows (K.Build e) kind same =
      subst (λ x. StopsKeeping (K.Build x) last wanted old new) (sym kind) (inl same)
  unsaved_rows K.Keeper kind same = absurd kind
  unsaved_rows K.Saving kind same = same
  unsaved_rows K.BadRows kind same = absurd kind

  -- the rows could not be kept
  pub unsaved : (r : Result Ended End) (e : End) → r ≡ Err e → IsSaving e
      → keeping.Follows unchanged old new → Follows (session_over most names ws report how) names
      last wanted r before (record before { cell = cell; changes = changes }) old new
  unsaved r e is kind same = broken (session_over most names ws report how) names last wanted r
      before (record before { cell = cell; changes = changes }) old new e is
      (unsaved_text e kind (session_over most names ws report how).text) (unsaved_shelf e kind)
      begun (unsaved_rows e kind same)

  module _ (p : Publication) (answer : p ≡ answer_over most names ws)
      (kept : Keeps last wanted old new) (held : Option (List ℕ)) where
    -- they were, and the text could not be written
    pub untold : (r : Result Ended End) (e : build.End) → r ≡ Err (K.Build e) → IsEndOf OfSink e
        → AppendsPart before.held (text_behind p report) held
        → Follows (session_over most names ws report how) names last wanted r before
        (record { cell = cell; changes = changes; held = held }) old new
    untold r e is kind part = broken (session_over most names ws report how) names last wanted r
        before (record { cell = cell; changes = changes; held = held }) old new (K.Build e) is
        (told_text most names ws report how p (Err e) before.held held answer kind part)
        (done_stopped e (granted most names ws) before.cell cell kind done)
        begun
        (kept_sink e kind last wanted old new kept)

    -- all was done
    pub all_done : (reached : Ended) → reached ≡ ended_behind p how
        → Appends before.held (text_behind p report) held
        → Follows (session_over most names ws report how) names last wanted (Ok reached) before
        (record { cell = cell; changes = changes; held = held }) old new
    all_done reached is text = record {
      ok = told_ok most names ws report how p (Ok reached) before.held held before.cell cell answer
          done is text;
      text = tt;
      shelf = tt;
      made = made;
      begun = tt;
      kept = kept;
      stopped = tt;
    }
