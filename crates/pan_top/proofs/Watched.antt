-- A watcher's call, from what its session did.
use Rattle.std.proofs.Common.{◌≡◌, ℕ, false, List, [], Option, Some, None, inl, inr, refl, sym, ap, subst, ◌∙◌}
use Rattle.std.specs.Prelude.{Result, Ok, Err, IfErr, IfSome}
use std.Path.{fun_ext}
use Rattle.command_words.specs.declared.commands.Work.{Work}
use Rattle.engine_session.specs.Compiler.{Compiled}
use Rattle.engine_session.specs.Standing.{Counts, IsIn}
use Rattle.outside.specs.Causes.{Counted}
use Rattle.outside.specs.Cells.{Cell, AreSame}
use Rattle.outside.specs.declared.shelf.Change.{Change}
use Rattle.outside.specs.declared.source.MemFile.{MemFile}
use Rattle.keepers.specs.Keeping.{Lists as Lists_rows}
use Rattle.kept_build.specs.Builds as kept_builds
use Rattle.kept_build.specs.Builds.{Opens}
use Rattle.kept_build.specs.Ends.{IsFailure, IsKeeperFailure}
use Rattle.kept_build.specs.declared.ends.End.TheVariants as K
use Rattle.kept_state.specs.Stored.{Stored}
use Rattle.publication.specs.Listings.{Lists}
use Rattle.row_changes.specs.Stores.{Store}
use Rattle.stored_rows.specs.declared.row.StoredRow.{StoredRow}
use Rattle.publication.specs.declared.publisher.Publisher.{Publisher}
use Rattle.std.specs.List.Sorted.{IsStrictlySortedBy}
use Rattle.std.specs.Cmp.Lexicographic.{slice_cmp}
use Rattle.std.specs.Ordering.{nat_cmp}
use Rattle.rebuild.specs.Engines.{Meanings}
use Rattle.session.specs.Sessions.{ended_by}
use Rattle.site_build.specs.Ends.{IsEndOf, IsFailureOf, OfSource, OfShelf}
use Rattle.site_build.specs.Session.{WritesEarly, limits_of}
use Rattle.site_build.specs.declared.ends.Device.TheVariants as D
use Rattle.site_build.specs.declared.ends.End as early
use Rattle.site_build.specs.declared.ends.End.TheVariants as E
use Rattle.site_build.proofs.Ending.{none_of, early_none}
use Rattle.site_build.proofs.Settling.{if_told}
use Rattle.watch.specs.Played.{HasNames, Reel, reel}
use Rattle.watch.specs.Sites as sites
use Rattle.watch.specs.Steps.{Spot}
use Rattle.watch.specs.declared.ends.End.{End}
use Rattle.watch.specs.declared.ends.End.TheVariants as ends
use Rattle.pan_top.specs.Builds.{Wrote}
use Rattle.site_build.specs.Scenes.{Scene}
use Rattle.call_status.specs.Statuses.{status_after}
use Rattle.pan_top.specs.Watches.{EndsWith, HasListed, Holds, IsOpening, IsPlayed, Plays, PlaysAll, PlaysTo, SourceAt, line_at, spot_in, status_at, unreported}
use Rattle.call_status.specs.declared.status.Status.{Status}
use Rattle.call_status.specs.declared.status.Status.TheVariants as S
use Rattle.pan_top.proofs.Counting.{counted_by, counted_same, not_out_after}

-- what the source was opened at, by how the opening ended
source_failed : (e : early.End) (folder : List ℕ) (old new : Option (List ℕ)) → IsEndOf OfSource e
    → new ≡ old → SourceAt e folder old new
source_failed E.Source folder old new kind same = same
source_failed E.Shelf folder old new kind same = cc
source_failed (E.Publishing m) folder old new kind same = cc
source_failed E.Out folder old new kind same = cc
source_failed E.Memory folder old new kind same = inl same

shelf_failed : (e : early.End) (folder : List ℕ) (old new : Option (List ℕ)) → IsEndOf OfShelf e
    → new ≡ Some folder → SourceAt e folder old new
shelf_failed E.Source folder old new kind is = cc
shelf_failed E.Shelf folder old new kind is = is
shelf_failed (E.Publishing m) folder old new kind is = cc
shelf_failed E.Out folder old new kind is = cc
shelf_failed E.Memory folder old new kind is = inr is

pub source_failed_at : {T : Type 0} (r : Result T early.End) (folder : List ℕ)
    (old new : Option (List ℕ)) → IfErr r (IsEndOf OfSource) → new ≡ old
    → IfErr r (λ e. SourceAt e folder old new)
source_failed_at (Ok x) folder old new kind same = tt
source_failed_at (Err e) folder old new kind same = source_failed e folder old new kind same

pub shelf_failed_at : {T : Type 0} (r : Result T early.End) (folder : List ℕ)
    (old new : Option (List ℕ)) → IfErr r (IsEndOf OfShelf) → new ≡ Some folder
    → IfErr r (λ e. SourceAt e folder old new)
shelf_failed_at (Ok x) folder old new kind is = tt
shelf_failed_at (Err e) folder old new kind is = shelf_failed e folder old new kind is

-- the devices tell the same, but for where they are open
pub ready_scene : (w : Work) (before : Scene) (coming : Option (List (List MemFile)))
    (source out : Option (List ℕ)) (sources shelves : ℕ) (cell : List ℕ → Cell)
    (changes : Option (List Change)) (spent : Counts)
    → coming ≡ before.coming → source ≡ Some w.source → sources ≡ before.source_count
    → AreSame before.cell cell → changes ≡ before.changes → out ≡ Some w.out → shelves
    ≡ before.shelf_count → spent ≡ before.spent
    → record before {
      coming = coming;
      source_opened = source;
      source_count = sources;
      cell =
          cell;
      changes = changes;
      shelf_opened = out;
      shelf_count = shelves;
      spent = spent;
    }
    ≡ record before { source_opened = Some w.source; shelf_opened = Some w.out }
ready_scene w before coming source out sources shelves cell changes spent pictures at_source counted
    same kept at_out failed made =
    let cells : cell ≡ before.cell = fun_ext same in
    λ i. record before {
      coming = pictures i;
      source_opened = at_source i;
      source_count =
          counted i;
      cell = cells i;
      changes = kept i;
      shelf_opened = at_out i;
      shelf_count =
          failed i;
      spent = made i;
    }

module _ {T : Type 0} (M : Meanings T) (ready : Type 0) (first last : Holds T) (status : Status)
    (before after : Scene) (store store_now : Store)
    (source : after.source_opened ≡ before.source_opened)
    (shelf : after.shelf_opened ≡ before.shelf_opened) (opened : store_now.opened ≡ store.opened)
    (uncalled : first.rows ≡ None → store_now ≡ store) where
  -- the session came to its end
  pub all_ended :
      (ready → sites.Finishes M (reel before.lines after.lines before.held after.held)
      (spot_in (unreported first) before store) (spot_in last after store_now))
      → status ≡ status_after (ended_by last.has_faults) → after.lines_count ≡ before.lines_count
      → after.out_count ≡ before.out_count
      → PlaysAll M ready first status before after store store_now
  all_ended played how lines out = record {
    end = None;
    last = last;
    held = after.held;
    played = played;
    closes = (how, refl);
    source_opened = source;
    shelf_opened = shelf;
    store_opened = opened;
    uncalled = uncalled;
    lines_count = counted_same (None ≡ Some ends.Lines) before.lines_count after.lines_count lines
        (λ is. cc);
    out_count = counted_same (status ≡ S.OutFault) before.out_count after.out_count out
        (λ is. not_out_after (ended_by last.has_faults) (sym how ∙ is));
  }

  -- it ended before its lines did
  pub all_halted : (end : End) (held : Option (List ℕ))
      → (ready → sites.Stops M end (reel before.lines after.lines before.held held)
      (spot_in (unreported first) before store) (spot_in last after store_now))
      → EndsWith (status_at end) (line_at end) status held after.held
      → Counted (end ≡ ends.Lines) before.lines_count after.lines_count
      → Counted (status ≡ S.OutFault) before.out_count after.out_count
      → PlaysAll M ready first status before after store store_now
  all_halted end held played said lines out = record {
    end = Some end;
    last = last;
    held = held;
    played = played;
    closes = said;
    source_opened = source;
    shelf_opened = shelf;
    store_opened = opened;
    uncalled = uncalled;
    lines_count = counted_by (end ≡ ends.Lines) (Some end ≡ Some ends.Lines) before.lines_count
        after.lines_count (λ is. ap (λ e. Some e) is) (λ is. cc) lines;
    out_count = out;
  }

-- what was played is said where more holds
pub played_where : {T : Type 0} (M : Meanings T) (P Q : Type 0) → (Q → P) → (first : Holds T)
    (status : Status) (before after : Scene) (store store_now : Store)
    → PlaysAll M P first status before after store store_now
    → PlaysAll M Q first status before after store store_now
played_where M P Q where_so first status before after store store_now a = record {
  end = a.end;
  last = a.last;
  held = a.held;
  played = λ q. a.played (where_so q);
  closes = a.closes;
  source_opened = a.source_opened;
  shelf_opened = a.shelf_opened;
  store_opened = a.store_opened;
  uncalled = a.uncalled;
  lines_count = a.lines_count;
  out_count = a.out_count;
}

module _ {T : Type 0} (M : Meanings T) (w : Work) (ready sound : Type 0)
    (sound_ready : sound → ready)
    (first : Holds T) (e : Compiled T) (names : List (List ℕ))
    (is : IsIn w.directories (limits_of w) first.core e) (fresh : first.has_taken ≡ false)
    (has : HasNames first.publisher names) (mid after : Scene) (store store_now : Store)
    (listed : IfSome first.rows (Lists_rows store.cell)) where
  abbrev Begun : Spot T
  Begun = spot_in (unreported first) mid store

  begins_at : (ps : List (List MemFile)) → mid.coming ≡ Some ps
      → sites.Begins w.directories (limits_of w) e ps names Begun
  begins_at ps told = record {
    engine = is;
    fresh = fresh;
    coming = told;
    known = has;
    listed = listed;
  }

  -- what was played is the session of the words
  played_to : (end : Option End) (r : Reel) (last : Spot T) → (ready → IsPlayed M end r Begun last)
      → sound → IfSome mid.coming (λ ps. PlaysTo M w end e names ps r Begun last)
  played_to None r last played is_sound =
      if_told (λ ps. PlaysTo M w None e names ps r Begun last) mid.coming
      (λ ps told. played (sound_ready is_sound) w.directories (limits_of w) e ps names
      (begins_at ps told))
  played_to (Some end) r last played is_sound =
      if_told (λ ps. PlaysTo M w (Some end) e names ps r Begun last) mid.coming
      (λ ps told. played (sound_ready is_sound) w.directories (limits_of w) e ps names
      (begins_at ps told))

  pub plays : (status : Status) → first.publisher.most ≡ w.most_removed
      → mid.source_opened ≡ Some w.source → mid.shelf_opened ≡ Some w.out
      → PlaysAll M ready first status mid after store store_now
      → Plays M w sound e first.rows names status mid after store store_now
  plays status bound source shelf a = record {
    end = a.end;
    first = unreported first;
    last = a.last;
    kept = refl;
    bound = bound;
    held = a.held;
    session = played_to a.end (reel mid.lines after.lines mid.held a.held)
        (spot_in a.last after store_now) a.played;
    closes = a.closes;
    source_opened = a.source_opened ∙ source;
    shelf_opened = a.shelf_opened ∙ shelf;
    store_opened = a.store_opened;
    lines_count = a.lines_count;
    out_count = a.out_count;
  }

-- .. from before its devices were opened
pub plays_from : {T : Type 0} (M : Meanings T) (w : Work) (sound : Type 0) (e : Compiled T)
    (rows : Option (List StoredRow)) (names : List (List ℕ)) (status : Status)
    (before mid after : Scene) (store store_now : Store)
    → mid ≡ record before { source_opened = Some w.source; shelf_opened = Some w.out }
    → Plays M w sound e rows names status mid after store store_now
    → Plays M w sound e rows names status before after store store_now
plays_from M w sound e rows names status before mid after store store_now opened p =
    by (subst (λ s. Plays M w sound e rows names status s after store store_now) opened p)
  where
    by : Plays M w sound e rows names status
        (record before { source_opened = Some w.source; shelf_opened = Some w.out }) after store
        store_now → Plays M w sound e rows names status before after store store_now
    by a = record {
      end = a.end;
      first = a.first;
      last = a.last;
      kept = a.kept;
      bound = a.bound;
      held = a.held;
      session = a.session;
      closes = a.closes;
      source_opened = a.source_opened;
      shelf_opened = a.shelf_opened;
      store_opened = a.store_opened;
      lines_count = a.lines_count;
      out_count = a.out_count;
    }

-- memory was wanting behind an opening
pub opened_only : (w : Work) (file : List ℕ) (names : List (List ℕ)) (last : List StoredRow)
    (found : Stored) (before mid : Scene) (store read : Store)
    → Opens w file names last found before mid store read
    → kept_builds.Unbegun w file (K.Build E.Memory) before mid store read
opened_only w file names last found before mid store read o =
    subst (λ s. kept_builds.Unbegun w file (K.Build E.Memory) before s store read) (sym o.scene)
    (record {
      opening = tt;
      bad = λ is. cc;
      held = refl;
      coming = refl;
      shelf = λ n. refl;
      changes = refl;
      spent = refl;
      rows = o.told;
      source_opened = inr refl;
      shelf_opened = inr refl;
      store_opened = inr o.store_opened;
      source_count = counted_same (IsFailure D.Source (K.Build E.Memory)) before.source_count
          before.source_count refl (λ is. cc);
      shelf_count = counted_same (IsFailure D.Shelf (K.Build E.Memory)) before.shelf_count
          before.shelf_count refl (λ is. cc);
      out_count = refl;
      store_count = counted_same (IsKeeperFailure (K.Build E.Memory)) store.count read.count
          o.store_count (λ is. is);
      lines = refl;
      lines_count = refl;
    })

-- an opening that failed calls no sink
pub not_sinks : (e : early.End) → IsOpening e → IsFailureOf D.Out e → ⊥
not_sinks E.Source opening is = cc
not_sinks E.Shelf opening is = cc
not_sinks (E.Publishing m) opening is = cc
not_sinks E.Out (inl opening) is = cc
not_sinks E.Out (inr opening) is = cc
not_sinks E.Memory opening is = cc

pub early_held : (e : early.End) (held : Option (List ℕ)) → WritesEarly [] e held held
early_held e held = early_none [] held e

-- want of memory before the first line
pub memory_wrote : (held : Option (List ℕ)) → Wrote [] E.Memory S.Memory held held
memory_wrote held = (refl, none_of [] held)

-- the names that were listed, as the shelf told them before
pub listed_before : (publisher : Publisher) (names : List (List ℕ)) (old mid : List ℕ → Cell)
    → AreSame old mid → Lists names mid → IsStrictlySortedBy (slice_cmp nat_cmp) names
    → HasNames publisher names → HasListed publisher old
listed_before publisher names old mid same lists sorted has =
    record {
      names = names;
      listed =
          record { lists = λ n. rw (same n) at (lists n); sorted = sorted };
      has = has;
    }

pub listed_after : (publisher : Publisher) (old mid : List ℕ → Cell) → AreSame old mid
    → HasListed publisher old → HasListed publisher mid
listed_after publisher old mid same h =
    record {
      names = h.names;
      listed =
          record { lists = λ n. rw (same n) (h.listed.lists n); sorted = h.listed.sorted };
      has = h.has;
    }
