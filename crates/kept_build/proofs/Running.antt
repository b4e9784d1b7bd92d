-- A build over what was found, by where it ends.
use Rattle.std.proofs.Common.{◌≡◌, ◌⊎◌, ◌∙◌, ap, inr, ℕ, List, Option, Some, IfErr, IfSome, OnErr, refl, sym, subst}
use Rattle.std.specs.Prelude.{Result, Ok, Err, IfOk, OnOk}
use Rattle.std.proofs.Math.Path.{subst₂}
use Rattle.command_words.specs.declared.commands.Work.{Work}
use Rattle.engine_session.specs.Compiler.{Compiled}
use Rattle.engine_session.specs.Standing.{Counts, counts, HasSpentAtMost, IsIn, SpendsAs}
use Rattle.engine_rows.specs.Restoring.{IsSoundKept}
use Rattle.engine_turns.specs.declared.core_data.Core.{Core}
use Rattle.kept_state.specs.Stored.{Stored}
use Rattle.kept_works.specs.Kept.{IsSoundFor, begun_with}
use Rattle.outside.specs.Causes.{Caused, Counted}
use Rattle.outside.specs.declared.source.MemFile.{MemFile}
use Rattle.pan_ast.specs.declared.work.Limits.{Limits}
use Rattle.publication.specs.Changing.{BegunOver, MadeOver}
use Rattle.rebuild.specs.Engines.{Meanings}
use Rattle.session.specs.Sessions.{State}
use Rattle.session.specs.declared.Ended.{Ended}
use Rattle.site_build.specs.Ends.{IsEndOf, IsFailureOf, OfSource}
use Rattle.site_build.specs.Rounds.{Reaches, session_at}
use Rattle.site_build.specs.Scenes.{Outs, Scene}
use Rattle.site_build.specs.Session as session
use Rattle.site_build.specs.Session.{Finished, IsPassed, limits_of, session_from, state_from}
use Rattle.site_build.specs.declared.building.Reached.{Reached}
use Rattle.site_build.specs.declared.ends.Device.TheVariants as D
use Rattle.site_build.specs.declared.ends.End as build
use Rattle.site_build.specs.declared.ends.End.TheVariants as E
use Rattle.site_build.proofs.Ending.{early_none, stopped_none}
use Rattle.site_build.proofs.Finishing.{some_map, spends_on}
use Rattle.site_build.proofs.Following.{all_told}
use Rattle.site_build.proofs.Publishing.{over_none}
use Rattle.site_build.proofs.Settling.{spent_nothing}
use Rattle.site_build.proofs.Taking as site
use Rattle.stored_rows.specs.declared.row.StoredRow.{StoredRow}
use Rattle.kept_build.specs.Builds.{Breaks, Ends, Finishes, Opens, Stops, Unbegun}
use Rattle.kept_build.specs.Ends.{IsFailure, IsKeeperFailure, IsLater, IsRoundEnd, Stopped, StopsKeeping, TakesEarly, WritesEarly}
use Rattle.kept_build.specs.Kept.{IsSoundStart, begun_for, kept_from, rows_from}
use Rattle.kept_build.specs.Rounds.{Follows}
use Rattle.kept_build.specs.Stores.{Keeps, Store}
use Rattle.kept_build.specs.declared.ends.End.{End}
use Rattle.kept_build.specs.declared.ends.End.TheVariants as K
use Rattle.kept_build.proofs.Counting.{counted_of, not_failed, unfailed}
use Rattle.kept_build.proofs.Ending.{unkept_source}

-- what the shelf and the sink hold
abbrev pub outs_in : Scene → Outs
outs_in s = record { cell = s.cell; changes = s.changes; held = s.held }

module _ {T : Type 0} (M : Meanings T) (w : Work) (names : List (List ℕ)) (last : List StoredRow)
    (found : Stored) (r : Result Ended End) (before after : Scene) (store store_now : Store) where
  -- what a build did that began with what was found
  pub record Runs : Type 0 where
    pub follows : IsSoundStart M w found
        → IfSome before.coming (λ ps. Follows (session_from M (begun_for w found) w names ps) names
        last (rows_from M w names (begun_for w found) ps) r (outs_in before) (outs_in after)
        store.cell store_now.cell)
    pub sound : IsSoundStart M w found
        → IfSome before.coming (λ ps. IfSome (kept_from M w names (begun_for w found) ps)
        (λ s. ∥ IsSoundKept M s ∥₁))
    pub spent : IsSoundStart M w found
        → IfOk r
        (λ how. IfSome before.coming (λ ps. SpendsAs how (state_from M (begun_for w found) w ps)
        before.spent after.spent))
    pub most : IsSoundStart M w found
        → OnErr r
        (IfSome before.coming (λ ps. HasSpentAtMost (state_from M (begun_for w found) w ps)
        before.spent after.spent))
    pub later : IfErr r IsLater
    pub taken : OnOk r (IsPassed before.coming after.coming)
    pub pictures : IfErr r (λ e. TakesEarly e before.coming after.coming)
    pub source_cause : Caused (IsFailure D.Source) before.source_count after.source_count r
    pub shelf_cause : Caused (IsFailure D.Shelf) before.shelf_count after.shelf_count r
    pub out_cause : Caused (IsFailure D.Out) before.out_count after.out_count r
    pub store_cause : Caused IsKeeperFailure store.count store_now.count r
    pub lines : after.lines ≡ before.lines
    pub lines_count : after.lines_count ≡ before.lines_count

module _ {T : Type 0} (M : Meanings T) (w : Work) (names : List (List ℕ)) (last : List StoredRow)
    (found : Stored) (before after : Scene) (store store_now : Store) where
  -- of the command's session and its rows
  each : (r : Result Ended End) → Runs M w names last found r before after store store_now
      → (Q : List (List MemFile) → Type 0)
      → ((ps : List (List MemFile)) → Follows (session_from M (begun_for w found) w names ps) names
      last (rows_from M w names (begun_for w found) ps) r (outs_in before) (outs_in after)
      store.cell store_now.cell → Q ps) → IsSoundStart M w found → IfSome before.coming Q
  each r runs Q f sound =
      some_map before.coming (λ ps. Follows (session_from M (begun_for w found) w names ps) names
      last (rows_from M w names (begun_for w found) ps) r (outs_in before) (outs_in after)
      store.cell store_now.cell) Q f (runs.follows sound)

  pub ends : (r : Result Ended End) → Runs M w names last found r before after store store_now
      → IfOk r (λ how. Ends M w names last found how before after store store_now)
  ends (Err e) runs = tt
  ends (Ok how) runs = record {
    session =
        each (Ok how) runs (λ ps. Finished (session_from M (begun_for w found) w names ps) how
        before.held after.held before.cell after.cell) (λ ps f. f.ok);
    order =
        λ sound tells. each (Ok how) runs
        (λ ps. MadeOver (session_from M (begun_for w found) w names ps).wants names before.cell
        after.cell before.changes after.changes) (λ ps f. f.made tells) sound;
    spent = runs.spent;
    rows =
        each (Ok how) runs (λ ps. Keeps last (rows_from M w names (begun_for w found) ps) store.cell
        store_now.cell) (λ ps f. f.kept);
    sound = runs.sound;
    taken = runs.taken;
    source_count = runs.source_cause.done;
    shelf_count = runs.shelf_cause.done;
    out_count = runs.out_cause.done;
    store_count = runs.store_cause.done;
    lines = runs.lines;
    lines_count = runs.lines_count;
  }

  pub stops : (r : Result Ended End) → Runs M w names last found r before after store store_now
      → IfErr r (λ e. Stops M w names last found e before after store store_now)
  stops (Ok how) runs = tt
  stops (Err e) runs = record {
    later = runs.later;
    text =
        each (Err e) runs (λ ps. WritesEarly (session_from M (begun_for w found) w names ps).text e
        before.held after.held) (λ ps f. f.text);
    shelf =
        each (Err e) runs (λ ps. Stopped e (session_from M (begun_for w found) w names ps).shelf
        before.cell after.cell) (λ ps f. f.shelf);
    order =
        λ sound tells. each (Err e) runs
        (λ ps. BegunOver (session_from M (begun_for w found) w names ps).wants names before.cell
        after.cell before.changes after.changes) (λ ps f. f.begun tells) sound;
    spent = runs.most;
    rows =
        each (Err e) runs (λ ps. StopsKeeping e last (rows_from M w names (begun_for w found) ps)
        store.cell store_now.cell) (λ ps f. f.stopped);
    taken = runs.pictures;
    source_count = counted_of e before.source_count after.source_count runs.source_cause;
    shelf_count = counted_of e before.shelf_count after.shelf_count runs.shelf_cause;
    out_count = counted_of e before.out_count after.out_count runs.out_cause;
    store_count = counted_of e store.count store_now.count runs.store_cause;
    lines = runs.lines;
    lines_count = runs.lines_count;
  }

module _ {T : Type 0} (M : Meanings T) (w : Work) (names : List (List ℕ)) (last : List StoredRow)
    (found : Stored) (before : Scene) (store : Store) where
  -- it ended before its scan did: nothing was published, written or kept
  pub stops_early : (r : Result Ended End) (e : build.End) → r ≡ Err (K.Build e)
      → IsEndOf OfSource e → (coming : Option (List (List MemFile))) (opened : Option (List ℕ))
      (count : ℕ) (spent : Counts)
      → (IsSoundStart M w found → IfSome before.coming
      (λ ps. HasSpentAtMost (state_from M (begun_for w found) w ps) before.spent spent))
      → session.TakesEarly e before.coming coming → Counted (IsFailureOf D.Source e)
      before.source_count count
      → IfErr r (λ e. Stops M w names last found e before
      (record before {
        coming = coming;
        source_opened = opened;
        source_count = count;
        spent = spent;
      }) store store)
  stops_early r e is kind coming opened count spent most taken counted =
      subst
      (λ x. IfErr x (λ e. Stops M w names last found e before
      (record before {
        coming = coming;
        source_opened = opened;
        source_count = count;
        spent = spent;
      }) store store)) (sym is) (record {
        later = tt;
        text =
            λ sound. all_told before.coming
            (λ ps. session.WritesEarly (session_from M (begun_for w found) w names ps).text e
            before.held before.held)
            (λ ps. early_none (session_from M (begun_for w found) w names ps).text before.held e);
        shelf =
            λ sound. all_told before.coming
            (λ ps. Stopped (K.Build e) (session_from M (begun_for w found) w names ps).shelf
            before.cell before.cell)
            (λ ps. stopped_none e (session_from M (begun_for w found) w names ps).shelf before.cell
            kind);
        order =
            λ sound tells. all_told before.coming
            (λ ps. BegunOver (session_from M (begun_for w found) w names ps).wants names before.cell
            before.cell before.changes before.changes)
            (λ ps. over_none (session_from M (begun_for w found) w names ps).wants names before.cell
            before.cell before.changes before.changes (λ n. refl) refl);
        spent = most;
        rows =
            λ sound. all_told before.coming
            (λ ps. StopsKeeping (K.Build e) last (rows_from M w names (begun_for w found) ps)
            store.cell store.cell)
            (λ ps. unkept_source e kind last (rows_from M w names (begun_for w found) ps)
            store.cell);
        taken = taken;
        source_count = counted;
        shelf_count = unfailed before.shelf_count (not_failed D.Shelf e kind (λ same. cc));
        out_count = unfailed before.out_count (not_failed D.Out e kind (λ same. cc));
        store_count = unfailed store.count (λ failed. failed);
        lines = refl;
        lines_count = refl;
      })

-- the engine that a build begins with, by the directories and limits that the words have
module _ {T : Type 0} (w : Work) (found : Stored) (dirs : List (List ℕ)) (limits : Limits)
    (same_dirs : dirs ≡ w.directories) (same_limits : limits ≡ limits_of w) where
  pub start_in : (core : Core T) → IsIn dirs limits core (begun_with dirs limits (Some found))
      → IsIn w.directories (limits_of w) core (begun_for w found)
  start_in core is = subst₂ (λ d l. IsIn d l core (begun_with d l (Some found))) same_dirs
      same_limits is

  pub start_sound : (M : Meanings T) → IsSoundStart M w found → IsSoundFor M dirs limits
      (Some found)
  start_sound M sound =
      subst₂ (λ d l. IsSoundFor M d l (Some found)) (sym same_dirs) (sym same_limits) sound

-- runs and steps where nothing was run
pub spent_still : {E : Type 0} (s : State E) (runs runs' steps : ℕ) → runs' ≡ runs
    → HasSpentAtMost s (counts runs steps) (counts runs' steps)
spent_still s runs runs' steps same =
    subst (λ n. HasSpentAtMost s (counts runs steps) (counts n steps)) (sym same)
    (spent_nothing s (counts runs steps))

module _ {T : Type 0} (M : Meanings T) (e : Compiled T) (w : Work) (names : List (List ℕ))
    (how : Reached) (core : Core T) (before mid : Counts) (coming : Option (List (List MemFile)))
    (reaches : IfSome coming (λ ps. Reaches M e w how ps core before mid)) where
  pub spends_as : (r : Result Ended End)
      → IfOk r (λ how'. (session_at w.most_removed names M how core).ended ≡ how')
      → IfOk r (λ how'. IfSome coming (λ ps. SpendsAs how' (state_from M e w ps) before mid))
  spends_as (Ok how') is = spends_on M e w names how core before mid coming reaches (Ok how') is
  spends_as (Err end) is = tt

  pub spends_most : (r : Result Ended End)
      → OnErr r (IfSome coming (λ ps. HasSpentAtMost (state_from M e w ps) before mid))
  spends_most (Ok how') = tt
  spends_most (Err end) = spends_on M e w names how core before mid coming reaches (Err E.Memory) tt

-- a round ends behind the reading of rows, and behind a scan
pub round_later : (e : End) → IsRoundEnd e → IsLater e
round_later (K.Build e) kind = tt
round_later K.Keeper kind = kind
round_later K.Saving kind = tt
round_later K.BadRows kind = kind

pub round_takes : (old new : Option (List (List MemFile))) → IsPassed old new → (e : End)
    → IsRoundEnd e → TakesEarly e old new
round_takes old new passed (K.Build e) kind =
    site.round_takes {T = Ended} (Err e) old new kind passed
round_takes old new passed K.Keeper kind = absurd kind
round_takes old new passed K.Saving kind = passed
round_takes old new passed K.BadRows kind = absurd kind

-- what holds of an end that is handed on
pub handed_on : (P : End → Type 0) (r : Result Ended End) (e e' : End) → r ≡ Err e' → e' ≡ e → P e
    → IfErr r P
handed_on P r e e' is same p = subst (λ x. IfErr x P) (sym is) (subst P (sym same) p)

-- a build whose devices were opened
module _ {T : Type 0} (M : Meanings T) (w : Work) (file : List ℕ) (names : List (List ℕ))
    (last : List StoredRow) (found : Stored) (before mid after : Scene)
    (store read store_now : Store)
    (opens : Opens w file names last found before mid store read)
    (at_source : after.source_opened ≡ mid.source_opened)
    (at_shelf : after.shelf_opened ≡ mid.shelf_opened)
    (at_store : store_now.opened ≡ read.opened) where
  pub finishes : (r : Result Ended End)
      → IfOk r (λ how. Ends M w names last found how mid after read store_now)
      → IfOk r (λ how. Finishes M w file how before after store store_now)
  finishes (Err e) ends = tt
  finishes (Ok how) ends = record {
    names = names;
    last = last;
    found = found;
    mid = mid;
    read = read;
    opens = opens;
    ends = ends;
    source_opened = at_source ∙ ap (λ (s : Scene). s.source_opened) opens.scene;
    shelf_opened = at_shelf ∙ ap (λ (s : Scene). s.shelf_opened) opens.scene;
    store_opened = at_store ∙ opens.store_opened;
  }

  pub breaks : (r : Result Ended End)
      → IfErr r (λ e. Stops M w names last found e mid after read store_now)
      → IfErr r (λ e. Unbegun w file e before after store store_now ⊎ Breaks M w file e before after
      store store_now)
  breaks (Ok how) stops = tt
  breaks (Err e) stops = inr (record {
    names = names;
    last = last;
    found = found;
    mid = mid;
    read = read;
    opens = opens;
    stops = stops;
    source_opened = at_source ∙ ap (λ (s : Scene). s.source_opened) opens.scene;
    shelf_opened = at_shelf ∙ ap (λ (s : Scene). s.shelf_opened) opens.scene;
    store_opened = at_store ∙ opens.store_opened;
  })
