-- A build of a site, from how its devices were opened and what was done over the names that were
-- listed.
use Rattle.std.proofs.Common.{◌≡◌, ◌⊎◌, ℕ, List, [], Option, Some, IfErr, IfSome, inl, inr, refl, sym, subst, arith}
use Rattle.std.specs.Prelude.{Result, Ok, Err, IfOk, OnOk}
use std.Path.{fun_ext}
use Rattle.command_words.specs.declared.commands.Work.{Work}
use Rattle.engine_session.specs.Standing.{HasSpentAtMost}
use Rattle.outside.specs.Causes.{Caused, Counted}
use Rattle.outside.specs.Cells.{Cell, AreSame}
use Rattle.outside.specs.declared.shelf.Change.{Change}
use Rattle.outside.specs.declared.source.MemFile.{MemFile}
use Rattle.publication.specs.Changing.{AreListed, BegunOver, MadeOver}
use Rattle.rebuild.specs.Engines.{Meanings}
use Rattle.session.specs.declared.Ended.{Ended}
use Rattle.site_build.specs.Ends.{IsEndOf, IsFailureOf, OfSource, OfShelf, Stopped}
use Rattle.site_build.specs.Rounds.{Follows, Spends}
use Rattle.site_build.specs.Scenes.{Outs, Scene}
use Rattle.site_build.specs.Session.{Breaks, Finished, Finishes, IsPassed, IsPerhapsOpened, TakesEarly, WritesEarly, session_for, state_for}
use Rattle.site_build.specs.declared.ends.Device.TheVariants as D
use Rattle.site_build.specs.declared.ends.End.{End}
use Rattle.site_build.specs.declared.ends.End.TheVariants as E
use Rattle.site_build.proofs.Ending.{early_none}
use Rattle.site_build.proofs.Finishing.{some_map}
use Rattle.site_build.proofs.Following.{all_told}
use Rattle.site_build.proofs.Publishing.{opening_stopped, over_none}
use Rattle.site_build.proofs.Settling.{spent_nothing}
use Rattle.site_build.proofs.Taking.{by_shelf, by_source}

-- an end of an opening
abbrev pub IsOpeningEnd : End → Type 0
IsOpeningEnd e = IsEndOf OfSource e ⊎ IsEndOf OfShelf e

opening_takes : (e : End) (old new : Option (List (List MemFile))) → IsOpeningEnd e → new ≡ old
    → TakesEarly e old new
opening_takes e old new (inl kind) same = by_source e old new kind (inl same)
opening_takes e old new (inr kind) same = by_shelf e old new kind same

not_out : (e : End) → IsOpeningEnd e → IsFailureOf D.Out e → ⊥
not_out E.Source kind is = cc
not_out E.Shelf kind is = cc
not_out (E.Publishing m) kind is = cc
not_out E.Out (inl kind) is = cc
not_out E.Out (inr kind) is = cc
not_out E.Memory kind is = cc

-- the calls ended by this failure
pub counted_of : {T E : Type 0} {is_failure : E → Type 0} (e : E) (before now : ℕ)
    → Caused {T = T} {E = E} is_failure before now (Err e) → Counted (is_failure e) before now
counted_of e before now c = record { later = c.later; rose = c.rose; once = c.once; kept = c.kept }

-- no call failed
pub counted_same : (failed : Type 0) (before now : ℕ) → now ≡ before → (failed → ⊥)
    → Counted failed before now
counted_same failed before now same never =
    record {
      later = omega (arith, same);
      rose = λ is. absurd (never is);
      once =
          omega (arith, same);
      kept = λ other. same;
    }

-- the devices tell the same but for where the source and the shelf were opened, and their failures
abbrev pub Opened : Scene → Option (List ℕ) → ℕ → Option (List ℕ) → ℕ → Scene
Opened before source sources out shelves =
    record before {
      source_opened = source;
      source_count = sources;
      shelf_opened =
          out;
      shelf_count = shelves;
    }

pub opened_by : (before : Scene) (coming : Option (List (List MemFile))) (cell : List ℕ → Cell)
    (changes : Option (List Change)) (source out : Option (List ℕ)) (sources shelves : ℕ) → coming
    ≡ before.coming → AreSame before.cell cell → changes ≡ before.changes
    → record before {
      coming = coming;
      cell = cell;
      changes = changes;
      source_opened =
          source;
      source_count = sources;
      shelf_opened = out;
      shelf_count = shelves;
    }
    ≡ Opened before source sources out shelves
opened_by before coming cell changes source out sources shelves told same kept =
    let cells : cell ≡ before.cell = fun_ext same in
    λ i. record before {
      coming = told i;
      cell = cells i;
      changes = kept i;
      source_opened =
          source;
      source_count = sources;
      shelf_opened = out;
      shelf_count = shelves;
    }

module _ {T : Type 0} (M : Meanings T) (w : Work) (before : Scene) where
  -- they could not be opened, or the shelf not be listed
  unbegun : (e : End) (source out : Option (List ℕ)) (sources shelves : ℕ) → IsOpeningEnd e
      → IsPerhapsOpened w.source before.source_opened source
      → IsPerhapsOpened w.out before.shelf_opened out
      → Counted (IsFailureOf D.Source e) before.source_count sources
      → Counted (IsFailureOf D.Shelf e) before.shelf_count shelves
      → Breaks M w e before (Opened before source sources out shelves)
  unbegun e source out sources shelves kind at_source at_shelf source_count shelf_count = record {
    names = [];
    listed = inl (refl, λ n. refl);
    text = all_told before.coming (λ ps. WritesEarly (session_for M w [] ps).text e before.held
        before.held) (λ ps. early_none (session_for M w [] ps).text before.held e);
    shelf = all_told before.coming (λ ps. Stopped e (session_for M w [] ps).shelf before.cell
        before.cell) (λ ps. opening_stopped e (session_for M w [] ps).shelf before.cell before.cell
        kind (λ n. refl));
    order = λ tells. all_told before.coming (λ ps. BegunOver (session_for M w [] ps).wants []
        before.cell before.cell before.changes before.changes)
        (λ ps. over_none (session_for M w [] ps).wants [] before.cell before.cell before.changes
        before.changes (λ n. refl) refl);
    spent = all_told before.coming (λ ps. HasSpentAtMost (state_for M w ps) before.spent
        before.spent) (λ ps. spent_nothing (state_for M w ps) before.spent);
    taken = opening_takes e before.coming before.coming kind refl;
    source_opened = at_source;
    shelf_opened = at_shelf;
    source_count = source_count;
    shelf_count = shelf_count;
    out_count = counted_same (IsFailureOf D.Out e) before.out_count before.out_count refl
        (not_out e kind);
    lines = refl;
    lines_count = refl;
  }

  pub unbegun_if : (after : Scene) (r : Result Ended End) (source out : Option (List ℕ))
      (sources shelves : ℕ) → after ≡ Opened before source sources out shelves
      → IfErr r IsOpeningEnd → IsPerhapsOpened w.source before.source_opened source
      → IsPerhapsOpened w.out before.shelf_opened out
      → Caused (IsFailureOf D.Source) before.source_count sources r
      → Caused (IsFailureOf D.Shelf) before.shelf_count shelves r
      → IfErr r (λ e. Breaks M w e before after)
  unbegun_if after (Ok x) source out sources shelves is kind at_source at_shelf source_cause
      shelf_cause = tt
  unbegun_if after (Err e) source out sources shelves is kind at_source at_shelf source_cause
      shelf_cause = subst (λ s. Breaks M w e before s) (sym is)
      (unbegun e source out sources shelves kind at_source at_shelf
      (counted_of e before.source_count sources source_cause)
      (counted_of e before.shelf_count shelves shelf_cause))

-- what the shelf and the sink hold
abbrev pub outs_in : Scene → Outs
outs_in s = record { cell = s.cell; changes = s.changes; held = s.held }

-- a build over names that were listed
pub record Over {T : Type 0} (M : Meanings T) (w : Work) (names : List (List ℕ))
    (r : Result Ended End) (before after : Scene) : Type 0 where
  pub follows : IfSome before.coming (λ ps. Follows (session_for M w names ps) names r
      (outs_in before) (outs_in after))
  pub spent : IfSome before.coming (λ ps. Spends r (state_for M w ps) before.spent after.spent)
  pub taken : OnOk r (IsPassed before.coming after.coming)
  pub pictures : IfErr r (λ e. TakesEarly e before.coming after.coming)
  pub source_opened : after.source_opened ≡ before.source_opened
  pub shelf_opened : after.shelf_opened ≡ before.shelf_opened
  pub lines : after.lines ≡ before.lines
  pub lines_count : after.lines_count ≡ before.lines_count
  pub source_cause : Caused (IsFailureOf D.Source) before.source_count after.source_count r
  pub shelf_cause : Caused (IsFailureOf D.Shelf) before.shelf_count after.shelf_count r
  pub out_cause : Caused (IsFailureOf D.Out) before.out_count after.out_count r

module _ {T : Type 0} (M : Meanings T) (w : Work) (names : List (List ℕ))
    (before after : Scene) where
  -- both were opened
  abbrev pub Ready : Scene
  Ready = Opened before (Some w.source) before.source_count (Some w.out) before.shelf_count

  pub ready_by : (source out : Option (List ℕ)) (sources shelves : ℕ) → source ≡ Some w.source
      → sources ≡ before.source_count → out ≡ Some w.out → shelves ≡ before.shelf_count
      → Opened before source sources out shelves ≡ Ready
  ready_by source out sources shelves at_source same at_out kept =
      λ i. Opened before (at_source i) (same i) (at_out i) (kept i)

  pub over_from : (r : Result Ended End) (mid : Scene) → mid ≡ Ready → Over M w names r mid after
      → Over M w names r Ready after
  over_from r mid is over = subst (λ s. Over M w names r s after) is over

  pub finishes : (r : Result Ended End) → AreListed names before.cell → Over M w names r Ready after
      → IfOk r (λ how. Finishes M w how before after)
  finishes (Err e) listed over = tt
  finishes (Ok how) listed over = record {
    names = names;
    listed = listed;
    session = some_map before.coming (λ ps. Follows (session_for M w names ps) names (Ok how)
        (outs_in before) (outs_in after)) (λ ps. Finished (session_for M w names ps) how before.held
        after.held before.cell after.cell) (λ ps f. f.ok) over.follows;
    order = λ tells. some_map before.coming (λ ps. Follows (session_for M w names ps) names (Ok how)
        (outs_in before) (outs_in after)) (λ ps. MadeOver (session_for M w names ps).wants names
        before.cell after.cell before.changes after.changes) (λ ps f. f.made tells) over.follows;
    spent = over.spent;
    taken = over.taken;
    source_opened = over.source_opened;
    shelf_opened = over.shelf_opened;
    source_count = over.source_cause.done;
    shelf_count = over.shelf_cause.done;
    out_count = over.out_cause.done;
    lines = over.lines;
    lines_count = over.lines_count;
  }

  pub breaks : (r : Result Ended End) → AreListed names before.cell → Over M w names r Ready after
      → IfErr r (λ e. Breaks M w e before after)
  breaks (Ok how) listed over = tt
  breaks (Err e) listed over = record {
    names = names;
    listed = inr listed;
    text = some_map before.coming (λ ps. Follows (session_for M w names ps) names (Err e)
        (outs_in before) (outs_in after)) (λ ps. WritesEarly (session_for M w names ps).text e
        before.held after.held) (λ ps f. f.text) over.follows;
    shelf = some_map before.coming (λ ps. Follows (session_for M w names ps) names (Err e)
        (outs_in before) (outs_in after)) (λ ps. Stopped e (session_for M w names ps).shelf
        before.cell after.cell) (λ ps f. f.shelf) over.follows;
    order = λ tells. some_map before.coming (λ ps. Follows (session_for M w names ps) names (Err e)
        (outs_in before) (outs_in after)) (λ ps. BegunOver (session_for M w names ps).wants names
        before.cell after.cell before.changes after.changes) (λ ps f. f.begun tells) over.follows;
    spent = over.spent;
    taken = over.pictures;
    source_opened = inr over.source_opened;
    shelf_opened = inr over.shelf_opened;
    source_count = counted_of e before.source_count after.source_count over.source_cause;
    shelf_count = counted_of e before.shelf_count after.shelf_count over.shelf_cause;
    out_count = counted_of e before.out_count after.out_count over.out_cause;
    lines = over.lines;
    lines_count = over.lines_count;
  }
