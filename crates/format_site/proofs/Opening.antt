-- Formatting a site, from how its devices were opened and what was done over them.
use Rattle.std.proofs.Common.{◌≡◌, ℕ, List, Option, None, Some, IfErr, IfSome, inl, inr, refl, sym, subst}
use Rattle.std.specs.Prelude.{Result, Ok, Err, IfOk, OnOk, flat_map}
use Rattle.command_words.specs.declared.commands.Pair.{Pair}
use Rattle.format_site.specs.Following.{Follows}
use Rattle.format_site.specs.Formats.{BeginsPuts, Breaks, Finishes, MakesPuts, Places, Stopped, formatting_for}
use Rattle.format_site.proofs.Leaving.{stopped_none}
use Rattle.outside.specs.Causes.{Caused, Counted}
use Rattle.outside.specs.Contents.{Appends}
use Rattle.outside.specs.declared.source.MemFile.{MemFile}
use Rattle.publication.specs.Changing.{putting}
use Rattle.publication.proofs.Planning.{begun_none}
use Rattle.session.specs.declared.Ended.{Ended}
use Rattle.site_build.specs.Ends.{IsFailureOf}
use Rattle.site_build.specs.Scenes.{Scene}
use Rattle.site_build.specs.Session.{IsPassed, IsPerhapsOpened, TakesEarly, WritesEarly}
use Rattle.site_build.specs.declared.ends.Device.TheVariants as D
use Rattle.site_build.specs.declared.ends.End.{End}
use Rattle.site_build.specs.declared.ends.End.TheVariants as E
use Rattle.site_build.proofs.Ending.{early_none}
use Rattle.site_build.proofs.Finishing.{some_map}
use Rattle.site_build.proofs.Opening.{IsOpeningEnd, Opened, counted_of, counted_same, outs_in}
use Rattle.site_build.proofs.Taking.{by_shelf, by_source}

-- what holds whatever was made before of runs and steps
pub ok_for_all : {T E X : Type 0} (r : Result T E) (P : T → X → Type 0)
    → ((x : X) → IfOk r (λ t. P t x)) → IfOk r (λ t. (x : X) → P t x)
ok_for_all (Ok t) P f = f
ok_for_all (Err e) P f = tt

pub err_for_all : {T E X : Type 0} (r : Result T E) (P : E → X → Type 0)
    → ((x : X) → IfErr r (λ e. P e x)) → IfErr r (λ e. (x : X) → P e x)
err_for_all (Ok t) P f = tt
err_for_all (Err e) P f = f

all_told : (told : Option (List (List MemFile))) (P : List (List MemFile) → Type 0)
    → ((ps : List (List MemFile)) → P ps) → IfSome told P
all_told None P f = tt
all_told (Some ps) P f = f ps

opening_takes : (e : End) (old new : Option (List (List MemFile))) → IsOpeningEnd e → new ≡ old
    → TakesEarly e old new
opening_takes e old new (inl kind) same = by_source e old new kind (inl same)
opening_takes e old new (inr kind) same = by_shelf e old new kind same

not_out : (e : End) → IsOpeningEnd e → IsFailureOf D.Out e → ⊥
not_out E.Source kind is = cc
not_out E.Shelf kind is = cc
not_out (E.Publishing m) kind is = cc
not_out E.Out (inl kind) is = cc
not_out E.Out (inr kind) is = cc
not_out E.Memory kind is = cc

module _ (pair : Pair) (before : Scene) where
  -- the devices could not be opened
  unbegun : (e : End) (source out : Option (List ℕ)) (sources shelves : ℕ) → IsOpeningEnd e
      → IsPerhapsOpened pair.source before.source_opened source
      → IsPerhapsOpened pair.out before.shelf_opened out
      → Counted (IsFailureOf D.Source e) before.source_count sources
      → Counted (IsFailureOf D.Shelf e) before.shelf_count shelves
      → Breaks pair e before (Opened before source sources out shelves)
  unbegun e source out sources shelves kind at_source at_shelf source_count shelf_count = record {
    text = all_told before.coming (λ ps. WritesEarly (formatting_for ps).text e before.held
        before.held) (λ ps. early_none (formatting_for ps).text before.held e);
    shelf = all_told before.coming
        (λ ps. Stopped e (formatting_for ps).wants before.cell before.cell)
        (λ ps. stopped_none e (formatting_for ps).wants before.cell before.cell kind (λ n. refl));
    order = λ tells. all_told before.coming
        (λ ps. BeginsPuts (formatting_for ps).wants before.cell before.cell before.changes
        before.changes) (λ ps. begun_none (formatting_for ps).wants
        (flat_map (putting before.cell) (formatting_for ps).wants) before.cell before.cell
        before.changes before.changes (λ n. refl) refl);
    spent = refl;
    taken = opening_takes e before.coming before.coming kind refl;
    source_opened = at_source;
    shelf_opened = at_shelf;
    source_count = source_count;
    shelf_count = shelf_count;
    out_count = counted_same (IsFailureOf D.Out e) before.out_count before.out_count refl
        (not_out e kind);
    lines = refl;
    lines_count = refl;
  }

  pub unbegun_if : (after : Scene) (r : Result Ended End) (source out : Option (List ℕ))
      (sources shelves : ℕ) → after ≡ Opened before source sources out shelves
      → IfErr r IsOpeningEnd → IsPerhapsOpened pair.source before.source_opened source
      → IsPerhapsOpened pair.out before.shelf_opened out
      → Caused (IsFailureOf D.Source) before.source_count sources r
      → Caused (IsFailureOf D.Shelf) before.shelf_count shelves r
      → IfErr r (λ e. Breaks pair e before after)
  unbegun_if after (Ok x) source out sources shelves is kind at_source at_shelf source_cause
      shelf_cause = tt
  unbegun_if after (Err e) source out sources shelves is kind at_source at_shelf source_cause
      shelf_cause = subst (λ s. Breaks pair e before s) (sym is)
      (unbegun e source out sources shelves kind at_source at_shelf
      (counted_of e before.source_count sources source_cause)
      (counted_of e before.shelf_count shelves shelf_cause))

-- formatting over devices that are open
pub record Over (r : Result Ended End) (before after : Scene) : Type 0 where
  pub follows : IfSome before.coming
      (λ ps. Follows (formatting_for ps) r (outs_in before) (outs_in after))
  pub spent : after.spent ≡ before.spent
  pub taken : OnOk r (IsPassed before.coming after.coming)
  pub pictures : IfErr r (λ e. TakesEarly e before.coming after.coming)
  pub source_opened : after.source_opened ≡ before.source_opened
  pub shelf_opened : after.shelf_opened ≡ before.shelf_opened
  pub lines : after.lines ≡ before.lines
  pub lines_count : after.lines_count ≡ before.lines_count
  pub source_cause : Caused (IsFailureOf D.Source) before.source_count after.source_count r
  pub shelf_cause : Caused (IsFailureOf D.Shelf) before.shelf_count after.shelf_count r
  pub out_cause : Caused (IsFailureOf D.Out) before.out_count after.out_count r

module _ (pair : Pair) (before after : Scene) where
  -- both were opened
  abbrev pub Ready : Scene
  Ready = Opened before (Some pair.source) before.source_count (Some pair.out) before.shelf_count

  pub ready_by : (source out : Option (List ℕ)) (sources shelves : ℕ) → source ≡ Some pair.source
      → sources ≡ before.source_count → out ≡ Some pair.out → shelves ≡ before.shelf_count
      → Opened before source sources out shelves ≡ Ready
  ready_by source out sources shelves at_source same at_out kept = λ i. Opened before (at_source i)
      (same i) (at_out i) (kept i)

  pub over_from : (r : Result Ended End) (mid : Scene) → mid ≡ Ready → Over r mid after
      → Over r Ready after
  over_from r mid is over = subst (λ s. Over r s after) is over

  pub finishes : (r : Result Ended End) → Over r Ready after
      → IfOk r (λ how. Finishes pair how before after)
  finishes (Err e) over = tt
  finishes (Ok how) over = record {
    ended = some_map before.coming
        (λ ps. Follows (formatting_for ps) (Ok how) (outs_in before) (outs_in after))
        (λ ps. (formatting_for ps).ended ≡ how) (λ ps f. f.ok.ended) over.follows;
    text = some_map before.coming (λ ps. Follows (formatting_for ps) (Ok how) (outs_in before)
        (outs_in after)) (λ ps. Appends before.held (formatting_for ps).text after.held)
        (λ ps f. f.ok.text) over.follows;
    shelf = some_map before.coming
        (λ ps. Follows (formatting_for ps) (Ok how) (outs_in before) (outs_in after))
        (λ ps. Places (formatting_for ps).wants before.cell after.cell) (λ ps f. f.ok.shelf)
        over.follows;
    order = λ tells. some_map before.coming
        (λ ps. Follows (formatting_for ps) (Ok how) (outs_in before) (outs_in after))
        (λ ps. MakesPuts (formatting_for ps).wants before.cell after.cell before.changes
        after.changes) (λ ps f. f.made tells) over.follows;
    spent = over.spent;
    taken = over.taken;
    source_opened = over.source_opened;
    shelf_opened = over.shelf_opened;
    source_count = over.source_cause.done;
    shelf_count = over.shelf_cause.done;
    out_count = over.out_cause.done;
    lines = over.lines;
    lines_count = over.lines_count;
  }

  pub breaks : (r : Result Ended End) → Over r Ready after
      → IfErr r (λ e. Breaks pair e before after)
  breaks (Ok how) over = tt
  breaks (Err e) over = record {
    text = some_map before.coming (λ ps. Follows (formatting_for ps) (Err e) (outs_in before)
        (outs_in after)) (λ ps. WritesEarly (formatting_for ps).text e before.held after.held)
        (λ ps f. f.text) over.follows;
    shelf = some_map before.coming
        (λ ps. Follows (formatting_for ps) (Err e) (outs_in before) (outs_in after))
        (λ ps. Stopped e (formatting_for ps).wants before.cell after.cell) (λ ps f. f.shelf)
        over.follows;
    order = λ tells. some_map before.coming
        (λ ps. Follows (formatting_for ps) (Err e) (outs_in before) (outs_in after))
        (λ ps. BeginsPuts (formatting_for ps).wants before.cell after.cell before.changes
        after.changes) (λ ps f. f.begun tells) over.follows;
    spent = over.spent;
    taken = over.pictures;
    source_opened = inr over.source_opened;
    shelf_opened = inr over.shelf_opened;
    source_count = counted_of e before.source_count after.source_count over.source_cause;
    shelf_count = counted_of e before.shelf_count after.shelf_count over.shelf_cause;
    out_count = counted_of e before.out_count after.out_count over.out_cause;
    lines = over.lines;
    lines_count = over.lines_count;
  }
