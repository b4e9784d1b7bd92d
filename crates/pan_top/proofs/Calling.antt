-- The call of a command, and want of memory before the words were read.
use Rattle.std.proofs.Common.{◌≡◌, ℕ, List, [], Option, Some, None, inl, inr, refl, subst, codes}
use Rattle.std.specs.Prelude.{flat_map, option_map}
use Rattle.command_words.specs.declared.commands.Command.{Command}
use Rattle.command_words.specs.declared.commands.Command.TheVariants.{Build, Watch, Demo, Format}
use Rattle.engine_session.specs.Standing.{Counts}
use Rattle.format_site.specs.Formats as formats
use Rattle.format_site.specs.Formats.{formatting_for, BeginsPuts}
use Rattle.rebuild.specs.Engines.{Meanings}
use Rattle.session.specs.Sessions.{state_in}
use Rattle.site_build.specs.Ends.{IsFailureOf, Stopped}
use Rattle.site_build.specs.declared.ends.Device.TheVariants as D
use Rattle.publication.specs.Changing.{BegunOver, putting}
use Rattle.publication.proofs.Planning.{begun_none}
use Rattle.site_build.specs.Session.{session_for, state_for}
use Rattle.site_build.specs.declared.ends.End.TheVariants as E
use Rattle.site_build.proofs.Ending.{none_of}
use Rattle.site_build.proofs.Publishing.{over_none}
use Rattle.site_build.proofs.Settling.{if_told, spent_nothing}
use Rattle.publication.specs.Stands.{Stand}
use Rattle.outside.specs.Causes.{Counted}
use Rattle.outside.specs.Cells.{Cell}
use Rattle.pan_top.specs.Builds.{Wrote}
use Rattle.command_words.specs.Commands.{command_of}
use Rattle.command_words.specs.declared.commands.Work.{Work}
use Rattle.keepers.specs.Keeping.{Follows, unchanged}
use Rattle.kept_build.specs.Ends.{IsFailure, IsKeeperFailure}
use Rattle.kept_build.specs.Builds.{Unbegun}
use Rattle.row_changes.specs.Stores.{Store}
use Rattle.kept_build.specs.declared.ends.End.TheVariants as K
use Rattle.pan_top.specs.Calls.{CallBy, CallOf, PlainCall}
use Rattle.pan_top.specs.KeptBuilds.{KeptCall}
use Rattle.pan_top.specs.KeptWatches.{KeptWatchCall}
use Rattle.pan_top.specs.Demos.{shown_by, text_after}
use Rattle.site_build.specs.Scenes.{Scene}
use Rattle.call_status.specs.declared.status.Status.{Status}
use Rattle.call_status.specs.declared.status.Status.TheVariants as S
use Rattle.pan_top.proofs.Counting.{counted_same}
use Rattle.pan_top.proofs.Watched.{memory_wrote}

uncounted : (n : ℕ) → Counted (S.Memory ≡ S.OutFault) n n
uncounted n = counted_same (S.Memory ≡ S.OutFault) n n refl (λ is. cc)

still : (shelf : List ℕ → Stand) (cell : List ℕ → Cell) → Stopped E.Memory shelf cell cell
still shelf cell = ([], record { others = λ n other. refl; own = λ n closed. inl refl })

pub nothing_done : {T : Type 0} (M : Meanings T) (command : Option Command) (s : Scene)
    (store : Store) → PlainCall M command S.Memory s s store
nothing_done M None s store =
    record {
      only = refl;
      spent = refl;
      line =
          inr (inr refl, none_of (codes "usage fault\n") s.held);
      out_count = uncounted s.out_count;
    }
nothing_done M (Some (Build w)) s store = record {
  session = inr (record {
    end = E.Memory;
    is = inl refl;
    names = [];
    listed = inl (refl, λ n. refl);
    text = if_told (λ ps. Wrote (session_for M w [] ps).text E.Memory S.Memory s.held s.held)
        s.coming (λ ps told. (refl, none_of (session_for M w [] ps).text s.held));
    shelf = if_told (λ ps. Stopped E.Memory (session_for M w [] ps).shelf s.cell s.cell) s.coming
        (λ ps told. still (session_for M w [] ps).shelf s.cell);
    order = λ tells. if_told (λ ps. BegunOver (session_for M w [] ps).wants [] s.cell s.cell
        s.changes s.changes) s.coming (λ ps told. over_none (session_for M w [] ps).wants [] s.cell
        s.cell s.changes s.changes (λ n. refl) refl);
    spent = if_told _ s.coming (λ ps told. spent_nothing (state_for M w ps) s.spent);
    taken = inl refl;
    source_opened = inl refl;
    shelf_opened = inl refl;
    source_count = counted_same (IsFailureOf D.Source E.Memory) s.source_count s.source_count refl
        (λ is. cc);
    shelf_count = counted_same (IsFailureOf D.Shelf E.Memory) s.shelf_count s.shelf_count refl
        (λ is. cc);
    out_count = uncounted s.out_count;
  });
  lines = refl;
  lines_count = refl;
}
nothing_done M (Some (Watch w)) s store = inr (record {
  end = E.Memory;
  opening = tt;
  text = memory_wrote s.held;
  coming = refl;
  lines = refl;
  lines_count = refl;
  shelf = λ n. refl;
  changes = refl;
  spent = refl;
  source_opened = inl refl;
  shelf_opened = inl refl;
  source_count = counted_same (IsFailureOf D.Source E.Memory) s.source_count s.source_count refl
      (λ is. cc);
  shelf_count = counted_same (IsFailureOf D.Shelf E.Memory) s.shelf_count s.shelf_count refl
      (λ is. cc);
  out_count = uncounted s.out_count;
})
nothing_done M (Some (Demo d)) s store =
    record {
      only = refl;
      shows =
          inr (
            inr refl,
            none_of (text_after (shown_by M d)) s.held,
            spent_nothing
                (state_in (shown_by M d)) s.spent,
          );
      out_count = uncounted s.out_count;
    }
nothing_done M (Some (Format p)) s store = inr (record {
  end = E.Memory;
  is = inl refl;
  text = if_told (λ ps. Wrote (formatting_for ps).text E.Memory S.Memory s.held s.held) s.coming
      (λ ps told. (refl, none_of (formatting_for ps).text s.held));
  shelf = if_told (λ ps. formats.Stopped E.Memory (formatting_for ps).wants s.cell s.cell) s.coming
      (λ ps told. ([], record { each = λ n closed. inl refl }));
  order = λ tells. if_told (λ ps. BeginsPuts (formatting_for ps).wants s.cell s.cell s.changes
      s.changes) s.coming (λ ps told. begun_none (formatting_for ps).wants
      (flat_map (putting s.cell) (formatting_for ps).wants) s.cell s.cell s.changes s.changes
      (λ n. refl) refl);
  spent = refl;
  taken = inl refl;
  source_opened = inl refl;
  shelf_opened = inl refl;
  source_count = counted_same (IsFailureOf D.Source E.Memory) s.source_count s.source_count refl
      (λ is. cc);
  shelf_count = counted_same (IsFailureOf D.Shelf E.Memory) s.shelf_count s.shelf_count refl
      (λ is. cc);
  out_count = uncounted s.out_count;
  lines = refl;
  lines_count = refl;
})

-- what a keeper tells is as it was
unchanged_cell : (cell : List ℕ → Cell) → Follows unchanged cell cell
unchanged_cell cell n = inr (same (cell n))
  where
    same : (c : Cell) → c ≡ option_map (unchanged n) c
    same None = refl
    same (Some content) = refl

-- .. nor anything before a build or a watcher with a keeper began
not_begun : (w : Work) (file : List ℕ) (s : Scene) (store : Store)
    → Unbegun w file (K.Build E.Memory) s s store store
not_begun w file s store = record {
  opening = tt;
  bad = λ is. cc;
  held = refl;
  coming = refl;
  shelf = λ n. refl;
  changes = refl;
  spent = refl;
  rows = unchanged_cell store.cell;
  source_opened = inl refl;
  shelf_opened = inl refl;
  store_opened = inl refl;
  source_count = counted_same (IsFailure D.Source (K.Build E.Memory)) s.source_count s.source_count
      refl (λ is. cc);
  shelf_count = counted_same (IsFailure D.Shelf (K.Build E.Memory)) s.shelf_count s.shelf_count
      refl (λ is. cc);
  out_count = refl;
  store_count = counted_same (IsKeeperFailure (K.Build E.Memory)) store.count store.count refl
      (λ is. is);
  lines = refl;
  lines_count = refl;
}

nothing_kept : {T : Type 0} (M : Meanings T) (w : Work) (file : List ℕ) (s : Scene) (store : Store)
    → KeptCall M w file S.Memory s s store store
nothing_kept M w file s store = inr (record {
  end = K.Build E.Memory;
  is = inl refl;
  mid = s;
  broke = inl (not_begun w file s store);
  closes = (refl, none_of [] s.held);
  only = refl;
  out_count = uncounted s.out_count;
})

nothing_watched : {T : Type 0} (M : Meanings T) (w : Work) (file : List ℕ) (s : Scene)
    (store : Store) → KeptWatchCall M w file S.Memory s s store store
nothing_watched M w file s store = inr (record {
  end = K.Build E.Memory;
  mid = s;
  unbegun = not_begun w file s store;
  closes = (refl, none_of [] s.held);
  only = refl;
  out_count = uncounted s.out_count;
})

-- nothing was done by a call, whatever the command
pub nothing_called : {T : Type 0} (M : Meanings T) (command : Option Command) (s : Scene)
    (store : Store) → CallOf M command S.Memory s s store store
nothing_called M None s store = (nothing_done M None s store, refl)
nothing_called M (Some (Build w)) s store = by w.state
  where
    by : (file : Option (List ℕ)) → CallBy M (Some (Build w)) file S.Memory s s store store
    by None = (nothing_done M (Some (Build w)) s store, refl)
    by (Some file) = nothing_kept M w file s store
nothing_called M (Some (Watch w)) s store = by w.state
  where
    by : (file : Option (List ℕ)) → CallBy M (Some (Watch w)) file S.Memory s s store store
    by None = (nothing_done M (Some (Watch w)) s store, refl)
    by (Some file) = nothing_watched M w file s store
nothing_called M (Some (Demo d)) s store = (nothing_done M (Some (Demo d)) s store, refl)
nothing_called M (Some (Format p)) s store = (nothing_done M (Some (Format p)) s store, refl)

-- the call of the command that the words are, by a runner that has made as many runs
pub called : {T : Type 0} (M : Meanings T) (words : List (List ℕ)) (command : Option Command)
    (status : Status) (before after : Scene) (spent : Counts) (store store_now : Store)
    → command ≡ command_of words → spent ≡ before.spent
    → CallOf M command status (record before { spent = spent }) after store store_now
    → CallOf M (command_of words) status before after store store_now
called M words command status before after spent store store_now is same call =
    subst (λ command. CallOf M command status before after store store_now) is
    (subst (λ s. CallOf M command status (record before { spent = s }) after store store_now) same
    call)
