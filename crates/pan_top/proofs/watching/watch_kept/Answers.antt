use Rattle.std.proofs.Common.{◌≡◌, ℕ, List, ap, inl, inr, is_some, refl, subst, sym}
use Rattle.engine_session.specs.Standing.{IsBegun, counts}
use Rattle.kept_build.specs.Builds.{Opens}
use Rattle.kept_build.specs.Kept.{IsSoundStart, begun_for}
use Rattle.kept_build.specs.declared.ends.End.TheVariants as K
use Rattle.kept_state.specs.Stored.{stored}
use Rattle.outside.specs.Cells.{Cell}
use Rattle.publication.specs.Listings.{Lists}
use Rattle.publication.specs.Published.{Knows}
use Rattle.row_changes.specs.Stores.{store_of}
use Rattle.watch.specs.Played.{HasNames}
use Rattle.site_build.specs.Scenes.{scene}
use Rattle.site_build.specs.declared.ends.End.TheVariants as E
use Rattle.call_status.specs.declared.status.Status.TheVariants as S
use Rattle.pan_top.proofs.Counting.{counted_same}
use Rattle.pan_top.proofs.KeptEnds.{out_counted}
use Rattle.pan_top.proofs.Watched.{memory_wrote, opened_only, plays}
use Rattle.pan_top.proofs.watching.watch_kept.Goals as goal

-- the devices could not be opened, or the rows not be read
pub returns-in-Err : goal.returns-in-Err
returns-in-Err g c =
    let M = g.R.Runner.meaning in
    let w = c.args.request.now.work.now in
    let file = c.args.request.now.file.now in
    let before = scene g.R.Runner g.S.Source g.H.Shelf g.N.Lines g.O.Sink c.args.works.runner
    c.args.devices.devices c.args.steps.now in
    let mid = scene g.R.Runner g.S.Source g.H.Shelf g.N.Lines g.O.Sink c.args.works.runner
    c.open.new.devices.devices c.args.steps.now in
    let unbegun = c.in-Err.ensures.part before.spent in
    rw (
      c.hand_back_kept.ensures.status,
      c.hand_back_kept.ensures.works,
      c.hand_back_kept.ensures.devices,
      c.hand_back_kept.ensures.keeper,
    ) (inr (record {
      end = c.in-Err.end;
      mid = mid;
      unbegun = unbegun;
      closes = c.close_kept-status.ensures.closes;
      only = refl;
      out_count = c.close_kept-status.ensures.count before.out_count
          (out_counted M w file c.in-Err.end before mid
          (store_of g.K.Keeper c.args.devices.keeper)
          (store_of g.K.Keeper c.open.new.devices.keeper) (inl unbegun));
    }))

-- memory was wanting before the first line
pub returns-in_default : goal.returns-in_default
returns-in_default g c =
    let w = c.args.request.now.work.now in
    let file = c.args.request.now.file.now in
    let before = scene g.R.Runner g.S.Source g.H.Shelf g.N.Lines g.O.Sink c.args.works.runner
    c.args.devices.devices c.args.steps.now in
    let mid = scene g.R.Runner g.S.Source g.H.Shelf g.N.Lines g.O.Sink c.go_on.new.works.runner
    c.open.new.devices.devices c.args.steps.now in
    let store = store_of g.K.Keeper c.args.devices.keeper in
    let read = store_of g.K.Keeper c.open.new.devices.keeper in
    let opens : Opens w file c.in-Ok.found.listed.items c.in-Ok.found.rows.items
    (stored c.in-Ok.found.kept) before mid store read =
    subst (λ spent. Opens w file c.in-Ok.found.listed.items c.in-Ok.found.rows.items
    (stored c.in-Ok.found.kept) before (record mid { spent = spent }) store read)
    (ap (λ n. counts n c.args.steps.now) (sym c.go_on.ensures.runs))
    (c.in-Ok.ensures.ok before.spent) in
    rw (
      c.hand_back_kept-in_default.ensures.status,
      c.hand_back_kept-in_default.ensures.works,
      c.hand_back_kept-in_default.ensures.devices,
      c.hand_back_kept-in_default.ensures.keeper,
    ) (inr (record {
      end = K.Build E.Memory;
      mid = mid;
      unbegun = opened_only w file c.in-Ok.found.listed.items c.in-Ok.found.rows.items
          (stored c.in-Ok.found.kept) before mid store read opens;
      closes = memory_wrote mid.held;
      only = refl;
      out_count = counted_same (S.Memory ≡ S.OutFault) _ _
          (ap (λ s. s.out_count) opens.scene) (λ is. cc);
    }))

-- the lines were played
pub returns : goal.returns
returns g c =
    let M = g.R.Runner.meaning in
    let w = c.args.request.now.work.now in
    let file = c.args.request.now.file.now in
    let found = c.in-Ok.found in
    let before = scene g.R.Runner g.S.Source g.H.Shelf g.N.Lines g.O.Sink c.args.works.runner
    c.args.devices.devices c.args.steps.now in
    let mid = scene g.R.Runner g.S.Source g.H.Shelf g.N.Lines g.O.Sink c.go_on.new.works.runner
    c.open.new.devices.devices c.args.steps.now in
    let after = scene g.R.Runner g.S.Source g.H.Shelf g.N.Lines g.O.Sink
    c.play_all.result.works.runner
    c.play_all.result.devices c.play_all.new.steps in
    let store = store_of g.K.Keeper c.args.devices.keeper in
    let read = store_of g.K.Keeper c.open.new.devices.keeper in
    let opens : Opens w file found.listed.items found.rows.items (stored found.kept) before mid
    store read = subst (λ spent. Opens w file found.listed.items found.rows.items
    (stored found.kept) before (record mid { spent = spent }) store read)
    (ap (λ n. counts n c.args.steps.now) (sym c.go_on.ensures.runs))
    (c.in-Ok.ensures.ok before.spent) in
    inl (record {
      names = found.listed.items;
      last = found.rows.items;
      found = stored found.kept;
      mid = mid;
      read = read;
      opens = opens;
      plays = plays M w (IsBegun M c.go_on.new.works) (IsSoundStart M w (stored found.kept))
          (λ sound. c.in-Ok-go_on.ensures.begun sound) _ (begun_for w (stored found.kept))
          found.listed.items c.in-Ok-go_on.ensures.at refl (subst (HasNames
          c.in-Ok-go_on.publisher) c.deref.ensures.value c.in-Ok-go_on.ensures.names) mid after
          read (store_of g.K.Keeper c.play_all.result.keeper) opens.loaded.listed
          c.play_all.result.status c.in-Ok-go_on.ensures.most
          (ap (λ s. s.source_opened) opens.scene) (ap (λ s. s.shelf_opened) opens.scene)
          c.play_all.ensures;
    })

pub play_all-requires-clause-source_open : goal.play_all-requires-clause-source_open
play_all-requires-clause-source_open g c =
    ap (λ s. is_some s.source_opened) (c.in-Ok.ensures.ok (counts 0 0)).scene

pub play_all-requires-clause-shelf_open : goal.play_all-requires-clause-shelf_open
play_all-requires-clause-shelf_open g c =
    ap (λ s. is_some s.shelf_opened) (c.in-Ok.ensures.ok (counts 0 0)).scene

pub play_all-requires-clause-store_open : goal.play_all-requires-clause-store_open
play_all-requires-clause-store_open g c =
    ap is_some (c.in-Ok.ensures.ok (counts 0 0)).store_opened

pub play_all-requires-clause-knows : goal.play_all-requires-clause-knows
play_all-requires-clause-knows g c =
    subst (λ names. (cell : List ℕ → Cell) → Lists names cell → Knows c.in-Ok-go_on.publisher cell)
    c.deref.ensures.value c.in-Ok-go_on.ensures.knows _ c.in-Ok.ensures.listed

pub play_all-requires-clause-rising : goal.play_all-requires-clause-rising
play_all-requires-clause-rising g c =
    (c.in-Ok.ensures.ok (counts 0 0)).loaded.listed.rise
