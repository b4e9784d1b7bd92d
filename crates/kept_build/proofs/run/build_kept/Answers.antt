use Rattle.std.proofs.Common.{◌⊎◌, ap, inl, is_some}
use Rattle.std.proofs.lemmas.Result.{err_from_is_err_and}
use Rattle.engine_session.specs.Standing.{counts}
use Rattle.kept_state.specs.Stored.{stored}
use Rattle.site_build.specs.Scenes.{scene}
use Rattle.kept_build.specs.Builds.{Breaks, Unbegun}
use Rattle.kept_build.specs.Stores.{store_of}
use Rattle.kept_build.proofs.Running.{breaks, finishes, handed_on}
use Rattle.kept_build.proofs.run.build_kept.Goals as goal

pub returns-in_err-found-clause-part : goal.returns-in_err-found-clause-part
returns-in_err-found-clause-part g c =
    let r = c.from_residual.result in
    let p = err_from_is_err_and r c.from_residual.ensures.1 in
    let w = c.args.request.now.work.now in
    let file = c.args.request.now.file.now in
    let before = scene g.R.Runner g.S.Source g.H.Shelf g.N.Lines g.O.Sink c.args.works.now.runner
    c.args.devices.now.devices c.args.steps.now in
    let after = scene g.R.Runner g.S.Source g.H.Shelf g.N.Lines g.O.Sink c.args.works.now.runner
    c.open.new.devices.devices c.args.steps.now in
    let store = store_of g.K.Keeper c.args.devices.now.keeper in
    let store_now = store_of g.K.Keeper c.open.new.devices.keeper in
    handed_on (λ e. Unbegun w file e before after store store_now ⊎ Breaks g.R.Runner.meaning w file
    e before after store store_now) r c.in_err-found.field-0.0 p.0 p.1 p.2
    (inl (c.in_err-found.ensures.part before.spent))

pub build_found-requires-clause-source_open : goal.build_found-requires-clause-source_open
build_found-requires-clause-source_open g c =
    ap (λ s. is_some s.source_opened) (c.in_ok-found.ensures.ok (counts 0 0)).scene

pub build_found-requires-clause-shelf_open : goal.build_found-requires-clause-shelf_open
build_found-requires-clause-shelf_open g c =
    ap (λ s. is_some s.shelf_opened) (c.in_ok-found.ensures.ok (counts 0 0)).scene

pub build_found-requires-clause-store_open : goal.build_found-requires-clause-store_open
build_found-requires-clause-store_open g c =
    ap is_some (c.in_ok-found.ensures.ok (counts 0 0)).store_opened

pub build_found-requires-clause-rising : goal.build_found-requires-clause-rising
build_found-requires-clause-rising g c = (c.in_ok-found.ensures.ok (counts 0 0)).loaded.listed.rise

pub returns-clause-ok : goal.returns-clause-ok
returns-clause-ok g c =
    let steps = c.args.steps.now in
    let runner = c.args.works.now.runner in
    let found = c.in_ok-found.found in
    let before =
    scene g.R.Runner g.S.Source g.H.Shelf g.N.Lines g.O.Sink runner c.args.devices.now.devices
    steps in
    let mid =
    scene g.R.Runner g.S.Source g.H.Shelf g.N.Lines g.O.Sink runner c.open.new.devices.devices
    steps in
    let after =
    scene g.R.Runner g.S.Source g.H.Shelf g.N.Lines g.O.Sink c.build_found.new.works.runner
    c.build_found.new.devices.devices c.build_found.new.steps in
    let built = c.build_found.ensures in
    finishes g.R.Runner.meaning c.args.request.now.work.now c.args.request.now.file.now
    found.listed.items found.rows.items (stored found.kept) before mid after
    (store_of g.K.Keeper c.args.devices.now.keeper) (store_of g.K.Keeper c.open.new.devices.keeper)
    (store_of g.K.Keeper c.build_found.new.devices.keeper)
    (c.in_ok-found.ensures.ok before.spent) built.source_opened built.shelf_opened
    built.store_opened c.build_found.result built.ok

pub returns-clause-part : goal.returns-clause-part
returns-clause-part g c =
    let steps = c.args.steps.now in
    let runner = c.args.works.now.runner in
    let found = c.in_ok-found.found in
    let before =
    scene g.R.Runner g.S.Source g.H.Shelf g.N.Lines g.O.Sink runner c.args.devices.now.devices
    steps in
    let mid =
    scene g.R.Runner g.S.Source g.H.Shelf g.N.Lines g.O.Sink runner c.open.new.devices.devices
    steps in
    let after =
    scene g.R.Runner g.S.Source g.H.Shelf g.N.Lines g.O.Sink c.build_found.new.works.runner
    c.build_found.new.devices.devices c.build_found.new.steps in
    let built = c.build_found.ensures in
    breaks g.R.Runner.meaning c.args.request.now.work.now c.args.request.now.file.now
    found.listed.items found.rows.items (stored found.kept) before mid after
    (store_of g.K.Keeper c.args.devices.now.keeper) (store_of g.K.Keeper c.open.new.devices.keeper)
    (store_of g.K.Keeper c.build_found.new.devices.keeper)
    (c.in_ok-found.ensures.ok before.spent) built.source_opened built.shelf_opened
    built.store_opened c.build_found.result built.part
