use Rattle.std.proofs.Common.{ap, sym, subst, ◌∙◌}
use Rattle.std.specs.Prelude.{Ok, Err}
use Rattle.std.proofs.lemmas.Result.{err_from_is_err_and}
use Rattle.session.specs.declared.Ended.TheVariants.{NumbersSpent}
use Rattle.site_build.specs.Rounds.{session_at}
use Rattle.site_build.specs.Scenes.{outs}
use Rattle.site_build.specs.declared.ends.End.TheVariants as E
use Rattle.kept_build.specs.Rounds.{Follows, rows_at}
use Rattle.kept_build.proofs.Ending.{line_broken, line_done, untouched}
use Rattle.kept_build.proofs.Finishing.{follows_all}
use Rattle.kept_build.proofs.building.finish.Goals as goal

pub returns-in_err-built-in-All-clause-follows : goal.returns-in_err-built-in-All-clause-follows
returns-in_err-built-in-All-clause-follows g c = λ faithful.
    let M = g.R.Runner.meaning in
    let over = c.args.over in
    let core = c.args.works.now.engine.core in
    let r = c.from_residual.result in
    let p = err_from_is_err_and r c.from_residual.ensures.1 in
    untouched (session_at over.most over.listed.items M c.args.reached core) over.listed.items
    over.rows.items (rows_at over.most over.listed.items M c.args.reached core) r
    (outs g.H.Shelf g.O.Sink c.args.devices.now.devices.shelf c.args.devices.now.devices.out)
    (g.K.Keeper.cell c.args.devices.now.keeper) E.Memory (p.1 ∙ ap (λ x. Err x) p.2) tt

pub returns-in_ok-built-in-All-clause-follows : goal.returns-in_ok-built-in-All-clause-follows
returns-in_ok-built-in-All-clause-follows g c = λ faithful.
    let M = g.R.Runner.meaning in
    let over = c.args.over in
    let core = c.args.works.now.engine.core in
    let b = c.in_ok-built-in-All.built in
    let before =
    outs g.H.Shelf g.O.Sink c.args.devices.now.devices.shelf c.args.devices.now.devices.out in
    let after = outs g.H.Shelf g.O.Sink c.publish_built.new.devices.devices.shelf
    c.publish_built.new.devices.devices.out in
    follows_all M over.most over.listed.items b core c.args.reached c.in-All.is
    (c.in_ok-built-in-All.ensures.gives (faithful c.in-All.is)) over.rows.items
    c.publish_built.result before after (g.K.Keeper.cell c.args.devices.now.keeper)
    (g.K.Keeper.cell c.publish_built.new.devices.keeper) c.publish_built.ensures.follows

pub returns-in_err-end_with_line-in-NumbersSpent-clause-follows :
    goal.returns-in_err-end_with_line-in-NumbersSpent-clause-follows
returns-in_err-end_with_line-in-NumbersSpent-clause-follows g c = λ faithful.
    let over = c.args.over in
    let core = c.args.works.now.engine.core in
    let e = c.in_err-end_with_line-in-NumbersSpent in
    let r = c.from_residual-in_err-end_with_line-in-NumbersSpent.result in
    let p = err_from_is_err_and r c.from_residual-in_err-end_with_line-in-NumbersSpent.ensures.1 in
    let before =
    outs g.H.Shelf g.O.Sink c.args.devices.now.devices.shelf c.args.devices.now.devices.out in
    let after = outs g.H.Shelf g.O.Sink c.args.devices.now.devices.shelf c.end_with_line.new.out in
    let cell = g.K.Keeper.cell c.args.devices.now.keeper in
    subst (λ how. Follows (session_at over.most over.listed.items g.R.Runner.meaning how core)
    over.listed.items over.rows.items (rows_at over.most over.listed.items g.R.Runner.meaning
    how core) r before after cell cell) (sym c.in-NumbersSpent.is)
    (line_broken NumbersSpent over.listed.items over.rows.items before after.held cell r e.field-0.0
    (p.1 ∙ ap (λ x. Err x) p.2) e.ensures.kind e.ensures.err)

pub returns-in_ok-end_with_line-in-NumbersSpent-clause-follows :
    goal.returns-in_ok-end_with_line-in-NumbersSpent-clause-follows
returns-in_ok-end_with_line-in-NumbersSpent-clause-follows g c = λ faithful.
    let over = c.args.over in
    let core = c.args.works.now.engine.core in
    let ended = c.in_ok-end_with_line-in-NumbersSpent in
    let before =
    outs g.H.Shelf g.O.Sink c.args.devices.now.devices.shelf c.args.devices.now.devices.out in
    let after = outs g.H.Shelf g.O.Sink c.args.devices.now.devices.shelf c.end_with_line.new.out in
    let cell = g.K.Keeper.cell c.args.devices.now.keeper in
    subst (λ how. Follows (session_at over.most over.listed.items g.R.Runner.meaning how core)
    over.listed.items over.rows.items (rows_at over.most over.listed.items g.R.Runner.meaning
    how core) (Ok ended.field-0) before after cell cell) (sym c.in-NumbersSpent.is)
    (line_done NumbersSpent over.listed.items over.rows.items before after.held cell ended.field-0
    ended.ensures.ended ended.ensures.ok)
