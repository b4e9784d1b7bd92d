use Rattle.std.proofs.Common.{sym, subst}
use Rattle.std.proofs.lemmas.Result.{err_from_is_err_and}
use Rattle.site_build.specs.Ends.{IsEndOf, OfSource}
use Rattle.site_build.specs.Rounds.{Follows, session_at}
use Rattle.site_build.specs.Scenes.{outs}
use Rattle.site_build.specs.Session.{Session}
use Rattle.session.specs.declared.Ended.TheVariants.{NumbersSpent, TooMuch}
use Rattle.site_build.proofs.Ending.{given_is}
use Rattle.site_build.proofs.Following.{line_follows, untouched_follows}
use Rattle.site_build.proofs.building.finish.Goals as goal

pub returns-in_err-built-in-All-clause-follows : goal.returns-in_err-built-in-All-clause-follows
returns-in_err-built-in-All-clause-follows g c = λ f.
    let r = c.from_residual.result in
    let p = err_from_is_err_and r c.from_residual.ensures.1 in
    untouched_follows (session_at c.args.most c.args.listed.now g.R.Runner.meaning c.args.reached
    c.args.works.now.engine.core) c.args.listed.now r
    (outs g.H.Shelf g.O.Sink c.args.devices.now.shelf c.args.devices.now.out) p.0 p.1
    (subst (IsEndOf OfSource) (sym p.2) tt)

pub returns-in_ok-built-in-All-clause-follows : goal.returns-in_ok-built-in-All-clause-follows
returns-in_ok-built-in-All-clause-follows g c = λ f.
    subst (λ (s : Session). Follows s c.args.listed.now c.publish_built.result
    (outs g.H.Shelf g.O.Sink c.args.devices.now.shelf c.args.devices.now.out)
    (outs g.H.Shelf g.O.Sink c.publish_built.new.shelf c.publish_built.new.out))
    (given_is g.R.Runner.meaning c.args.most c.args.listed.now c.in_ok-built-in-All.built
    c.args.works.now.engine.core c.args.reached c.in-All.is
    (c.in_ok-built-in-All.ensures.gives (f c.in-All.is))) c.publish_built.ensures.follows

pub returns-in-NumbersSpent-clause-follows : goal.returns-in-NumbersSpent-clause-follows
returns-in-NumbersSpent-clause-follows g c = λ f.
    let e = c.end_with_line.ensures in
    let before = outs g.H.Shelf g.O.Sink c.args.devices.now.shelf c.args.devices.now.out in
    let after = outs g.H.Shelf g.O.Sink c.args.devices.now.shelf c.end_with_line.new.out in
    subst (λ how. Follows (session_at c.args.most c.args.listed.now g.R.Runner.meaning how
    c.args.works.now.engine.core) c.args.listed.now c.end_with_line.result before after)
    (sym c.in-NumbersSpent.is) (line_follows NumbersSpent c.args.listed.now
    c.end_with_line.result before after.held e.ended e.ok e.err e.kind)

pub returns-in-TooMuch-clause-follows : goal.returns-in-TooMuch-clause-follows
returns-in-TooMuch-clause-follows g c = λ f.
    let e = c.end_with_line-in-TooMuch.ensures in
    let before = outs g.H.Shelf g.O.Sink c.args.devices.now.shelf c.args.devices.now.out in
    let after = outs g.H.Shelf g.O.Sink c.args.devices.now.shelf c.end_with_line-in-TooMuch.new.out
    in
    subst (λ how. Follows (session_at c.args.most c.args.listed.now g.R.Runner.meaning how
    c.args.works.now.engine.core) c.args.listed.now c.end_with_line-in-TooMuch.result before
    after) (sym c.in-TooMuch.is) (line_follows TooMuch c.args.listed.now
    c.end_with_line-in-TooMuch.result before after.held e.ended e.ok e.err e.kind)
