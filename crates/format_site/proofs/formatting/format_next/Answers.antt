use Rattle.std.proofs.Common.{subst, sym}
use Rattle.std.proofs.lemmas.Result.{err_from_is_err_and}
use Rattle.format_site.proofs.Rounds.{scanned_follows, untouched_at}
use Rattle.site_build.specs.Ends.{IsEndOf, OfSource}
use Rattle.site_build.specs.Scenes.{outs}
use Rattle.format_site.proofs.formatting.format_next.Goals as goal

pub returns-in_err-picture-clause-follows : goal.returns-in_err-picture-clause-follows
returns-in_err-picture-clause-follows g c =
    let r = c.from_residual.result in
    let p = err_from_is_err_and r c.from_residual.ensures.1 in
    untouched_at (g.S.Source.coming c.args.devices.now.source) r
    (outs g.H.Shelf g.O.Sink c.args.devices.now.shelf c.args.devices.now.out) p.0 p.1
    (subst (IsEndOf OfSource) (sym p.2) c.in_err-picture.ensures.kind)

pub returns-clause-follows : goal.returns-clause-follows
returns-clause-follows g c =
    let before = outs g.H.Shelf g.O.Sink c.args.devices.now.shelf c.args.devices.now.out in
    let after = outs g.H.Shelf g.O.Sink c.format_picture.new.shelf c.format_picture.new.out in
    scanned_follows (g.S.Source.coming c.args.devices.now.source) c.in_ok-picture.picture
    c.format_picture.result before after c.in_ok-picture.ensures.ok
    c.format_picture.ensures.follows
