use Rattle.std.proofs.Common.{◌≡◌, List, subst, sym}
use Rattle.std.specs.Prelude.{IfOk, OnErr, OnOk}
use Rattle.std.proofs.lemmas.Result.{err_from_is_err_and}
use Rattle.outside.specs.Contents.{Appends, AppendsPart}
use Rattle.publication.specs.declared.want.Want.{Want}
use Rattle.format_site.specs.Following.{given_by}
use Rattle.format_site.specs.Formats.{BeginsPuts, MakesPuts, Places, Stopped}
use Rattle.format_site.proofs.Rounds.{broken_follows, told_follows}
use Rattle.site_build.specs.Scenes.{outs}
use Rattle.site_build.specs.Session.{WritesEarly}
use Rattle.site_build.proofs.Ending.{quiet}
use Rattle.format_site.proofs.formatting.put_and_report.Goals as goal

pub returns-in_err-put_files-clause-follows : goal.returns-in_err-put_files-clause-follows
returns-in_err-put_files-clause-follows g c =
    let r = c.from_residual.result in
    let p = err_from_is_err_and r c.from_residual.ensures.1 in
    let f = given_by c.args.made.now in
    let before = outs g.H.Shelf g.O.Sink c.args.shelf.now c.args.out.now in
    let after = outs g.H.Shelf g.O.Sink c.put_files.new.shelf c.args.out.now in
    let e = c.in_err-put_files.field-0.0 in
    broken_follows f r before after p.0 p.1
    (subst (λ x. WritesEarly f.text x before.held before.held) (sym p.2)
    (quiet f.text before.held e c.in_err-put_files.ensures.kind))
    (subst (λ x. Stopped x f.wants before.cell after.cell) (sym p.2)
    (subst (λ (ws : List Want). Stopped e ws before.cell after.cell) c.deref.ensures.value
    c.in_err-put_files.ensures.err))
    (λ told. subst (λ (ws : List Want). BeginsPuts ws before.cell after.cell before.changes
    after.changes) c.deref.ensures.value (c.in_err-put_files.ensures.begun told))

pub returns-clause-follows : goal.returns-clause-follows
returns-clause-follows g c =
    let r = c.end_with.result in
    let f = given_by c.args.made.now in
    let before = outs g.H.Shelf g.O.Sink c.args.shelf.now c.args.out.now in
    let after = outs g.H.Shelf g.O.Sink c.put_files.new.shelf c.end_with.new.out in
    told_follows f r before after
    (subst (λ (ws : List Want). Places ws before.cell after.cell) c.deref.ensures.value
    c.in_ok-put_files.ensures.ok)
    (λ told. subst (λ (ws : List Want). MakesPuts ws before.cell after.cell before.changes
    after.changes) c.deref.ensures.value (c.in_ok-put_files.ensures.made told))
    (subst (λ how. IfOk r (λ x. x ≡ how)) c.ended_by.ensures c.end_with.ensures.ended)
    (subst (λ text. OnOk r (Appends before.held text after.held)) c.deref-2.ensures.value
    c.end_with.ensures.ok)
    (subst (λ text. OnErr r (AppendsPart before.held text after.held)) c.deref-2.ensures.value
    c.end_with.ensures.err)
    c.end_with.ensures.kind
