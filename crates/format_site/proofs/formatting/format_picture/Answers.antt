use Rattle.std.proofs.Common.{◌≡◌, List, None, Option, rules, subst, sym}
use Rattle.format_site.specs.Following.{Follows}
use Rattle.format_site.specs.Formats.{formatting_of}
use Rattle.format_site.proofs.Rounds.{too_much_follows}
use Rattle.load_path.specs.declared.picture.PictureFile.{PictureFile}
use Rattle.site_build.specs.Scenes.{outs}
use Rattle.format_site.proofs.formatting.format_picture.Goals as goal

pub returns-in_default-clause-follows : goal.returns-in_default-clause-follows
returns-in_default-clause-follows g c =
    let r = c.end_with.result in
    let before = outs g.H.Shelf g.O.Sink c.args.shelf.now c.args.out.now in
    let after = outs g.H.Shelf g.O.Sink c.args.shelf.now c.end_with.new.out in
    let none : c.args.picture ≡ None = search rules in
    let e = c.end_with.ensures in
    subst (λ (p : Option (List PictureFile)). Follows (formatting_of p) r before after) (sym none)
    (too_much_follows r before after.held e.ended e.ok e.err e.kind)
