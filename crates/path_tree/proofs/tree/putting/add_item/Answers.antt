use Rattle.std.proofs.Common.{Ok, ap, sym, ◌∙◌, arith}
use Rattle.path_tree.specs.Plain.{list}
use Rattle.path_tree.specs.Put.{put_item}
use Rattle.path_tree.specs.View.{items_of}
use Rattle.path_tree.proofs.Entries.{item_at_past}
use Rattle.path_tree.proofs.Sizes.{adds_item}
use Rattle.path_tree.proofs.Changes.{item_fits, item_new}
use Rattle.path_tree.proofs.Kept.{added_item_kept}
use Rattle.path_tree.proofs.tree.putting.add_item.Goals as goal

pub made-requires-clause-fits : goal.made-requires-clause-fits
made-requires-clause-fits c =
    let none = item_at_past c.args.list.now.items.items c.args.index c.requires.past in
    item_fits _ _ _ _ _ (adds_item c.args.index (items_of c.args.list.now.items.items) none) none
    c.requires.fits

pub returns-clause-ok : goal.returns-clause-ok
returns-clause-ok c = λ n.
    item_new c.args.terms.now c.args.value c.args.index (items_of c.args.list.now.items.items)
    (item_at_past c.args.list.now.items.items c.args.index c.requires.past) n
    ∙ ap (λ u. Ok (list (put_item c.args.index u (items_of c.args.list.now.items.items))))
    (sym c.in_ok-value.ensures.ok)
    ∙ ap (λ ts. Ok (list ts)) (sym c.in_ok-extend.ensures.ok)

pub returns-clause-kept : goal.returns-clause-kept
returns-clause-kept c =
    added_item_kept c.args.terms.now c.args.value c.args.list.now _ c.args.index c.requires.kept
    c.requires.fits c.in_ok-value.value c.in_ok-value.ensures.ok c.requires.past
    c.in_ok-extend.ensures.ok c.in_ok-value.ensures.inside
    (omega (arith, c.measure-added.ensures.size, c.args.list.now.items.ok.0))
    (omega (arith, c.max-list.ensures, c.measure-added.ensures.height))
