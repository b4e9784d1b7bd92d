use Rattle.std.proofs.Common.{sym, subst, ap, ◌∙◌, arith}
use Rattle.path_tree.specs.Put.{put_item}
use Rattle.path_tree.specs.View.{IsList, items_of}
use Rattle.path_tree.proofs.Kept.{one_item_kept}
use Rattle.path_tree.proofs.tree.lists.one_item.Goals as goal

pub invariant_of-result : goal.invariant_of-result
invariant_of-result c =
    subst IsList (sym c.in_ok-new.ensures.ok)
    (one_item_kept _ c.args.index c.args.value
    (c.in_ok-extend.ensures.ok ∙ ap (λ ts. put_item c.args.index c.args.value (items_of ts))
    c.new-items.ensures.items)
    c.requires.fits c.requires.inside (omega (arith, c.size.ensures.size))
    (omega (arith, c.height-height.ensures.height)))
