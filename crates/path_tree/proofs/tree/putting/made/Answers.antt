use Rattle.std.proofs.Common.{◌≡◌, ◌-◌, get_or, subst, arith}
use Rattle.path_tree.specs.declared.path.Term.TheVariants as term
use Rattle.path_tree.proofs.Made.{fits_at}
use Rattle.path_tree.proofs.tree.putting.made.Goals as goal

pub one_field-requires-clause-fits : goal.one_field-requires-clause-fits
one_field-requires-clause-fits c =
    fits_at c.args.terms.now (c.loop-i.i - 1) c.loop-i.i (term.Key c.in-Key.key) c.args.value
    c.loop-i.tree (omega arith) c.loop-i.invariant.within
    (subst (λ m. m ≡ get_or c.args.terms.now (c.loop-i.i - 1) m) c.in-Key.is c.index-terms-i.is)
    c.loop-i.invariant.made c.requires.fits

pub one_item-requires-clause-fits : goal.one_item-requires-clause-fits
one_item-requires-clause-fits c =
    fits_at c.args.terms.now (c.loop-i.i - 1) c.loop-i.i (term.Index c.in-Index.index) c.args.value
    c.loop-i.tree (omega arith) c.loop-i.invariant.within
    (subst (λ m. m ≡ get_or c.args.terms.now (c.loop-i.i - 1) m) c.in-Index.is c.index-terms-i.is)
    c.loop-i.invariant.made c.requires.fits
