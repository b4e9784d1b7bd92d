use Rattle.std.proofs.Common.{Some, sym, ap, subst, ◌∙◌, arith}
use Rattle.path_tree.specs.Kept.{CanWalk, Walks}
use Rattle.path_tree.proofs.Taking.{can_take, taken}
use Rattle.path_tree.proofs.tree.Tree.take.Goals as goal

pub put_in-requires-clause-fits : goal.put_in-requires-clause-fits
put_in-requires-clause-fits c =
    let size = c.measure-measure.ensures in
    subst (λ v. CanWalk c.args.terms.now v c.args.self.now) (sym c.undef.ensures)
    (can_take c.args.terms.now c.args.self.now _ (omega (arith, size.size, size.small))
    (omega (arith, size.height, size.flat)) (sym c.in-Some.ensures.value))

pub returns-clause-taken : goal.returns-clause-taken
returns-clause-taken c =
    let size = c.measure-measure.ensures in (
      sym c.in-Some.ensures.value ∙ ap Some (sym c.in_ok-found.ensures),
      taken c.args.terms.now c.args.self.now _ (omega (arith, size.size, size.small))
          (omega (arith, size.height, size.flat)) (sym c.in-Some.ensures.value) c.put_in.new.tree
          (subst (λ v. Walks c.args.terms.now v c.args.self.now c.put_in.new.tree) c.undef.ensures
          c.in_ok-put_in.ensures.ok),
    )
