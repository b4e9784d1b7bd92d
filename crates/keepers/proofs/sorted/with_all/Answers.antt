use Rattle.std.proofs.Common.{◌≡◌, ◌∷◌, ◌+◌, drop, sym, subst, arith, rules}
use Rattle.std.proofs.lemmas.Grind.{common_steps}
use Rattle.keepers.specs.Keeping.{all_set}
use Rattle.keepers.specs.Sorted.{with_row}
use Rattle.keepers.proofs.Rising.{Leaves, one_set}
use Rattle.keepers.proofs.sorted.with_all.Goals as goal

pub loop-row-preserved : goal.loop-row-preserved
loop-row-preserved c =
    let left = drop (c.loop-row.row-index + 1) c.args.set.now in
    let here : drop c.loop-row.row-index c.args.set.now ≡ c.row-item.result ∷ drop
    (c.loop-row.row-index + 1) c.args.set.now =
    grind (arith, common_steps, c.row-item.is, c.loop-row-test.true) in
    let is : c.in_ok-next.next.items ≡ with_row c.row-item.result c.loop-row.next.items =
    search rules in
    subst (λ rows. Leaves (all_set left) (all_set c.args.set.now) c.args.rows.items rows) (sym is)
    (one_set _ left c.row-item.result (all_set c.args.set.now) c.args.rows.items
    c.loop-row.next.items here c.loop-row.invariant)
