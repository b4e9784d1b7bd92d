use Rattle.std.proofs.Common.{◌≡◌, ◌∷◌, ◌+◌, drop, sym, subst, arith, rules}
use Rattle.std.proofs.lemmas.Grind.{common_steps}
use Rattle.keepers.specs.Keeping.{all_gone}
use Rattle.keepers.specs.Sorted.{without}
use Rattle.keepers.proofs.Rising.{Leaves, one_gone}
use Rattle.keepers.proofs.sorted.without_all.Goals as goal

pub loop-name-preserved : goal.loop-name-preserved
loop-name-preserved c =
    let left = drop (c.loop-name.name-index + 1) c.args.names.now in
    let here : drop c.loop-name.name-index c.args.names.now ≡ c.as_str.result.now ∷ drop
    (c.loop-name.name-index + 1) c.args.names.now =
    grind (arith, common_steps, c.name-item.is, c.loop-name-test.true, c.as_str.ensures.text) in
    let is : c.in_ok-rest.rest.items ≡ without c.as_str.result.now c.loop-name.rest.items =
    search rules in
    subst (λ rows. Leaves (all_gone left) (all_gone c.args.names.now) c.args.rows.items rows)
    (sym is)
    (one_gone _ left c.as_str.result.now (all_gone c.args.names.now) c.args.rows.items
    c.loop-name.rest.items here c.loop-name.invariant)
