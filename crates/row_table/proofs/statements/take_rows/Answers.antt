use Rattle.std.proofs.Common.{◌≡◌, ◌∷◌, ◌+◌, drop, arith, ◌∙◌}
use Rattle.std.proofs.lemmas.Grind.{common_steps}
use Rattle.keepers.specs.Keeping.{all_gone}
use Rattle.row_table.proofs.Edits.{all_left}
use Rattle.row_table.proofs.statements.take_rows.Goals as goal

pub loop-name-preserved : goal.loop-name-preserved
loop-name-preserved g c =
    let here : drop c.loop-name.name-index c.args.names.now
    ≡ c.as_str.result.now ∷ drop (c.loop-name.name-index + 1) c.args.names.now =
    grind (arith, common_steps, c.name-item.is, c.loop-name-test.true, c.as_str.ensures.text) in
    let inv = c.loop-name.invariant in
    let next = all_left _ _ _ _ _ c.as_str.result.now (all_gone c.args.names.now) here inv.1
    c.in_ok-take_row.ensures.step inv.2 c.in_ok-take_row.ensures.done in
    (c.in_ok-take_row.ensures.same_reference ∙ inv.0, next.0, next.1)
