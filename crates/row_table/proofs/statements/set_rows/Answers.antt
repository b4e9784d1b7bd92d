use Rattle.std.proofs.Common.{◌≡◌, ◌∷◌, ◌+◌, drop, arith, ◌∙◌}
use Rattle.std.proofs.lemmas.Grind.{common_steps}
use Rattle.keepers.specs.Keeping.{all_set}
use Rattle.row_table.proofs.Edits.{all_done}
use Rattle.row_table.proofs.statements.set_rows.Goals as goal

pub loop-row-preserved : goal.loop-row-preserved
loop-row-preserved g c =
    let here : drop c.loop-row.row-index c.args.rows.now
    ≡ c.row-item.result ∷ drop (c.loop-row.row-index + 1) c.args.rows.now =
    grind (arith, common_steps, c.row-item.is, c.loop-row-test.true) in
    let inv = c.loop-row.invariant in
    let next = all_done _ _ _ _ _ c.row-item.result (all_set c.args.rows.now) here inv.1
    c.in_ok-set_row.ensures.step inv.2 (rw (c.as_str.ensures.text, c.as_slice.ensures) at
    c.in_ok-set_row.ensures.done) in
    (c.in_ok-set_row.ensures.same_reference ∙ inv.0, next.0, next.1)
