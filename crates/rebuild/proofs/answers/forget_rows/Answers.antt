use Rattle.std.proofs.Common.{◌≡◌, ◌<◌, length, get_or, ap, arith}
use Rattle.std.proofs.lemmas.List.Edits.{map_over_more}
use Rattle.engine_turns.specs.Changes.{forgotten_row}
use Rattle.rebuild.proofs.answers.forget_rows.Goals as goal

pub loop-row-preserved : goal.loop-row-preserved
loop-row-preserved g c =
    let all = c.deref_mut-row-items.ensures.value in
    let l = c.loop-row in
    let kept = ap length all in
    let within : l.row-index < length c.args.rows.now.items = omega (arith, kept) in
    let row = get_or l.row-items l.row-index c.row-item.result in
    let same : row ≡ get_or l.row-items l.row-index row =
    ap (get_or l.row-items l.row-index) c.row-item.is in
    map_over_more forgotten_row c.args.rows.now.items l.row-items l.row-index row within l.invariant
    same
