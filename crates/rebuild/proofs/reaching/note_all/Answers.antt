use Rattle.std.proofs.Common.{◌≡◌, ◌<◌, length, get_or, rules}
use Rattle.read_index.specs.Readers.{asks}
use Rattle.rebuild.proofs.Noting.{noted_next, others_next}
use Rattle.rebuild.proofs.reaching.note_all.Goals as goal

pub loop-row-preserved : goal.loop-row-preserved
loop-row-preserved g c =
    let rows = c.args.rows.now in
    let i = c.loop-row.row-index in
    let row = c.row-item.result in
    let lt : i < length rows = search rules in
    let is : row ≡ get_or rows i row = search rules in
    let old = asks c.args.index.now in
    let now = asks c.loop-row.index in
    let new = asks c.note_row.new.index in
    record {
      noted = noted_next rows i row lt is old now new c.in_ok-note_row.ensures.noted
          c.loop-row.invariant.noted;
      others = others_next rows i row c.requires lt is old now new c.in_ok-note_row.ensures.noted
          c.loop-row.invariant.others;
    }
