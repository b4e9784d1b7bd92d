use Rattle.std.proofs.Common.{rules, ◌≡◌, map, sym, ◌∙◌}
use Rattle.sqlite.specs.Held.{state}
use Rattle.stored_rows.specs.Rows.{row_name, are_rising}
use Rattle.row_table.specs.Table.{row_schema}
use Rattle.row_table.specs.Rows.{spelled, ends}
use Rattle.row_table.proofs.Turning.{lists_read}
use Rattle.row_table.proofs.calls.read_rows.Goals as goal

pub returns-clause-listed : goal.returns-clause-listed
returns-clause-listed g c =
    let has : (state g.S.Store c.args.conn.now).now.schema ≡ row_schema = search rules in
    let is : map spelled c.kept_rows.new.into.items ≡ map ends c.in_ok-rows.rows.items =
    search rules in
    let told : c.are_rising.result ≡ are_rising (map row_name c.kept_rows.new.into.items) =
    search rules in
    λ rise. lists_read (state g.S.Store c.args.conn.now) (state g.S.Store c.all_rows.new.conn)
    c.in_ok-rows.rows.items c.kept_rows.new.into.items has c.in_ok-rows.ensures.shown
    c.in_ok-rows.ensures.reading is (sym told ∙ rise)
