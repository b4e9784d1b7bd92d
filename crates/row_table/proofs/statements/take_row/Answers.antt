use Rattle.std.proofs.Common.{ap}
use Rattle.sqlite.specs.Held.{state}
use Rattle.row_table.proofs.Edits.{takes_if, step_is}
use Rattle.row_table.proofs.statements.take_row.Goals as goal

pub returns-clause-step : goal.returns-clause-step
returns-clause-step g c =
    step_is (state g.S.Store c.args.tx.now.conn.now) (state g.S.Store c.execute.new.self.conn.now) _
    _ c.execute.result (λ outside. ap (state g.S.Store) (c.execute.ensures.ended outside).1)
    c.execute.ensures.runs c.execute.ensures.survives

pub returns-clause-done : goal.returns-clause-done
returns-clause-done g c =
    takes_if (state g.S.Store c.args.tx.now.conn.now) (state g.S.Store c.execute.new.self.conn.now)
    c.args.name.now c.execute.result (rw c.params-to_sql.ensures at c.execute.ensures.runs)
