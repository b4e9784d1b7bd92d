use Rattle.sqlite.specs.Held.{state}
use Rattle.keepers.specs.Keeping.{replaced}
use Rattle.sqlite_keeper.proofs.Following.{follows_done, follows_refused, on_ok, on_err}
use Rattle.sqlite_keeper.proofs.keeper.SqliteKeeperKeeper.replace.Goals as goal

pub returns-clause-ok : goal.returns-clause-ok
returns-clause-ok g c =
    on_ok c.judge.result (follows_done (replaced c.args.gone.now c.args.rows.now)
    (state g.S.Store c.args.self.now.connection) (state g.S.Store c.write_rows.new.conn)
    c.write_rows.result c.write_rows.ensures.survives.clean c.write_rows.ensures.turned)
    c.judge.ensures.ok

pub returns-clause-refused : goal.returns-clause-refused
returns-clause-refused g c =
    on_err c.judge.result (follows_refused (replaced c.args.gone.now c.args.rows.now)
    (state g.S.Store c.args.self.now.connection) (state g.S.Store c.write_rows.new.conn)
    c.write_rows.result c.write_rows.ensures.survives.clean c.write_rows.ensures.turned
    c.write_rows.ensures.kept)
    c.judge.ensures.err
