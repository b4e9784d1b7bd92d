use Rattle.sqlite.specs.Held.{state}
use Rattle.keepers.specs.Keeping.{unchanged}
use Rattle.sqlite_keeper.proofs.Following.{follows}
use Rattle.sqlite_keeper.proofs.keeper.SqliteKeeperKeeper.open_store.Goals as goal

pub returns-in_err-judge-clause-same : goal.returns-in_err-judge-clause-same
returns-in_err-judge-clause-same g c =
    follows unchanged (state g.S.Store c.args.self.now.connection)
    (state g.S.Store c.make_ready.new.conn) c.make_ready.ensures.survives.clean
    c.make_ready.ensures.same

pub returns-clause-same : goal.returns-clause-same
returns-clause-same g c =
    follows unchanged (state g.S.Store c.args.self.now.connection)
    (state g.S.Store c.make_ready.new.conn) c.make_ready.ensures.survives.clean
    c.make_ready.ensures.same
