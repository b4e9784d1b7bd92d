use Rattle.sqlite.specs.Held.{state}
use Rattle.keepers.specs.Keeping.{unchanged}
use Rattle.sqlite_keeper.proofs.Following.{follows}
use Rattle.sqlite_keeper.proofs.keeper.SqliteKeeperKeeper.load.Goals as goal

pub returns-clause-same : goal.returns-clause-same
returns-clause-same g c =
    follows unchanged (state g.S.Store c.args.self.now.connection)
    (state g.S.Store c.read_rows.new.conn) c.read_rows.ensures.survives.clean
    c.read_rows.ensures.same
