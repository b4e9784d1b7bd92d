use Rattle.engine_session.proofs.Moves.{new_in, new_kept}
use Rattle.engine_session.proofs.starting.renew.Goals as goal

pub returns-clause-kept : goal.returns-clause-kept
returns-clause-kept g c = new_kept c.new-2.result.core c.new-2.ensures.fresh c.new-2.ensures.files

pub returns-clause-at : goal.returns-clause-at
returns-clause-at g c = new_in c.new-2.result.core c.args.of_engine c.args.limits
    c.new-2.ensures.fresh c.new-2.ensures.limits c.new-2.ensures.dirs c.new-2.ensures.files
