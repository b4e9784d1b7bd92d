use Rattle.state_file.proofs.Steps.{bad_read}
use Rattle.state_file.proofs.loading.load.Goals as goal

pub returns-in-Ok-clause-bad : goal.returns-in-Ok-clause-bad
returns-in-Ok-clause-bad g c = bad_read c.in-Ok.rows.items (g.K.Keeper.cell c.rows_of.new.keeper)
    c.read.result c.in-Ok.ensures.rows c.read.ensures.bad
