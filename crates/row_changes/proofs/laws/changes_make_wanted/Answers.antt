use Rattle.row_changes.proofs.Made.{made}
use Rattle.row_changes.proofs.laws.changes_make_wanted.Goals as goal

pub returns : goal.returns
returns c = made
