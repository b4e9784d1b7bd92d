use Rattle.row_changes.proofs.Same.{nothing_where_same, same_where_nothing}
use Rattle.row_changes.proofs.laws.only_same_rows_change_nothing.Goals as goal

pub returns : goal.returns
returns c = λ last wanted p q. (
  same_where_nothing last wanted p q,
  nothing_where_same last wanted
      p,
)
