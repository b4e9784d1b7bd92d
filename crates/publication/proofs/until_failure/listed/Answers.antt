use Rattle.publication.proofs.Shelving.{lists_again}
use Rattle.publication.proofs.until_failure.listed.Goals as goal

pub returns-clause-ok : goal.returns-clause-ok
returns-clause-ok g c = lists_again _ _ _ c.in_ok-sort.ensures.permutation c.in-Ok.ensures.ok
