use Rattle.std.proofs.Common.{length}
use Rattle.questions.proofs.key.+hash_terms.Given as goal

abbrev pub decreases-hash_terms : goal.decreases-hash_terms
decreases-hash_terms g l = length l.terms.now
