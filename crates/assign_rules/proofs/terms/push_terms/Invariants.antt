use Rattle.std.proofs.Common.{◌≡◌, ◌++◌, take}
use Rattle.assign_rules.proofs.terms.push_terms.Given as goal

abbrev pub invariant-loop-term : goal.invariant-loop-term
invariant-loop-term l = l.list.items ≡ l.fn.list.items ++ take l.term-index l.terms
