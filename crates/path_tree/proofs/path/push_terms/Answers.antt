use Rattle.std.proofs.Common.{arith}
use Rattle.std.proofs.lemmas.Grind.{common_steps}
use Rattle.path_tree.proofs.TermTexts.{join_slice}
use Rattle.path_tree.proofs.path.push_terms.Goals as goal

pub loop-term-init : goal.loop-term-init
loop-term-init c = grind (
  arith,
  common_steps,
  c.in_ok-push_term.ensures,
  join_slice
      c.args.terms.now c.first-item.result c.in-len1-up.len_at_least c.first-item.is,
)
