use Rattle.std.proofs.Common.{◌≡◌, ◌++◌, [], map}
use Rattle.pan_blame.specs.Blamed.{leaf_seen}
use Rattle.session.specs.Texts.{name_lines}
use Rattle.engine_session.specs.Blaming.{leaf_text}
use Rattle.blamed_works.proofs.texts.push_leaves.Given as goal

abbrev pub invariant-loop-leaf : goal.invariant-loop-leaf
invariant-loop-leaf l = l.text.items ++ name_lines []
    (map leaf_text (map leaf_seen l.leaf-iterator.rest.items)) ≡ l.fn.text.items ++ name_lines []
    (map leaf_text (map leaf_seen l.fn.leaves.items))
