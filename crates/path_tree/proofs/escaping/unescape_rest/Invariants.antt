use Rattle.std.proofs.Common.{◌≡◌, ◌++◌, length}
use Rattle.path_tree.specs.Escape.{unescape_rest}
use Rattle.path_tree.proofs.escaping.unescape_rest.Given as goal

abbrev pub invariant-loop-rest : goal.invariant-loop-rest
invariant-loop-rest l = l.bytes.items ++ unescape_rest l.rest ≡ unescape_rest l.key

abbrev pub decreases-loop-rest : goal.decreases-loop-rest
decreases-loop-rest l = length l.rest
