use Rattle.std.proofs.Common.{◌≡◌, ◌≤◌, [], length}
use Rattle.pan_ast.specs.Types.{Head}
use Rattle.pan_grammar.specs.Machine.{run}
use Rattle.pan_grammar.specs.States.{FullStack, HasHead}
use Rattle.pan_parser.proofs.bounds.suffixes.Given as goal

abbrev pub invariant-loop-suffixes : goal.invariant-loop-suffixes
invariant-loop-suffixes l =
    ((h : Head) (s : FullStack) → run l.fn.tokens (HasHead h [] s)
    ≡ run l.rest (HasHead h l.suffixes.items s)) × (length l.rest ≤ length l.fn.tokens)

abbrev pub decreases-loop-suffixes : goal.decreases-loop-suffixes
decreases-loop-suffixes l = length l.rest
