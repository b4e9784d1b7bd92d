use Rattle.std.proofs.Common.{◌≡◌, ◌≤◌, length}
use Rattle.pan_grammar.specs.Machine.{run}
use Rattle.pan_grammar.specs.States.{FullStack, TextsOpen}
use Rattle.pan_parser.proofs.types.more_texts.Given as goal

abbrev pub invariant-loop-after : goal.invariant-loop-after
invariant-loop-after l =
    ((s : FullStack) → run l.fn.tokens (TextsOpen l.fn.texts.items s)
    ≡ run l.rest (TextsOpen l.texts.items s)) × (length l.rest ≤ length l.fn.tokens)

abbrev pub decreases-loop-after : goal.decreases-loop-after
decreases-loop-after l = length l.rest
