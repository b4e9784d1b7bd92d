use Rattle.std.proofs.Common.{map, ◌≡◌, ◌≤◌, [], length}
use Rattle.pan_ast.specs.Pointers.{statements_pointers}
use Rattle.pan_ast.specs.TemplatesSeen.{statement_seen}
use Rattle.pan_grammar.specs.Machine.{run}
use Rattle.pan_grammar.specs.States.{Statements}
use Rattle.pan_grammar.specs.Templates.{Header}
use Rattle.pan_parser.specs.Room.{Within}
use Rattle.pan_parser.proofs.statements.statements.Given as goal

abbrev pub invariant-loop-after : goal.invariant-loop-after
invariant-loop-after l =
    ((h : Header) → run l.fn.tokens (Statements h [])
    ≡ run l.rest (Statements h (map statement_seen l.statements.items)))
    × (length l.rest ≤ length l.fn.tokens) × Within 2 0 (statements_pointers l.statements.items)

abbrev pub decreases-loop-after : goal.decreases-loop-after
decreases-loop-after l = length l.rest
