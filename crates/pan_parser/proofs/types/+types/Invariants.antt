use Rattle.std.proofs.Common.{map, ◌≡◌, ◌≤◌, [], length, Bool, suc, ◌+◌, ◌*◌}
use Rattle.pan_ast.specs.Pointers.{fields_pointers}
use Rattle.pan_ast.specs.TypesSeen.{field_seen}
use Rattle.pan_grammar.specs.Depths.{full_holders}
use Rattle.pan_grammar.specs.Machine.{run}
use Rattle.pan_grammar.specs.States.{FieldsOpen, FullStack}
use Rattle.pan_parser.specs.Room.{Within}
use Rattle.pan_parser.proofs.types.+types.Given as goal

abbrev pub decreases-head : goal.decreases-head
decreases-head l = 4 * length l.tokens.now

abbrev pub decreases-full_type : goal.decreases-full_type
decreases-full_type l = 4 * length l.tokens.now + 1

abbrev pub decreases-field : goal.decreases-field
decreases-field l = 4 * length l.tokens.now

abbrev pub decreases-fields : goal.decreases-fields
decreases-fields l = 4 * length l.tokens.now + 2

abbrev pub invariant-fields-loop-after : goal.invariant-fields-loop-after
invariant-fields-loop-after l =
    ((e : Bool) (s : FullStack) → suc (suc (full_holders s))
    ≡ l.fn.depth → run l.fn.tokens (FieldsOpen e [] s)
    ≡ run l.rest (FieldsOpen e (map field_seen l.fields.items) s))
    × (length l.rest ≤ length l.fn.tokens) × Within 1 l.fn.depth (fields_pointers l.fields.items)

abbrev pub decreases-fields-loop-after : goal.decreases-fields-loop-after
decreases-fields-loop-after l = length l.rest
