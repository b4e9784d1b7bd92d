use Rattle.std.proofs.Common.{map, ◌≡◌, ◌≤◌, [], length, ℕ, zero, suc, ◌+◌, ◌*◌}
use Rattle.pan_ast.specs.Pointers.{items_pointers, left_pointers}
use Rattle.pan_ast.specs.Seen.{item_seen, node_seen}
use Rattle.pan_grammar.specs.Depths.{holders, node_holders}
use Rattle.pan_grammar.specs.Machine.{run}
use Rattle.pan_grammar.specs.States.{BlockOpen, CallOpen, HasNode, HasPrimary, HasReference, InCall, ItemStack, NeedItem, NodeStack}
use Rattle.pan_grammar.specs.Grammar.{name}
use Rattle.pan_parser.specs.Answers.{indexed}
use Rattle.pan_parser.specs.Room.{Within}
use Rattle.pan_parser.proofs.Turns.{ReadsFirst}
use Rattle.pan_parser.proofs.+items.Given as goal

-- a call hands on fewer tokens, or the same to a function of lower rank
abbrev pub decreases-chains::primary : goal.decreases-chains::primary
decreases-chains::primary l = 32 * length l.tokens.now

abbrev pub decreases-chains::unary : goal.decreases-chains::unary
decreases-chains::unary l = 32 * length l.tokens.now + 1

abbrev pub decreases-chains::operand : goal.decreases-chains::operand
decreases-chains::operand l = 32 * length l.tokens.now + 2

abbrev pub decreases-items::item : goal.decreases-items::item
decreases-items::item l = 32 * length l.tokens.now + 3

abbrev pub decreases-items::boxed_item : goal.decreases-items::boxed_item
decreases-items::boxed_item l = 32 * length l.tokens.now + 4

abbrev pub decreases-items::item_before : goal.decreases-items::item_before
decreases-items::item_before l = 32 * length l.tokens.now + 5

abbrev pub decreases-items::block_items : goal.decreases-items::block_items
decreases-items::block_items l = 32 * length l.tokens.now + 4

abbrev pub decreases-chains::arguments : goal.decreases-chains::arguments
decreases-chains::arguments l = 32 * length l.tokens.now + 4

abbrev pub decreases-chains::indexes : goal.decreases-chains::indexes
decreases-chains::indexes l = 32 * length l.tokens.now

abbrev pub decreases-chains::reference_indexes : goal.decreases-chains::reference_indexes
decreases-chains::reference_indexes l = 32 * length l.tokens.now

abbrev pub decreases-chains::named : goal.decreases-chains::named
decreases-chains::named l = 32 * length l.tokens.now

abbrev pub decreases-chains::chain : goal.decreases-chains::chain
decreases-chains::chain l = 32 * length l.tokens.now + l.line

abbrev pub decreases-chains::chain_item : goal.decreases-chains::chain_item
decreases-chains::chain_item l = 32 * length l.tokens.now + 10

abbrev pub decreases-items::reference_item : goal.decreases-items::reference_item
decreases-items::reference_item l = 32 * length l.tokens.now + 11

abbrev pub decreases-items::word_item : goal.decreases-items::word_item
decreases-items::word_item l = 32 * length l.tokens.now + 12

abbrev pub decreases-items::if_item : goal.decreases-items::if_item
decreases-items::if_item l = 32 * length l.tokens.now

abbrev pub decreases-items::while_item : goal.decreases-items::while_item
decreases-items::while_item l = 32 * length l.tokens.now

abbrev pub decreases-items::for_item : goal.decreases-items::for_item
decreases-items::for_item l = 32 * length l.tokens.now

abbrev pub decreases-items::foreach_item : goal.decreases-items::foreach_item
decreases-items::foreach_item l = 32 * length l.tokens.now

-- before the first argument and after a comma
abbrev pub invariant-chains::arguments-loop-items : goal.invariant-chains::arguments-loop-items
invariant-chains::arguments-loop-items l =
    ((n : NodeStack zero) → node_holders n ≡ l.fn.depth → run l.fn.tokens (CallOpen l.fn.word n)
    ≡ run l.rest (NeedItem (InCall l.fn.word (map item_seen l.items.items) n)))
    × (length l.rest ≤ length l.fn.tokens) × Within 0 l.fn.depth (items_pointers l.items.items)

abbrev pub decreases-chains::arguments-loop-items : goal.decreases-chains::arguments-loop-items
decreases-chains::arguments-loop-items l = length l.rest

abbrev pub invariant-items::block_items-loop-after : goal.invariant-items::block_items-loop-after
invariant-items::block_items-loop-after l =
    ((s : ItemStack) → suc (holders s) ≡ l.fn.depth → run l.fn.tokens (BlockOpen l.fn.place [] s)
    ≡ run l.rest (BlockOpen l.fn.place (map item_seen l.items.items) s))
    × (length l.rest ≤ length l.fn.tokens) × Within 0 l.fn.depth (items_pointers l.items.items)

abbrev pub decreases-items::block_items-loop-after : goal.decreases-items::block_items-loop-after
decreases-items::block_items-loop-after l = length l.rest

abbrev pub invariant-chains::chain-loop-operator : goal.invariant-chains::chain-loop-operator
invariant-chains::chain-loop-operator l =
    ((k : ℕ) → l.fn.line ≡ suc k → ReadsFirst l.fn.depth l.fn.tokens
    (λ n. HasNode (node_seen l.fn.first) n) (node_seen l.left) l.rest k) × (1 ≤ l.fn.line)
    × (length l.rest ≤ length l.fn.tokens) × Within (1 + l.fn.line) l.fn.depth
    (left_pointers l.left)

abbrev pub decreases-chains::chain-loop-operator : goal.decreases-chains::chain-loop-operator
decreases-chains::chain-loop-operator l = length l.rest

abbrev pub invariant-chains::indexes-loop-after : goal.invariant-chains::indexes-loop-after
invariant-chains::indexes-loop-after l =
    ((n : NodeStack zero) → node_holders n ≡ l.fn.depth → run l.fn.tokens
    (HasPrimary (node_seen l.fn.first) n) ≡ run l.rest (HasPrimary (node_seen l.whole) n))
    × (length l.rest ≤ length l.fn.tokens) × Within 1 l.fn.depth (left_pointers l.whole)

abbrev pub decreases-chains::indexes-loop-after : goal.decreases-chains::indexes-loop-after
decreases-chains::indexes-loop-after l = length l.rest

abbrev pub invariant-chains::reference_indexes-loop-after :
    goal.invariant-chains::reference_indexes-loop-after
invariant-chains::reference_indexes-loop-after l =
    ((s : ItemStack) → suc (holders s) ≡ l.fn.depth → run l.fn.tokens
    (HasReference l.fn.word [] (name l.fn.word) s)
    ≡ run l.rest (HasReference l.fn.word (map item_seen l.items.items)
    (indexed (name l.fn.word) (map item_seen l.items.items)) s))
    × (length l.rest ≤ length l.fn.tokens) × Within 0 l.fn.depth (items_pointers l.items.items)

abbrev pub decreases-chains::reference_indexes-loop-after :
    goal.decreases-chains::reference_indexes-loop-after
decreases-chains::reference_indexes-loop-after l = length l.rest
