use Rattle.std.proofs.Common.{map, ◌≡◌, ◌≤◌, max}
use Rattle.pan_ast.specs.Pointers.{items_pointers, left_pointers}
use Rattle.pan_ast.specs.Seen.{item_seen, node_seen}
use Rattle.pan_grammar.specs.Grammar.{name}
use Rattle.pan_parser.specs.Answers.{indexed}
use Rattle.pan_parser.proofs.tables.indexed_name.Given as goal

abbrev pub invariant-loop-index : goal.invariant-loop-index
invariant-loop-index l =
    (indexed (node_seen l.node) (map item_seen l.index-iterator.rest.items)
    ≡ indexed (name l.token) (map item_seen l.fn.indexes.items))
    × (max (left_pointers l.node) (items_pointers l.index-iterator.rest.items) ≤ items_pointers
    l.fn.indexes.items)
