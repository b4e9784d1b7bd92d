-- Each child of a tree is smaller than the tree.
use Rattle.std.specs.Prelude.{◌≤◌, ℕ, ◌+◌, max, List, [], ◌∷◌}
use Rattle.std.proofs.Common.{arith}
use denote.Param.Weighed.{most}
use Rattle.path_tree.specs.Plain.{Plain, tree_size, items_size, fields_size}
use Rattle.path_tree.specs.declared.tree.Entry.{Entry}
use Rattle.path_tree.specs.declared.tree.Node.{Node}
use Rattle.path_tree.specs.declared.tree.Node.TheVariants as node
use Rattle.path_tree.specs.declared.tree.Tree.TheDeep.{deep-Node, deep-Dict, deep-Entry}
use Rattle.path_tree.specs.View.{items_of, fields_of, node_seen}

most_items : (ts : List Plain) → most (λ t. tree_size t + 1) ts ≤ items_size (items_of ts) + 1
most_items [] = omega arith
most_items (t ∷ ts) = omega (arith, most_items ts)

most_fields : (fs : List Entry) → most deep-Entry fs ≤ fields_size (fields_of fs) + 1
most_fields [] = omega arith
most_fields (f ∷ fs) = omega (arith, most_fields fs)

max_zero : (a b : ℕ) → a ≤ b → max a 0 ≤ b
max_zero a b h = omega arith

pub deep_le-size : (k : Node) → max (deep-Node k) 0 ≤ tree_size (node_seen k)
deep_le-size (node.Dict d) =
    let h : deep-Dict d.value ≤ fields_size (fields_of d.value.entries.items) + 1 = max_zero _ _
    (most_fields d.value.entries.items) in omega arith
deep_le-size (node.List l) = omega (arith, most_items l.value.items.items)
deep_le-size (node.Text t) = omega arith
deep_le-size (node.Long z) = omega arith
deep_le-size (node.Boolean b) = omega arith
deep_le-size node.Undef = omega arith
deep_le-size node.Null = omega arith
