-- The tree that each form of node stands for, its children already seen as trees.
use Rattle.std.specs.Prelude.{◌≡◌, ◌≤◌, List, [], ◌∷◌, length}
use Rattle.base.specs.declared.limits.TheConstants.{MAX_TEXT_BYTES}
use Rattle.path_tree.specs.Plain.{Plain, dict, list, text, long, boolean, undef, null, Items, no_items, item, Fields, no_fields, field, tree_size, tree_height, IsTree}
use Rattle.path_tree.specs.declared.tree.Entry.{Entry}
use Rattle.path_tree.specs.declared.tree.Dict.{Dict}
use Rattle.path_tree.specs.declared.tree.Items.{Items as Itemed}
use Rattle.path_tree.specs.declared.tree.Node.{Node}
use Rattle.path_tree.specs.declared.tree.Node.TheVariants as node

abbrev pub items_of : List Plain → Items
items_of [] = no_items
items_of (t ∷ ts) = item t (items_of ts)

abbrev pub fields_of : List Entry → Fields
fields_of [] = no_fields
fields_of (e ∷ es) = field e.key e.value (fields_of es)

-- the tree that a dict stands for
abbrev pub dict_seen : Dict → Plain
dict_seen d = dict (fields_of d.entries.items)

abbrev pub list_seen : Itemed → Plain
list_seen l = list (items_of l.items.items)

-- it keeps the size and the height of its tree
pub record IsDict (d : Dict) : Type 0 where
  pub tree : IsTree (dict_seen d)
  pub size : d.size ≡ tree_size (dict_seen d)
  pub height : d.height ≡ tree_height (dict_seen d)

pub record IsList (l : Itemed) : Type 0 where
  pub tree : IsTree (list_seen l)
  pub size : l.size ≡ tree_size (list_seen l)
  pub height : l.height ≡ tree_height (list_seen l)

abbrev pub node_seen : Node → Plain
node_seen (node.Dict d) = dict_seen d.value
node_seen (node.List l) = list_seen l.value
node_seen (node.Text t) = text t
node_seen (node.Long z) = long z
node_seen (node.Boolean b) = boolean b
node_seen node.Undef = undef
node_seen node.Null = null

abbrev pub IsNode : Node → Type 0
IsNode (node.Dict d) = IsDict d.value
IsNode (node.List l) = IsList l.value
IsNode (node.Text t) = length t ≤ MAX_TEXT_BYTES
IsNode (node.Long z) = Unit {0}
IsNode (node.Boolean b) = Unit {0}
IsNode node.Undef = Unit {0}
IsNode node.Null = Unit {0}
