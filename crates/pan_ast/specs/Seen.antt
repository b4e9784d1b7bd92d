-- The plain syntax that a tree in memory spells.
use Rattle.std.specs.Prelude.{List, map, option_map, Option, Some, None}
use Rattle.pan_ast.specs.declared.place.Place.{Place}
use Rattle.pan_ast.specs.declared.syntax.Item.{Item as RItem, fold-Item}
use Rattle.pan_ast.specs.declared.syntax.Node.{Node as RNode, fold-Node}
use Rattle.pan_ast.specs.declared.syntax.Reference.{Reference as RReference, fold-Reference}
use Rattle.pan_ast.specs.declared.syntax.Step.{Step as RStep, fold-Step}
use Rattle.pan_ast.specs.declared.syntax.Form.TheOpen.{Form-F, ItemForm-F, Step-F, Item-F, Node-F, Reference-F}
use Rattle.pan_ast.specs.Syntax.{Step, stepped, steps_on, Item, Node, Reference, Items, items_of}
use Rattle.pan_ast.specs.Syntax as plain

abbrev pub form_step : Form-F (Place → Node) (Place → Item) Step Item Node Reference → Place → Node
form_step (Form-F.Long n) p = plain.Long p n
form_step (Form-F.Text t) p = plain.Text p t
form_step (Form-F.Boolean b) p = plain.Boolean p b
form_step Form-F.Undef p = plain.Undef p
form_step Form-F.Null p = plain.Null p
form_step (Form-F.Name t) p = plain.Name p t
form_step (Form-F.Call f args) p = plain.Call p f (items_of args.items)
form_step (Form-F.Inside i) p = plain.Inside p i.value
form_step (Form-F.Unary op n) p = plain.Unary p op n.value
form_step (Form-F.Spine a s ss) p = steps_on p (stepped p a.value s.value) ss.items

abbrev pub item_form_step : ItemForm-F (Place → Node) (Place → Item) Step Item Node Reference
    → Place → Item
item_form_step (ItemForm-F.Block is) p = plain.Block p (items_of is.items)
item_form_step (ItemForm-F.If c t None) p = plain.If p c.value t.value
item_form_step (ItemForm-F.If c t (Some e)) p = plain.IfElse p c.value t.value e.value
item_form_step (ItemForm-F.While c b) p = plain.While p c.value b.value
item_form_step (ItemForm-F.For a c n b) p = plain.For p a.value c.value n.value b.value
item_form_step (ItemForm-F.Foreach k v c b) p = plain.Foreach p k v c.value b.value
item_form_step (ItemForm-F.Assign r i) p = plain.Assign p r i.value
item_form_step (ItemForm-F.Plain n) p = plain.Plain p n

abbrev pub step_step : Step-F (Place → Node) (Place → Item) Step Item Node Reference → Step
step_step (Step-F.Index i) = plain.AtIndex i
step_step (Step-F.Binary op x) = plain.AtBinary op x
step_step (Step-F.And x) = plain.AtAnd x
step_step (Step-F.Or x) = plain.AtOr x

abbrev pub item_step : Item-F (Place → Node) (Place → Item) Step Item Node Reference → Item
item_step i = i.form i.place

abbrev pub node_step : Node-F (Place → Node) (Place → Item) Step Item Node Reference → Node
node_step n = n.form n.place

abbrev pub reference_step : Reference-F (Place → Node) (Place → Item) Step Item Node Reference
    → Reference
reference_step r = plain.Refer r.place r.name (items_of r.indexes.items)

-- what a tree spells
abbrev pub item_seen : RItem → Item
item_seen = fold-Item (Place → Node) (Place → Item) Step Item Node Reference form_step
    item_form_step step_step item_step node_step reference_step

abbrev pub node_seen : RNode → Node
node_seen = fold-Node (Place → Node) (Place → Item) Step Item Node Reference form_step
    item_form_step step_step item_step node_step reference_step

abbrev pub step_seen : RStep → Step
step_seen = fold-Step (Place → Node) (Place → Item) Step Item Node Reference form_step
    item_form_step step_step item_step node_step reference_step

abbrev pub reference_seen : RReference → Reference
reference_seen = fold-Reference (Place → Node) (Place → Item) Step Item Node Reference form_step
    item_form_step step_step item_step node_step reference_step

abbrev pub items_seen : List RItem → Items
items_seen is = items_of (map item_seen is)

abbrev pub option_seen : Option RItem → Option Item
option_seen = option_map item_seen
