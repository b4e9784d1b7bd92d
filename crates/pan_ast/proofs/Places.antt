-- The place of a node, and of an item, is that of what it spells.
use Rattle.std.proofs.Common.{List, [], ◌∷◌, Some, None, ◌≡◌, refl, rules}
use Rattle.pan_ast.specs.declared.place.Place.{Place}
use Rattle.pan_ast.specs.declared.syntax.Form.{the_lemmas}
use Rattle.pan_ast.specs.declared.syntax.Form.TheOpen.{Form-F, ItemForm-F}
use Rattle.pan_ast.specs.declared.syntax.Item.{Item as RItem}
use Rattle.pan_ast.specs.declared.syntax.Node.{Node as RNode}
use Rattle.pan_ast.specs.Syntax.{Step, stepped, steps_on, AtIndex, AtBinary, AtAnd, AtOr, Item, Node, Reference, node_place, item_place}
use Rattle.pan_ast.specs.Seen.{node_seen, item_seen, form_step, item_form_step}

stepped_place : (s : Step) (p : Place) (x : Node) → node_place (stepped p x s) ≡ p
stepped_place (AtIndex i) p x = refl
stepped_place (AtBinary op y) p x = refl
stepped_place (AtAnd y) p x = refl
stepped_place (AtOr y) p x = refl

steps_place : (ss : List Step) (p : Place) (x : Node) → node_place x ≡ p
    → node_place (steps_on p x ss) ≡ p
steps_place [] p x e = e
steps_place (s ∷ ss) p x e = steps_place ss p (stepped p x s) (stepped_place s p x)

form_place : (f : Form-F (Place → Node) (Place → Item) Step Item Node Reference) (p : Place)
    → node_place (form_step f p) ≡ p
form_place (Form-F.Long n) p = refl
form_place (Form-F.Text t) p = refl
form_place (Form-F.Boolean b) p = refl
form_place Form-F.Undef p = refl
form_place Form-F.Null p = refl
form_place (Form-F.Name t) p = refl
form_place (Form-F.Call f args) p = refl
form_place (Form-F.Inside i) p = refl
form_place (Form-F.Unary op n) p = refl
form_place (Form-F.Spine a s ss) p = steps_place ss.items p _ (stepped_place s.value p a.value)

pub place_seen : (n : RNode) → node_place (node_seen n) ≡ n.place
place_seen n = search (rules, the_lemmas, form_place)

item_form_place : (f : ItemForm-F (Place → Node) (Place → Item) Step Item Node Reference)
    (p : Place) → item_place (item_form_step f p) ≡ p
item_form_place (ItemForm-F.Block is) p = refl
item_form_place (ItemForm-F.If c t None) p = refl
item_form_place (ItemForm-F.If c t (Some e)) p = refl
item_form_place (ItemForm-F.While c b) p = refl
item_form_place (ItemForm-F.For a c n b) p = refl
item_form_place (ItemForm-F.Foreach k v c b) p = refl
item_form_place (ItemForm-F.Assign r i) p = refl
item_form_place (ItemForm-F.Plain n) p = refl

pub item_place_seen : (i : RItem) → item_place (item_seen i) ≡ i.place
item_place_seen i = search (rules, the_lemmas, item_form_place)
