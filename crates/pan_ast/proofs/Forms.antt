-- What each form of a tree in memory spells.
use Rattle.std.proofs.Common.{◌≡◌, ◌∙◌, ap, ℕ, ℤ, List, map, Some, None, Bool, rules}
use Rattle.std.specs.declared.vec.Vec.{Vec}
use Rattle.std.specs.declared.boxed.Box.{Box}
use Rattle.std.specs.declared.alloc.Global.{Global}
use Rattle.path_tree.specs.declared.operators.UnaryOp.{UnaryOp}
use Rattle.path_tree.specs.declared.operators.BinaryOp.{BinaryOp}
use Rattle.pan_ast.specs.declared.syntax.Item.{Item as RItem}
use Rattle.pan_ast.specs.declared.syntax.Node.{Node as RNode}
use Rattle.pan_ast.specs.declared.syntax.Reference.{Reference as RReference, out-Reference}
use Rattle.pan_ast.specs.declared.syntax.Form.{Form, the_lemmas}
use Rattle.pan_ast.specs.declared.syntax.Form.TheVariants as form
use Rattle.pan_ast.specs.declared.syntax.ItemForm.{ItemForm}
use Rattle.pan_ast.specs.declared.syntax.ItemForm.TheVariants as item_form
use Rattle.pan_ast.specs.declared.syntax.Step.{Step as RStep}
use Rattle.pan_ast.specs.declared.syntax.Step.TheVariants as step
use Rattle.pan_ast.specs.Syntax as plain
use Rattle.pan_ast.specs.Syntax.{stepped, steps_on}
use Rattle.pan_ast.specs.Seen.{item_seen, node_seen, step_seen, reference_seen, items_seen}

abbrev with_form : RNode → Form → RNode
with_form n f = record { place = n.place; form = f }

abbrev with_item_form : RItem → ItemForm → RItem
with_item_form i f = record { place = i.place; form = f }

pub seen_long : (n : RNode) (x : ℤ) → n.form ≡ form.Long x → node_seen n ≡ plain.Long n.place x
seen_long n x e = ap (λ v. node_seen (with_form n v)) e ∙ search (rules, the_lemmas)

pub seen_text : (n : RNode) (x : List ℕ) → n.form ≡ form.Text x → node_seen n ≡ plain.Text n.place x
seen_text n x e = ap (λ v. node_seen (with_form n v)) e ∙ search (rules, the_lemmas)

pub seen_boolean : (n : RNode) (x : Bool) → n.form ≡ form.Boolean x → node_seen n
    ≡ plain.Boolean n.place x
seen_boolean n x e = ap (λ v. node_seen (with_form n v)) e ∙ search (rules, the_lemmas)

pub seen_undef : (n : RNode) → n.form ≡ form.Undef → node_seen n ≡ plain.Undef n.place
seen_undef n e = ap (λ v. node_seen (with_form n v)) e ∙ search (rules, the_lemmas)

pub seen_null : (n : RNode) → n.form ≡ form.Null → node_seen n ≡ plain.Null n.place
seen_null n e = ap (λ v. node_seen (with_form n v)) e ∙ search (rules, the_lemmas)

pub seen_name : (n : RNode) (x : List ℕ) → n.form ≡ form.Name x → node_seen n ≡ plain.Name n.place x
seen_name n x e = ap (λ v. node_seen (with_form n v)) e ∙ search (rules, the_lemmas)

pub seen_call : (n : RNode) (f : List ℕ) (args : Vec RItem Global) → n.form ≡ form.Call f args
    → node_seen n ≡ plain.Call n.place f (items_seen args.items)
seen_call n f args e = ap (λ v. node_seen (with_form n v)) e ∙ search (rules, the_lemmas)

pub seen_inside : (n : RNode) (i : Box RItem Global) → n.form ≡ form.Inside i → node_seen n
    ≡ plain.Inside n.place (item_seen i.value)
seen_inside n i e = ap (λ v. node_seen (with_form n v)) e ∙ search (rules, the_lemmas)

pub seen_unary : (n : RNode) (op : UnaryOp) (a : Box RNode Global) → n.form ≡ form.Unary op a
    → node_seen n ≡ plain.Unary n.place op (node_seen a.value)
seen_unary n op a e = ap (λ v. node_seen (with_form n v)) e ∙ search (rules, the_lemmas)

pub seen_spine : (n : RNode) (a : Box RNode Global) (s : Box RStep Global) (ss : Vec RStep Global)
    → n.form ≡ form.Spine a s ss → node_seen n ≡ steps_on n.place
    (stepped n.place (node_seen a.value) (step_seen s.value)) (map step_seen ss.items)
seen_spine n a s ss e = ap (λ v. node_seen (with_form n v)) e ∙ search (rules, the_lemmas)

pub seen_step_index : (s : RStep) (i : RItem) → s ≡ step.Index i → step_seen s
    ≡ plain.AtIndex (item_seen i)
seen_step_index s i e = ap step_seen e ∙ search (rules, the_lemmas)

pub seen_step_binary : (s : RStep) (op : BinaryOp) (x : RNode) → s ≡ step.Binary op x → step_seen s
    ≡ plain.AtBinary op (node_seen x)
seen_step_binary s op x e = ap step_seen e ∙ search (rules, the_lemmas)

pub seen_step_and : (s : RStep) (x : RNode) → s ≡ step.And x → step_seen s
    ≡ plain.AtAnd (node_seen x)
seen_step_and s x e = ap step_seen e ∙ search (rules, the_lemmas)

pub seen_step_or : (s : RStep) (x : RNode) → s ≡ step.Or x → step_seen s ≡ plain.AtOr (node_seen x)
seen_step_or s x e = ap step_seen e ∙ search (rules, the_lemmas)

pub seen_block : (i : RItem) (is : Vec RItem Global) → i.form ≡ item_form.Block is → item_seen i
    ≡ plain.Block i.place (items_seen is.items)
seen_block i is e = ap (λ v. item_seen (with_item_form i v)) e ∙ search (rules, the_lemmas)

pub seen_if : (i : RItem) (c : Box RItem Global) (t : Box RItem Global) → i.form
    ≡ item_form.If c t None → item_seen i ≡ plain.If i.place (item_seen c.value) (item_seen t.value)
seen_if i c t e = ap (λ v. item_seen (with_item_form i v)) e ∙ search (rules, the_lemmas)

pub seen_if_else : (i : RItem) (c : Box RItem Global) (t : Box RItem Global) (o : Box RItem Global)
    → i.form ≡ item_form.If c t (Some o) → item_seen i
    ≡ plain.IfElse i.place (item_seen c.value) (item_seen t.value) (item_seen o.value)
seen_if_else i c t o e = ap (λ v. item_seen (with_item_form i v)) e ∙ search (rules, the_lemmas)

pub seen_while : (i : RItem) (c : Box RItem Global) (t : Box RItem Global) → i.form
    ≡ item_form.While c t → item_seen i ≡ plain.While i.place (item_seen c.value)
    (item_seen t.value)
seen_while i c t e = ap (λ v. item_seen (with_item_form i v)) e ∙ search (rules, the_lemmas)

pub seen_for : (i : RItem) (a : Box RItem Global) (c : Box RItem Global) (n : Box RItem Global)
    (t : Box RItem Global) → i.form ≡ item_form.For a c n t → item_seen i
    ≡ plain.For i.place (item_seen a.value) (item_seen c.value) (item_seen n.value)
    (item_seen t.value)
seen_for i a c n t e = ap (λ v. item_seen (with_item_form i v)) e ∙ search (rules, the_lemmas)

pub seen_foreach : (i : RItem) (k : List ℕ) (v : List ℕ) (c : Box RItem Global)
    (t : Box RItem Global) → i.form ≡ item_form.Foreach k v c t → item_seen i
    ≡ plain.Foreach i.place k v (item_seen c.value) (item_seen t.value)
seen_foreach i k v c t e = ap (λ v. item_seen (with_item_form i v)) e ∙ search (rules, the_lemmas)

pub seen_assign : (i : RItem) (r : RReference) (o : Box RItem Global) → i.form
    ≡ item_form.Assign r o → item_seen i ≡ plain.Assign i.place (reference_seen r)
    (item_seen o.value)
seen_assign i r o e = ap (λ v. item_seen (with_item_form i v)) e ∙ search (rules, the_lemmas)

pub seen_plain : (i : RItem) (n : RNode) → i.form ≡ item_form.Plain n → item_seen i
    ≡ plain.Plain i.place (node_seen n)
seen_plain i n e = ap (λ v. item_seen (with_item_form i v)) e ∙ search (rules, the_lemmas)

pub seen_reference : (r : RReference) → reference_seen r
    ≡ plain.Refer (out-Reference r).place (out-Reference r).name
    (items_seen (out-Reference r).indexes.items)
seen_reference r = search (rules, the_lemmas)

pub ruleset nodes = (
  seen_long,
  seen_text,
  seen_boolean,
  seen_undef,
  seen_null,
  seen_name,
  seen_call,
  seen_inside,
  seen_unary,
)

pub ruleset steps = (seen_step_index, seen_step_binary, seen_step_and, seen_step_or)

pub ruleset items = (
  seen_block,
  seen_if,
  seen_if_else,
  seen_while,
  seen_for,
  seen_foreach,
  seen_assign,
  seen_plain,
  seen_reference,
)
