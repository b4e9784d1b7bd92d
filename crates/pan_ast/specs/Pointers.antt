-- How far a tree reaches in memory: how many pointers a walk or a drop follows one after the other
-- at most. The texts at which its ways end are not counted.
use Rattle.std.specs.Prelude.{ℕ, ◌+◌, max, List, [], ◌∷◌, map, Option, Some, None}
use Rattle.std.specs.declared.rc.Rc.{Rc}
use Rattle.std.specs.declared.alloc.Global.{Global}
use Rattle.pan_ast.specs.declared.syntax.Form.TheOpen.{Form-F, ItemForm-F, Step-F, Item-F, Node-F, Reference-F}
use Rattle.pan_ast.specs.declared.syntax.Item.{Item, fold-Item}
use Rattle.pan_ast.specs.declared.syntax.Node.{Node, fold-Node}
use Rattle.pan_ast.specs.declared.syntax.Reference.{Reference, fold-Reference}
use Rattle.pan_ast.specs.declared.syntax.Step.{Step, fold-Step}
use Rattle.pan_ast.specs.declared.types.FullType.{FullType, fold-FullType}
use Rattle.pan_ast.specs.declared.types.TypeForm.{TypeForm, fold-TypeForm}
use Rattle.pan_ast.specs.declared.types.Head.{Head, fold-Head}
use Rattle.pan_ast.specs.declared.types.Field.{Field, fold-Field}
use Rattle.pan_ast.specs.declared.types.Field.TheOpen.{Field-F, Head-F, FullType-F, RecordForm-F, TypeForm-F}
use Rattle.pan_ast.specs.declared.template.StatementForm.{StatementForm}
use Rattle.pan_ast.specs.declared.template.StatementForm.TheVariants as forms
use Rattle.pan_ast.specs.declared.template.Statement.{Statement}
use Rattle.pan_ast.specs.declared.template.Template.{Template}

-- the most that one of several reaches
abbrev pub most : List ℕ → ℕ
most [] = 0
most (n ∷ ns) = max n (most ns)

-- What a node reaches. As the left operand of further steps it reaches less by one where it has
-- steps already: they stand beside these, and no pointer lies between.
pub record Reach : Type 0 where
  pub whole : ℕ
  pub left : ℕ

abbrev pub alike : ℕ → Reach
alike n = record { whole = n; left = n }

abbrev pub one_behind : ℕ → Reach
one_behind n = record { whole = 1 + n; left = n }

-- ---- items: what a form reaches, from what its parts reach

abbrev pub form_step : Form-F Reach ℕ ℕ ℕ Reach ℕ → Reach
form_step (Form-F.Long n) = alike 0
form_step (Form-F.Text t) = alike 0
form_step (Form-F.Boolean b) = alike 0
form_step Form-F.Undef = alike 0
form_step Form-F.Null = alike 0
form_step (Form-F.Name t) = alike 0
form_step (Form-F.Call f arguments) = alike (1 + most arguments.items)
form_step (Form-F.Inside i) = alike (1 + i.value)
form_step (Form-F.Unary op n) = alike (1 + n.value.whole)
form_step (Form-F.Spine a s ss) = one_behind (max a.value.whole (max s.value (most ss.items)))

abbrev pub item_form_step : ItemForm-F Reach ℕ ℕ ℕ Reach ℕ → ℕ
item_form_step (ItemForm-F.Block is) = 1 + most is.items
item_form_step (ItemForm-F.If c t None) = 1 + max c.value t.value
item_form_step (ItemForm-F.If c t (Some e)) = 1 + max c.value (max t.value e.value)
item_form_step (ItemForm-F.While c b) = 1 + max c.value b.value
item_form_step (ItemForm-F.For a c n b) = 1 + max (max a.value c.value) (max n.value b.value)
item_form_step (ItemForm-F.Foreach k v c b) = 1 + max c.value b.value
item_form_step (ItemForm-F.Assign r i) = max r (1 + i.value)
item_form_step (ItemForm-F.Plain n) = n.whole

abbrev pub step_step : Step-F Reach ℕ ℕ ℕ Reach ℕ → ℕ
step_step (Step-F.Index i) = i
step_step (Step-F.Binary op n) = n.whole
step_step (Step-F.And n) = n.whole
step_step (Step-F.Or n) = n.whole

abbrev pub item_step : Item-F Reach ℕ ℕ ℕ Reach ℕ → ℕ
item_step i = i.form

abbrev pub node_step : Node-F Reach ℕ ℕ ℕ Reach ℕ → Reach
node_step n = n.form

abbrev pub reference_step : Reference-F Reach ℕ ℕ ℕ Reach ℕ → ℕ
reference_step r = 1 + most r.indexes.items

abbrev pub item_pointers : Item → ℕ
item_pointers = fold-Item Reach ℕ ℕ ℕ Reach ℕ form_step item_form_step step_step item_step node_step
    reference_step

abbrev pub node_reach : Node → Reach
node_reach = fold-Node Reach ℕ ℕ ℕ Reach ℕ form_step item_form_step step_step item_step node_step
    reference_step

abbrev pub step_pointers : Step → ℕ
step_pointers = fold-Step Reach ℕ ℕ ℕ Reach ℕ form_step item_form_step step_step item_step node_step
    reference_step

abbrev pub reference_pointers : Reference → ℕ
reference_pointers = fold-Reference Reach ℕ ℕ ℕ Reach ℕ form_step item_form_step step_step item_step
    node_step reference_step

abbrev pub node_pointers : Node → ℕ
node_pointers n = (node_reach n).whole

abbrev pub left_pointers : Node → ℕ
left_pointers n = (node_reach n).left

abbrev pub items_pointers : List Item → ℕ
items_pointers is = most (map item_pointers is)

abbrev pub steps_pointers : List Step → ℕ
steps_pointers ss = most (map step_pointers ss)

abbrev pub option_pointers : Option Item → ℕ
option_pointers None = 0
option_pointers (Some i) = item_pointers i

-- a test before it is put behind its pointer
abbrev pub test_pointers : Option Item → ℕ
test_pointers None = 0
test_pointers (Some i) = 1 + item_pointers i

abbrev pub shared_pointers : Option (Rc Item Global) → ℕ
shared_pointers None = 0
shared_pointers (Some i) = 1 + item_pointers i.value

-- ---- types

abbrev pub field_step : Field-F ℕ ℕ ℕ ℕ ℕ → ℕ
field_step (Field-F.Own k p r f) = f
field_step (Field-F.Include p n q) = 0

abbrev pub head_step : Head-F ℕ ℕ ℕ ℕ ℕ → ℕ
head_step (Head-F.Named n p b) = 0
head_step (Head-F.Record r) = r
head_step (Head-F.Choice texts) = 1

-- the test stands behind a pointer, the default does not
abbrev pub full_step : FullType-F ℕ ℕ ℕ ℕ ℕ → ℕ
full_step f = max f.form (max (option_pointers f.default) (shared_pointers f.with))

abbrev pub record_step : RecordForm-F ℕ ℕ ℕ ℕ ℕ → ℕ
record_step r = 1 + most r.fields.items

abbrev pub type_step : TypeForm-F ℕ ℕ ℕ ℕ ℕ → ℕ
type_step t = max 1 t.head

abbrev pub full_pointers : FullType → ℕ
full_pointers = fold-FullType ℕ ℕ ℕ ℕ ℕ field_step head_step full_step record_step type_step

abbrev pub type_pointers : TypeForm → ℕ
type_pointers = fold-TypeForm ℕ ℕ ℕ ℕ ℕ field_step head_step full_step record_step type_step

abbrev pub head_pointers : Head → ℕ
head_pointers = fold-Head ℕ ℕ ℕ ℕ ℕ field_step head_step full_step record_step type_step

abbrev pub field_pointers : Field → ℕ
field_pointers = fold-Field ℕ ℕ ℕ ℕ ℕ field_step head_step full_step record_step type_step

abbrev pub fields_pointers : List Field → ℕ
fields_pointers fs = most (map field_pointers fs)

-- ---- statements and templates

abbrev pub form_pointers : StatementForm → ℕ
form_pointers (forms.Assign l p c i) = item_pointers i
form_pointers (forms.Variable l n c i) = item_pointers i
form_pointers (forms.Function n b) = 1 + item_pointers b.value
form_pointers (forms.Define n f) = 1 + full_pointers f.value
form_pointers (forms.Bind p f) = 1 + full_pointers f.value
form_pointers (forms.Valid p b) = 1 + item_pointers b.value
form_pointers (forms.Include i) = item_pointers i
form_pointers (forms.Prefix p) = 0

abbrev pub statement_pointers : Statement → ℕ
statement_pointers s = form_pointers s.form

abbrev pub statements_pointers : List Statement → ℕ
statements_pointers ss = most (map statement_pointers ss)

abbrev pub template_pointers : Template → ℕ
template_pointers t = 1 + statements_pointers t.statements.items
