-- How far each form of a tree in memory reaches.
use Rattle.std.proofs.Common.{◌≡◌, ◌∙◌, ap, refl, ℕ, ℤ, ◌+◌, ◌≤◌, ◌<◌, max, List, ◌++◌, [], ◌∷◌, Some, None, Option, Bool, length, get_or, arith, rules}
use Rattle.std.proofs.lemmas.List.Recursion.{max_push, max_bounds}
use Rattle.std.specs.declared.vec.Vec.{Vec}
use Rattle.std.specs.declared.boxed.Box.{Box}
use Rattle.std.specs.declared.alloc.Global.{Global}
use Rattle.path_tree.specs.declared.operators.UnaryOp.{UnaryOp}
use Rattle.path_tree.specs.declared.operators.BinaryOp.{BinaryOp}
use Rattle.pan_ast.specs.declared.place.Place.{Place}
use Rattle.pan_ast.specs.declared.types.Bounds.{Bounds}
use Rattle.pan_ast.specs.declared.syntax.Item.{Item}
use Rattle.pan_ast.specs.declared.syntax.Node.{Node}
use Rattle.pan_ast.specs.declared.syntax.Reference.{Reference, out-Reference}
use Rattle.pan_ast.specs.declared.syntax.Form.{Form, out-Form, the_lemmas}
use Rattle.pan_ast.specs.declared.syntax.Form.TheOpen.{Form-F}
use Rattle.pan_ast.specs.declared.syntax.Form.TheVariants as form
use Rattle.pan_ast.specs.declared.syntax.ItemForm.{ItemForm}
use Rattle.pan_ast.specs.declared.syntax.ItemForm.TheVariants as item_form
use Rattle.pan_ast.specs.declared.syntax.Step.{Step}
use Rattle.pan_ast.specs.declared.syntax.Step.TheVariants as step
use Rattle.pan_ast.specs.declared.types.Field.{Field}
use Rattle.pan_ast.specs.declared.types.Field.{the_lemmas as type_lemmas}
use Rattle.pan_ast.specs.declared.types.Field.TheVariants as field
use Rattle.pan_ast.specs.declared.types.Head.{Head}
use Rattle.pan_ast.specs.declared.types.Head.TheVariants as head
use Rattle.pan_ast.specs.declared.types.FullType.{FullType}
use Rattle.pan_ast.specs.declared.types.TypeForm.{TypeForm}
use Rattle.pan_ast.specs.declared.types.RecordForm.{RecordForm}
use Rattle.pan_ast.specs.declared.template.Statement.{Statement}
use Rattle.pan_ast.specs.Pointers.{Reach, form_step, item_pointers, node_pointers, step_pointers, reference_pointers, items_pointers, steps_pointers, left_pointers, option_pointers, shared_pointers, full_pointers, type_pointers, head_pointers, field_pointers, fields_pointers, statement_pointers, statements_pointers}

abbrev with_form : Node → Form → Node
with_form n f = record { place = n.place; form = f }

abbrev with_item_form : Item → ItemForm → Item
with_item_form i f = record { place = i.place; form = f }

-- ---- nodes: what they reach as a left operand

pub long_left : (n : Node) (x : ℤ) → n.form ≡ form.Long x → left_pointers n ≡ 0
long_left n x e = ap (λ v. left_pointers (with_form n v)) e ∙ search (rules, the_lemmas)

pub text_left : (n : Node) (x : List ℕ) → n.form ≡ form.Text x → left_pointers n ≡ 0
text_left n x e = ap (λ v. left_pointers (with_form n v)) e ∙ search (rules, the_lemmas)

pub boolean_left : (n : Node) (x : Bool) → n.form ≡ form.Boolean x → left_pointers n ≡ 0
boolean_left n x e = ap (λ v. left_pointers (with_form n v)) e ∙ search (rules, the_lemmas)

pub undef_left : (n : Node) → n.form ≡ form.Undef → left_pointers n ≡ 0
undef_left n e = ap (λ v. left_pointers (with_form n v)) e ∙ search (rules, the_lemmas)

pub null_left : (n : Node) → n.form ≡ form.Null → left_pointers n ≡ 0
null_left n e = ap (λ v. left_pointers (with_form n v)) e ∙ search (rules, the_lemmas)

pub name_left : (n : Node) (x : List ℕ) → n.form ≡ form.Name x → left_pointers n ≡ 0
name_left n x e = ap (λ v. left_pointers (with_form n v)) e ∙ search (rules, the_lemmas)

pub call_left : (n : Node) (f : List ℕ) (args : Vec Item Global) → n.form ≡ form.Call f args
    → left_pointers n ≡ 1 + items_pointers args.items
call_left n f args e = ap (λ v. left_pointers (with_form n v)) e ∙ search (rules, the_lemmas)

pub inside_left : (n : Node) (i : Box Item Global) → n.form ≡ form.Inside i → left_pointers n
    ≡ 1 + item_pointers i.value
inside_left n i e = ap (λ v. left_pointers (with_form n v)) e ∙ search (rules, the_lemmas)

pub unary_left : (n : Node) (op : UnaryOp) (a : Box Node Global) → n.form ≡ form.Unary op a
    → left_pointers n ≡ 1 + node_pointers a.value
unary_left n op a e = ap (λ v. left_pointers (with_form n v)) e ∙ search (rules, the_lemmas)

pub spine_left : (n : Node) (a : Box Node Global) (s : Box Step Global) (ss : Vec Step Global)
    → n.form ≡ form.Spine a s ss → left_pointers n
    ≡ max (node_pointers a.value) (max (step_pointers s.value) (steps_pointers ss.items))
spine_left n a s ss e = ap (λ v. left_pointers (with_form n v)) e ∙ search (rules, the_lemmas)

pub ruleset nodes = (
  long_left,
  text_left,
  boolean_left,
  undef_left,
  null_left,
  name_left,
  call_left,
  inside_left,
  unary_left,
)

-- all that a node with steps reaches
pub spine_pointers : (n : Node) (a : Box Node Global) (s : Box Step Global) (ss : Vec Step Global)
    → n.form ≡ form.Spine a s ss → node_pointers n
    ≡ 1 + max (node_pointers a.value) (max (step_pointers s.value) (steps_pointers ss.items))
spine_pointers n a s ss e = ap (λ v. node_pointers (with_form n v)) e ∙ search (rules, the_lemmas)

-- a node reaches one pointer more than as a left operand, at most
form_below : (f : Form-F Reach ℕ ℕ ℕ Reach ℕ) → (form_step f).whole ≤ 1 + (form_step f).left
form_below (Form-F.Long n) = omega arith
form_below (Form-F.Text t) = omega arith
form_below (Form-F.Boolean b) = omega arith
form_below Form-F.Undef = omega arith
form_below Form-F.Null = omega arith
form_below (Form-F.Name t) = omega arith
form_below (Form-F.Call f args) = omega arith
form_below (Form-F.Inside i) = omega arith
form_below (Form-F.Unary op n) = omega arith
form_below (Form-F.Spine a s ss) = omega arith

pub node_below : (n : Node) → node_pointers n ≤ 1 + left_pointers n
node_below n = search (rules, the_lemmas, form_below)

-- and as much where it has no steps
no_spine : (n : Node) (f : Form-F Form ItemForm Step Item Node Reference) → out-Form n.form ≡ f
    → ((a : Box Node Global) (s : Box Step Global) (ss : Vec Step Global) → n.form
    ≡ form.Spine a s ss → ⊥) → left_pointers n ≡ node_pointers n
no_spine n (Form-F.Spine a s ss) e h = absurd (h a s ss (search (rules, the_lemmas, e)))
no_spine n (Form-F.Long x) e h = search (rules, the_lemmas, e)
no_spine n (Form-F.Text x) e h = search (rules, the_lemmas, e)
no_spine n (Form-F.Boolean x) e h = search (rules, the_lemmas, e)
no_spine n Form-F.Undef e h = search (rules, the_lemmas, e)
no_spine n Form-F.Null e h = search (rules, the_lemmas, e)
no_spine n (Form-F.Name x) e h = search (rules, the_lemmas, e)
no_spine n (Form-F.Call f args) e h = search (rules, the_lemmas, e)
no_spine n (Form-F.Inside i) e h = search (rules, the_lemmas, e)
no_spine n (Form-F.Unary op a) e h = search (rules, the_lemmas, e)

pub plain_left : (n : Node)
    → ((a : Box Node Global) (s : Box Step Global) (ss : Vec Step Global) → n.form
    ≡ form.Spine a s ss → ⊥) → left_pointers n ≡ node_pointers n
plain_left n h = no_spine n (out-Form n.form) refl h

-- ---- steps

pub index_step : (s : Step) (i : Item) → s ≡ step.Index i → step_pointers s ≡ item_pointers i
index_step s i e = ap step_pointers e ∙ search (rules, the_lemmas)

pub binary_step : (s : Step) (op : BinaryOp) (x : Node) → s ≡ step.Binary op x → step_pointers s
    ≡ node_pointers x
binary_step s op x e = ap step_pointers e ∙ search (rules, the_lemmas)

pub and_step : (s : Step) (x : Node) → s ≡ step.And x → step_pointers s ≡ node_pointers x
and_step s x e = ap step_pointers e ∙ search (rules, the_lemmas)

pub or_step : (s : Step) (x : Node) → s ≡ step.Or x → step_pointers s ≡ node_pointers x
or_step s x e = ap step_pointers e ∙ search (rules, the_lemmas)

pub ruleset steps = (index_step, binary_step, and_step, or_step)

-- a spine with a step more at its end
pub grown_left : (n y : Node) (a : Box Node Global) (s : Box Step Global)
    (old new : Vec Step Global) (t : Step) → n.form ≡ form.Spine a s old → y.form
    ≡ form.Spine a s new → new.items ≡ old.items ++ t ∷ [] → left_pointers y
    ≡ max (left_pointers n) (step_pointers t)
grown_left n y a s old new t en ey eq =
    let pushed : steps_pointers new.items ≡ max (steps_pointers old.items) (step_pointers t) =
    ap steps_pointers eq ∙ max_push steps_pointers step_pointers refl (λ x xs. refl) old.items t
    in
    omega (arith, spine_left n a s old en, spine_left y a s new ey, pushed)

-- a spine of one step
pub started_left : (n y : Node) (a : Box Node Global) (s : Box Step Global) (new : Vec Step Global)
    → y.form ≡ form.Spine a s new → new.items ≡ [] → a.value ≡ n → left_pointers y
    ≡ max (node_pointers n) (step_pointers s.value)
started_left n y a s new ey none ea =
    let empty : steps_pointers new.items ≡ 0 = ap steps_pointers none in
    omega (arith, spine_left y a s new ey, ap node_pointers ea, empty)

-- ---- items

pub block_pointers : (i : Item) (is : Vec Item Global) → i.form ≡ item_form.Block is
    → item_pointers i ≡ 1 + items_pointers is.items
block_pointers i is e = ap (λ v. item_pointers (with_item_form i v)) e ∙ search (rules, the_lemmas)

pub if_pointers : (i : Item) (c : Box Item Global) (t : Box Item Global) → i.form
    ≡ item_form.If c t None → item_pointers i ≡ 1 + max (item_pointers c.value)
    (item_pointers t.value)
if_pointers i c t e = ap (λ v. item_pointers (with_item_form i v)) e ∙ search (rules, the_lemmas)

pub if_else_pointers : (i : Item) (c : Box Item Global) (t : Box Item Global) (o : Box Item Global)
    → i.form ≡ item_form.If c t (Some o) → item_pointers i
    ≡ 1 + max (item_pointers c.value) (max (item_pointers t.value) (item_pointers o.value))
if_else_pointers i c t o e =
    ap (λ v. item_pointers (with_item_form i v)) e ∙ search (rules, the_lemmas)

pub while_pointers : (i : Item) (c : Box Item Global) (t : Box Item Global) → i.form
    ≡ item_form.While c t → item_pointers i ≡ 1 + max (item_pointers c.value)
    (item_pointers t.value)
while_pointers i c t e = ap (λ v. item_pointers (with_item_form i v)) e ∙ search (rules, the_lemmas)

pub for_pointers : (i : Item) (a : Box Item Global) (c : Box Item Global) (n : Box Item Global)
    (t : Box Item Global) → i.form ≡ item_form.For a c n t → item_pointers i
    ≡ 1 + max (max (item_pointers a.value) (item_pointers c.value))
    (max (item_pointers n.value) (item_pointers t.value))
for_pointers i a c n t e =
    ap (λ v. item_pointers (with_item_form i v)) e ∙ search (rules, the_lemmas)

pub foreach_pointers : (i : Item) (k : List ℕ) (v : List ℕ) (c : Box Item Global)
    (t : Box Item Global) → i.form ≡ item_form.Foreach k v c t → item_pointers i
    ≡ 1 + max (item_pointers c.value) (item_pointers t.value)
foreach_pointers i k v c t e =
    ap (λ v. item_pointers (with_item_form i v)) e ∙ search (rules, the_lemmas)

pub assign_pointers : (i : Item) (r : Reference) (o : Box Item Global) → i.form
    ≡ item_form.Assign r o → item_pointers i ≡ max (reference_pointers r)
    (1 + item_pointers o.value)
assign_pointers i r o e =
    ap (λ v. item_pointers (with_item_form i v)) e ∙ search (rules, the_lemmas)

pub plain_pointers : (i : Item) (n : Node) → i.form ≡ item_form.Plain n → item_pointers i
    ≡ node_pointers n
plain_pointers i n e = ap (λ v. item_pointers (with_item_form i v)) e ∙ search (rules, the_lemmas)

pub indexes_pointers : (r : Reference) → reference_pointers r
    ≡ 1 + items_pointers (out-Reference r).indexes.items
indexes_pointers r = search (rules, the_lemmas)

pub ruleset items = (
  block_pointers,
  if_pointers,
  if_else_pointers,
  while_pointers,
  for_pointers,
  foreach_pointers,
  assign_pointers,
  plain_pointers,
  indexes_pointers,
)

-- ---- types

pub own_pointers : (f : Field) (k : List ℕ) (p : Place) (r : Bool) (t : FullType) → f
    ≡ field.Own k p r t → field_pointers f ≡ full_pointers t
own_pointers f k p r t e = ap field_pointers e ∙ search (rules, type_lemmas)

pub include_pointers : (f : Field) (p : Place) (n : List ℕ) (q : Place) → f ≡ field.Include p n q
    → field_pointers f ≡ 0
include_pointers f p n q e = ap field_pointers e ∙ search (rules, type_lemmas)

pub named_pointers : (h : Head) (n : List ℕ) (p : Place) (b : Option Bounds) → h ≡ head.Named n p b
    → head_pointers h ≡ 0
named_pointers h n p b e = ap head_pointers e ∙ search (rules, type_lemmas)

pub record_pointers : (h : Head) (r : RecordForm) → h ≡ head.Record r → head_pointers h
    ≡ 1 + fields_pointers r.fields.items
record_pointers h r e = ap head_pointers e ∙ search (rules, type_lemmas)

pub choice_pointers : (h : Head) (texts : Vec (List ℕ) Global) → h ≡ head.Choice texts
    → head_pointers h ≡ 1
choice_pointers h texts e = ap head_pointers e ∙ search (rules, type_lemmas)

pub whole_pointers : (f : FullType) → full_pointers f
    ≡ max (type_pointers f.form) (max (option_pointers f.default) (shared_pointers f.with))
whole_pointers f = search (rules, type_lemmas)

pub suffixed_pointers : (t : TypeForm) → type_pointers t ≡ max 1 (head_pointers t.head)
suffixed_pointers t = search (rules, type_lemmas)

pub ruleset types = (
  own_pointers,
  include_pointers,
  named_pointers,
  record_pointers,
  choice_pointers,
  whole_pointers,
  suffixed_pointers,
)

-- ---- lists: one more at the end, and the one at a place

pub items_push : (new is : List Item) (i : Item) → new ≡ is ++ i ∷ [] → items_pointers new
    ≡ max (items_pointers is) (item_pointers i)
items_push new is i e = ap items_pointers e ∙ max_push items_pointers item_pointers refl
    (λ x xs. refl) is i

pub fields_push : (new fs : List Field) (f : Field) → new ≡ fs ++ f ∷ [] → fields_pointers new
    ≡ max (fields_pointers fs) (field_pointers f)
fields_push new fs f e =
    ap fields_pointers e ∙ max_push fields_pointers field_pointers refl (λ x xs. refl) fs f

pub statements_push : (new ss : List Statement) (s : Statement) → new ≡ ss ++ s ∷ []
    → statements_pointers new ≡ max (statements_pointers ss) (statement_pointers s)
statements_push new ss s e =
    ap statements_pointers e ∙ max_push statements_pointers statement_pointers refl (λ x xs. refl)
    ss s

pub item_within : (is : List Item) (i : ℕ) (x : Item) → i < length is → x ≡ get_or is i x
    → item_pointers x ≤ items_pointers is
item_within is i x h e =
    omega (
      arith,
      max_bounds items_pointers item_pointers refl (λ y ys. refl) is i x h,
      ap
          item_pointers e,
    )

pub step_within : (ss : List Step) (i : ℕ) (x : Step) → i < length ss → x ≡ get_or ss i x
    → step_pointers x ≤ steps_pointers ss
step_within ss i x h e =
    omega (
      arith,
      max_bounds steps_pointers step_pointers refl (λ y ys. refl) ss i x h,
      ap
          step_pointers e,
    )

pub field_within : (fs : List Field) (i : ℕ) (x : Field) → i < length fs → x ≡ get_or fs i x
    → field_pointers x ≤ fields_pointers fs
field_within fs i x h e =
    omega (
      arith,
      max_bounds fields_pointers field_pointers refl (λ y ys. refl) fs i x h,
      ap
          field_pointers e,
    )

pub statement_within : (ss : List Statement) (i : ℕ) (x : Statement) → i < length ss → x
    ≡ get_or ss i x → statement_pointers x ≤ statements_pointers ss
statement_within ss i x h e =
    omega (
      arith,
      max_bounds statements_pointers statement_pointers refl (λ y ys. refl) ss i x h,
      ap
          statement_pointers e,
    )
