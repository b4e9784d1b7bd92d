-- What an item means, and a chain in it. `go` is what is opened inside: an item, an operator before
-- its operand, an argument that is a reference.
use Rattle.std.specs.Prelude.{ℕ, zero, suc, List, [], ◌∷◌, length}
use Rattle.path_tree.specs.Plain.{Plain, text, long, boolean, undef, null}
use Rattle.pan_ast.specs.declared.place.Place.{Place}
use Rattle.pan_ast.specs.declared.fault.Code.TheVariants as code
use Rattle.pan_ast.specs.Syntax.{Item, Node, Items, Reference, Step, Block, If, IfElse, While, For, Foreach, Assign, Plain as Chain, Refer, Long, Text, Boolean, Undef, Null, Name, Call, Inside, Index, Unary, Binary, And, Or, item_place, AtIndex, AtBinary, AtAnd, AtOr}
use Rattle.questions.specs.Run.{◌>>=◌, give, fail, step}
use Rattle.dml_meaning.specs.Run.{Run}
use Rattle.dml_meaning.specs.Around.{Around}
use Rattle.dml_meaning.specs.Means.{Means}
use Rattle.dml_meaning.specs.Names.{no_indexes, may_change, change}
use Rattle.dml_meaning.specs.Leaves.{literal_run, name_run, apply_index, apply_binary, apply_unary, apply_boolean, both, either}
use Rattle.dml_meaning.specs.References.{block_from, values_from, reach_run}
use Rattle.dml_meaning.specs.Loops.{choose, while_turns, for_turns, each_of}
use Rattle.dml_meaning.specs.Calls.{call_run}

unfoldable pub node_run : Means → Around → Node → Run Plain
node_run go a (Long p n) = literal_run p (long n)
node_run go a (Text p t) = literal_run p (text t)
node_run go a (Boolean p b) = literal_run p (boolean b)
node_run go a (Undef p) = literal_run p undef
node_run go a (Null p) = literal_run p null
node_run go a (Name p x) = name_run a p x
node_run go a (Call p f args) = call_run go a p f args
node_run go a (Inside p i) = go.opens a i
node_run go a (Unary p op x) = go.signs a p op x
node_run go a (Index p x i) = node_run go a x >>= (λ t. go.opens a i >>= apply_index p t)
node_run go a (Binary p op x y) = node_run go a x >>= (λ s. node_run go a y >>= apply_binary p op s)
node_run go a (And p x y) = node_run go a x >>= both p (node_run go a y)
node_run go a (Or p x y) = node_run go a x >>= either p (node_run go a y)

-- what a step does to the value to its left: the chain `x s` means x and then this
unfoldable pub step_run : Means → Around → Place → Plain → Step → Run Plain
step_run go a p t (AtIndex i) = go.opens a i >>= apply_index p t
step_run go a p t (AtBinary op y) = node_run go a y >>= apply_binary p op t
step_run go a p t (AtAnd y) = both p (node_run go a y) t
step_run go a p t (AtOr y) = either p (node_run go a y) t

-- the steps of a chain, from the left
unfoldable pub steps_run : Means → Around → Place → List Step → Plain → Run Plain
steps_run go a p [] t = give t
steps_run go a p (s ∷ ss) t = step_run go a p t s >>= steps_run go a p ss

abbrev pub spine_run : Means → Around → Place → Node → List Step → Run Plain
spine_run go a p x ss = node_run go a x >>= steps_run go a p ss

-- the right operand of `&&` or `||`, which decides
abbrev pub second_run : Means → Around → Place → Node → Run Plain
second_run go a p y = node_run go a y >>= apply_boolean p

-- n steps of work at a place
unfoldable pub steps : ℕ → Place → Run (Unit {0})
steps zero p = give tt
steps (suc n) p = step p >>= (λ _. steps n p)

-- a step for each index, and the change; the value is that of the right side
abbrev pub set_value : Place → List ℕ → List Plain → Plain → Run Plain
set_value p x ks v = do
  _ ← steps (length ks) p
  _ ← change p x ks v
  give v

-- the indexes, then the right side
unfoldable pub set_run : Means → Around → Place → List ℕ → Items → Item → Run Plain
set_run go a p x is i = do
  ks ← values_from go a is []
  v ← go.opens a i
  set_value p x ks v

-- an assignment: first whether the name may be changed
unfoldable pub assign_run : Means → Around → Reference → Item → Run Plain
assign_run go a (Refer p x is) i = do
  _ ← may_change a p x (no_indexes is)
  set_run go a p x is i

-- an item that has begun
unfoldable pub item_run : Means → Around → Item → Run Plain
item_run go a (Block p is) = block_from go a is undef
item_run go a (If p c t) = choose go a c (go.opens a t) (give undef)
item_run go a (IfElse p c t e) = choose go a c (go.opens a t) (go.opens a e)
item_run go a (While p c b) = while_turns a.iterations go a p c b undef
item_run go a (For p i c s b) = do
  _ ← go.opens a i
  for_turns a.iterations go a p c s b undef
item_run go a (Foreach p k v r b) = go.opens a r >>= each_of go a p k v b
item_run go a (Assign p r i) = assign_run go a r i
item_run go a (Chain p n) = node_run go a n

-- An item costs a step when it begins. An operator before its operand costs one when it is applied.

-- where nothing more may be open
abbrev pub closed : Means
closed = record {
  opens = λ a i. step (item_place i) >>= (λ _. fail code.CallDepth (item_place i));
  signs = λ a p op x. fail code.CallDepth p;
  reaches = λ a w p r. step p >>= (λ _. fail code.CallDepth p);
}

-- where one more may be open than go allows inside it
abbrev pub opened : Means → Means
opened go = record {
  opens = λ a i. step (item_place i) >>= (λ _. item_run go a i);
  signs = λ a p op x. node_run go a x >>= apply_unary p op;
  reaches = λ a w p r. step p >>= (λ _. reach_run go a w r);
}

-- what is opened where n more items and operators before operands may be open
unfoldable pub eval : ℕ → Means
eval zero = closed
eval (suc n) = opened (eval n)
