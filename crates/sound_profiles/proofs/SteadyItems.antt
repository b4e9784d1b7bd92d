-- Items are steady runs, however many may be open.
use Rattle.std.proofs.Common.{ℕ, zero, suc, ◌-◌, List, [], ◌∷◌, Option, Some, None, Bool}
use Rattle.path_tree.specs.Plain.{Plain}
use Rattle.path_tree.specs.declared.kind.Kind.{Kind}
use Rattle.path_tree.specs.declared.kind.Kind.TheVariants as kind
use Rattle.pan_ast.specs.declared.place.Place.{Place}
use Rattle.pan_ast.specs.Syntax.{Item, Node, Items, Reference, Step, Plain as Chain, Refer, Name, Call, Index, Binary, And, Or, none, more, AtIndex}
use Rattle.dml_meaning.specs.declared.words.Own.{Own}
use Rattle.dml_meaning.specs.declared.words.Own.TheVariants as own
use Rattle.dml_meaning.specs.declared.words.Side.{Side}
use Rattle.dml_meaning.specs.declared.words.Test.{Test}
use Rattle.dml_meaning.specs.Run.{Run}
use Rattle.dml_meaning.specs.Around.{Around, ValueCall}
use Rattle.dml_meaning.specs.Lookups.{Looked, There}
use Rattle.dml_meaning.specs.Means.{Means, Purpose, ToRead, ToDelete, ToChange, Reached}
use Rattle.dml_meaning.specs.References.{block_from, values_from, index_step, reach_from, start_run, started, reach_run, reference_in}
use Rattle.dml_meaning.specs.Loops.{condition_run, choose, body_turn, while_turn, and_step, for_turn, after_turn, while_turns, for_turns, pair_turn, pair_turns, each_of}
use Rattle.dml_meaning.specs.BuiltIns.{value_found, path_exists_run, as_list, extend_list, extend_self, file_text, set_self, list_by, text_run, own_run, value_or_nothing, test_run, exists_by, delete_by, copy_extended, may_extend, extend_reached, reference_extended, extend_by, own_values_run, own_call_run}
use Rattle.dml_meaning.specs.Calls.{body_run, function_run, values_run, call_by, call_run}
use Rattle.dml_meaning.specs.Meaning.{node_run, step_run, steps_run, set_run, assign_run, item_run, eval}
use Rattle.sound_profiles.proofs.Steady.{Steady, steady_scoped, steady_still}
use Rattle.sound_profiles.proofs.SteadyLeaves.{SteadyMeans, pieces, look_steady, looked_up_steady, bytes_steady}
use Rattle.sound_profiles.proofs.SteadyValues.{about_steady, may_change_steady, change_steady, set_pair_steady, set_value_steady, refuse_steady, boolean_steady, literal_steady, name_steady, text_steady, apply_index_steady, apply_binary_steady, apply_unary_steady, both_steady, either_steady, open_call_steady}
use Rattle.sound_profiles.proofs.SteadyCreate.{create_steady}

-- lists of items, and references

block_steady : (go : Means) → SteadyMeans go → (a : Around) (is : Items) (last : Plain)
    → Steady (block_from go a is last)
unfolding block_from
block_steady go h a none last = search pieces
block_steady go h a (more i is) last = let next = block_steady go h a is in search pieces

values_steady : (go : Means) → SteadyMeans go → (a : Around) (is : Items) (done : List Plain)
    → Steady (values_from go a is done)
unfolding values_from
values_steady go h a none done = search pieces
values_steady go h a (more i is) done = let next = values_steady go h a is in search pieces

index_step_steady : (p : Place) (t : Option Plain) (k : Plain) → Steady (index_step p t k)
index_step_steady p t k = search pieces

reach_from_steady : (all : Bool) (go : Means) → SteadyMeans go
    → (a : Around) (p : Place) (is : Items) (ks : List Plain) (t : Option Plain)
    → Steady (reach_from all go a p is ks t)
unfolding reach_from
reach_from_steady all go h a p none ks t = search pieces
reach_from_steady all go h a p (more i is) ks t = let next = reach_from_steady all go h a p is in
    search (pieces, index_step_steady)

start_steady : (a : Around) (w : Purpose) (x : List ℕ) (whole : Bool)
    → Steady (start_run a w x whole)
start_steady a ToRead x whole = search pieces
start_steady a ToChange x whole = search pieces
start_steady a (ToDelete q) x whole = search (pieces, may_change_steady, about_steady)

started_steady : (a : Around) (w : Purpose) (r : Reference) → Steady (started a w r)
started_steady a w (Refer p x is) = search (pieces, start_steady)

reach_steady : (go : Means) → SteadyMeans go → (a : Around) (w : Purpose) (r : Reference)
    → Steady (reach_run go a w r)
unfolding reach_run
reach_steady go h a u (Refer p x is) = search (pieces, started_steady, reach_from_steady)

-- loops

condition_steady : (go : Means) → SteadyMeans go → (a : Around) (c : Item)
    → Steady (condition_run go a c)
unfolding condition_run
condition_steady go h a c = search (pieces, boolean_steady)

choose_steady : (go : Means) → SteadyMeans go → (a : Around) (c : Item) (first second : Run Plain)
    → Steady first → Steady second → Steady (choose go a c first second)
choose_steady go h a c first second k l = search (pieces, condition_steady)

body_turn_steady : (n : ℕ) (p : Place) (body : Run Plain) → Steady body
    → Steady (body_turn n p body)
body_turn_steady n p body h = search pieces

while_turn_steady : (n : ℕ) (go : Means) → SteadyMeans go → (a : Around) (p : Place) (c b : Item)
    → Steady (while_turn n go a p c b)
unfolding while_turn
while_turn_steady n go h a p c b = search (pieces, condition_steady, body_turn_steady)

and_step_steady : (step : Run Plain) (t : Option Plain) → Steady step → Steady (and_step step t)
and_step_steady step None h = search pieces
and_step_steady step (Some t) h = search pieces

for_turn_steady : (n : ℕ) (go : Means) → SteadyMeans go → (a : Around) (p : Place) (c s b : Item)
    → Steady (for_turn n go a p c s b)
unfolding for_turn
for_turn_steady n go h a p c s b = search (pieces, while_turn_steady, and_step_steady)

after_steady : (next : Plain → Run Plain) (last : Plain) (t : Option Plain)
    → ((t : Plain) → Steady (next t)) → Steady (after_turn next last t)
after_steady next last None h = search pieces
after_steady next last (Some t) h = h t

while_steady : (n : ℕ) (go : Means) → SteadyMeans go
    → (a : Around) (p : Place) (c b : Item) (last : Plain) → Steady (while_turns n go a p c b last)
unfolding while_turns
while_steady zero go h a p c b last = search (pieces, while_turn_steady, after_steady)
while_steady (suc n) go h a p c b last = let next = while_steady n go h a p c b in
    search (pieces, while_turn_steady, after_steady)

for_steady : (n : ℕ) (go : Means) → SteadyMeans go
    → (a : Around) (p : Place) (c s b : Item) (last : Plain)
    → Steady (for_turns n go a p c s b last)
unfolding for_turns
for_steady zero go h a p c s b last = search (pieces, for_turn_steady, after_steady)
for_steady (suc n) go h a p c s b last = let next = for_steady n go h a p c s b in
    search (pieces, for_turn_steady, after_steady)

pair_turn_steady : (n : ℕ) (go : Means) → SteadyMeans go
    → (a : Around) (p : Place) (k v : List ℕ) (b : Item) (pair : Plain × Plain)
    → Steady (pair_turn n go a p k v b pair)
unfolding pair_turn
pair_turn_steady n go h a p k v b pair = search (pieces, body_turn_steady, set_pair_steady)

pairs_steady : (n : ℕ) (go : Means) → SteadyMeans go
    → (a : Around) (p : Place) (k v : List ℕ) (b : Item) (pairs : List (Plain × Plain))
    (last : Plain) → Steady (pair_turns n go a p k v b pairs last)
unfolding pair_turns
pairs_steady n go h a p k v b [] last = search pieces
pairs_steady n go h a p k v b (pair ∷ pairs) last = let next =
    pairs_steady (n - 1) go h a p k v b pairs in search (pieces, pair_turn_steady)

each_steady : (go : Means) → SteadyMeans go → (a : Around) (p : Place) (k v : List ℕ) (b : Item)
    (t : Plain) → Steady (each_of go a p k v b t)
unfolding each_of
each_steady go h a p k v b t = search (pieces, pairs_steady)

-- functions

body_steady : (go : Means) → SteadyMeans go → (a : Around) (b : Item) → Steady (body_run go a b)
unfolding body_run
body_steady go h a b = search (pieces, steady_scoped)

function_steady : (go : Means) → SteadyMeans go
    → (a : Around) (p : Place) (f : List ℕ) (args : Items) (b : Option Item)
    → Steady (function_run go a p f args b)
unfolding function_run
function_steady go h a p f args None = search pieces
function_steady go h a p f args (Some b) =
    search (pieces, values_steady, open_call_steady, body_steady)

-- built-in functions of values

found_steady : (p : Place) (t : List ℕ) (l : Looked) → Steady (value_found p t l)
found_steady p t (There v) = search pieces
found_steady p t _ = search pieces

exists_steady : (a : Around) (p : Place) (t : List ℕ) → Steady (path_exists_run a p t)
exists_steady a p t = search (pieces, steady_still, look_steady)

list_by_steady : (p : Place) (t : Plain) (k : Kind) → Steady (list_by p t k)
list_by_steady p t kind.List = search pieces
list_by_steady p t kind.Undef = search pieces
list_by_steady p t _ = search pieces

list_steady : (p : Place) (t u : Plain) → Steady (as_list p t u)
list_steady p t u = search (pieces, list_by_steady)

set_self_steady : (t : Plain) → Steady (set_self t)
set_self_steady t = search pieces

extend_list_steady : (p : Place) (s : Side) (t u : Plain) → Steady (extend_list p s t u)
extend_list_steady p s t u = search (pieces, list_steady, refuse_steady)

extend_self_steady : (a : Around) (p : Place) (s : Side) (v : Plain) → Steady (extend_self a p s v)
extend_self_steady a p s v = search (pieces, extend_list_steady, set_self_steady)

file_text_steady : (p : Place) (f bs : List ℕ) → Steady (file_text p f bs)
file_text_steady p f bs = search pieces

text_run_steady : (a : Around) (p : Place) (b : Own) (t : List ℕ) → Steady (text_run a p b t)
unfolding text_run
text_run_steady a p own.Value t = search (pieces, steady_still, look_steady, found_steady)
text_run_steady a p own.PathExists t = exists_steady a p t
text_run_steady a p own.IfExists t = search (pieces, steady_still, looked_up_steady)
text_run_steady a p own.FileContents t =
    search (pieces, steady_still, looked_up_steady, bytes_steady, file_text_steady)
text_run_steady a p own.FileExists t = search (pieces, steady_still, looked_up_steady)
text_run_steady a p own.Error t = search pieces
text_run_steady a p _ t = search pieces

own_steady : (a : Around) (p : Place) (b : Own) (ts : List Plain) → Steady (own_run a p b ts)
unfolding own_run
own_steady a p (own.Extend s) (v ∷ []) = search (pieces, extend_self_steady)
own_steady a p own.Return (v ∷ []) = search pieces
own_steady a p own.Ignore ts = search pieces
own_steady a p b (v ∷ []) = search (pieces, text_steady, text_run_steady)
own_steady a p _ _ = search pieces

-- those that take references

argument_steady : (go : Means) → SteadyMeans go → (a : Around) (i : Item) (r : Option Reference)
    → Steady (value_or_nothing go a i r)
argument_steady go h a i (Some r) = search pieces
argument_steady go h a i None = search pieces

test_steady : (go : Means) → SteadyMeans go → (a : Around) (q : Test) (i : Item)
    → Steady (test_run go a q i)
test_steady go h a q i = search (pieces, argument_steady)

exists_by_steady : (go : Means) → SteadyMeans go
    → (a : Around) (p : Place) (i : Item) (r : Option Reference) → Steady (exists_by go a p i r)
exists_by_steady go h a p i (Some r) = search pieces
exists_by_steady go h a p i None = search (pieces, text_steady, exists_steady)

delete_steady : (go : Means) → SteadyMeans go
    → (a : Around) (p : Place) (i : Item) (r : Option Reference) → Steady (delete_by go a p i r)
delete_steady go h a p i (Some (Refer q x is)) = search pieces
delete_steady go h a p i None = search pieces

copy_steady : (go : Means) → SteadyMeans go → (a : Around) (p : Place) (s : Side) (l v : Item)
    → Steady (copy_extended go a p s l v)
copy_steady go h a p s l v = search (pieces, extend_list_steady)

may_extend_steady : (a : Around) (p : Place) (x : List ℕ) → Steady (may_extend a p x)
may_extend_steady a p x = search pieces

extend_reached_steady : (a : Around) (p : Place) (s : Side) (x : List ℕ) (r : Reached) (u : Plain)
    → Steady (extend_reached a p s x r u)
extend_reached_steady a p s x r u =
    search (pieces, list_steady, may_extend_steady, refuse_steady, change_steady) depth 10

reference_steady : (go : Means) → SteadyMeans go
    → (a : Around) (p : Place) (s : Side) (q : Place) (r : Reference) (v : Item)
    → Steady (reference_extended go a p s q r v)
reference_steady go h a p s q (Refer o x is) v = search (pieces, extend_reached_steady)

extend_steady : (go : Means) → SteadyMeans go
    → (a : Around) (p : Place) (s : Side) (l v : Item) (r : Option Reference)
    → Steady (extend_by go a p s l v r)
extend_steady go h a p s l v None = copy_steady go h a p s l v
extend_steady go h a p s l v (Some (Refer q x is)) = search (pieces, reference_steady, copy_steady)

-- calls

own_values_steady : (go : Means) → SteadyMeans go
    → (a : Around) (p : Place) (b : Own) (args : Items) → Steady (own_values_run go a p b args)
own_values_steady go h a p b args = search (pieces, values_steady, own_steady)

own_call_steady : (go : Means) → SteadyMeans go → (a : Around) (p : Place) (b : Own) (args : Items)
    → Steady (own_call_run go a p b args)
unfolding own_call_run
own_call_steady go h a p (own.Is q) (more i none) = search (pieces, test_steady)
own_call_steady go h a p own.Exists (more i none) = exists_by_steady go h a p i (reference_in i)
own_call_steady go h a p own.Delete (more i none) = search (pieces, delete_steady)
own_call_steady go h a p (own.Extend s) (more l (more v none)) = search (pieces, extend_steady)
own_call_steady go h a p own.Create args = search (pieces, values_steady, create_steady)
own_call_steady go h a p _ _ = search own_values_steady

values_run_steady : (go : Means) → SteadyMeans go
    → (a : Around) (p : Place) (v : ValueCall) (args : Items) → Steady (values_run go a p v args)
values_run_steady go h a p v args = search (pieces, values_steady, refuse_steady)

call_by_steady : (go : Means) → SteadyMeans go
    → (a : Around) (p : Place) (f : List ℕ) (args : Items) (b : Option Own) (v : Option ValueCall)
    → Steady (call_by go a p f args b v)
unfolding call_by
call_by_steady go h a p f args (Some b) v = own_call_steady go h a p b args
call_by_steady go h a p f args None (Some v) = search (pieces, values_run_steady)
call_by_steady go h a p f args None None = search (pieces, function_steady)

call_steady : (go : Means) → SteadyMeans go → (a : Around) (p : Place) (f : List ℕ) (args : Items)
    → Steady (call_run go a p f args)
call_steady go h a p f args = search (pieces, call_by_steady)

-- chains and items

node_steady : (go : Means) → SteadyMeans go → (a : Around) (n : Node) → Steady (node_run go a n)
unfolding node_run
node_steady go h a (Name p x) = name_steady a p x
node_steady go h a (Call p f args) = call_steady go h a p f args
node_steady go h a (Index p x i) = let left = node_steady go h a x in
    search (pieces, apply_index_steady)
node_steady go h a (Binary p op x y) = let left = node_steady go h a x in let right =
    node_steady go h a y in search (pieces, apply_binary_steady)
node_steady go h a (And p x y) = let left = node_steady go h a x in let right =
    node_steady go h a y in search (pieces, both_steady)
node_steady go h a (Or p x y) = let left = node_steady go h a x in let right =
    node_steady go h a y in search (pieces, either_steady)
node_steady go h a _ = search (pieces, literal_steady)

step_steady : (go : Means) → SteadyMeans go → (a : Around) (p : Place) (t : Plain) (s : Step)
    → Steady (step_run go a p t s)
unfolding step_run
step_steady go h a p t (AtIndex i) = search (pieces, apply_index_steady)
step_steady go h a p t _ =
    search (pieces, node_steady, apply_binary_steady, both_steady, either_steady)

pub chain_steady : (go : Means) → SteadyMeans go
    → (a : Around) (p : Place) (ss : List Step) (t : Plain) → Steady (steps_run go a p ss t)
unfolding steps_run
chain_steady go h a p [] t = search pieces
chain_steady go h a p (s ∷ ss) t = let next = chain_steady go h a p ss in
    search (pieces, step_steady)

set_steady : (go : Means) → SteadyMeans go → (a : Around) (p : Place) (x : List ℕ) (is : Items)
    (i : Item) → Steady (set_run go a p x is i)
unfolding set_run
set_steady go h a p x is i = search (pieces, values_steady, set_value_steady)

assign_steady : (go : Means) → SteadyMeans go → (a : Around) (r : Reference) (i : Item)
    → Steady (assign_run go a r i)
unfolding assign_run
assign_steady go h a (Refer p x is) i = search (pieces, may_change_steady, set_steady)

item_steady : (go : Means) → SteadyMeans go → (a : Around) (i : Item) → Steady (item_run go a i)
unfolding item_run
item_steady go h a (Chain p n) = node_steady go h a n
item_steady go h a _ = search (
  pieces,
  block_steady,
  choose_steady,
  while_steady,
  for_steady,
  each_steady,
  assign_steady,
)

-- items, operators before operands and references as arguments are steady, however many may be open
pub eval_steady : (n : ℕ) → SteadyMeans (eval n)
unfolding eval
eval_steady zero = record {
  opens = λ a i. search pieces;
  signs = λ a p op x. search pieces;
  reaches = λ a u p r. search pieces;
}
eval_steady (suc n) =
    let h = eval_steady n in
    record {
      opens = λ a i. search (pieces, item_steady);
      signs = λ a p op x. search (pieces, node_steady, apply_unary_steady);
      reaches = λ a u p r. search (pieces, reach_steady);
    }
