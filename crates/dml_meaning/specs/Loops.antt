-- Conditions and loops: `while`, `for`, `foreach`.
use Rattle.std.specs.Prelude.{ℕ, zero, suc, ◌-◌, pos, List, [], ◌∷◌, Option, Some, None, unwrap_or, Bool, true, cond, nat_eq}
use Rattle.path_tree.specs.Plain.{Plain, dict, list, text, long, undef, Items as Trees, no_items, item, Fields, no_fields, field}
use Rattle.path_tree.specs.Find.{child_at, field_key_at}
use Rattle.pan_ast.specs.declared.place.Place.{Place}
use Rattle.pan_ast.specs.declared.fault.Code.TheVariants as code
use Rattle.pan_ast.specs.Syntax.{Item, item_place}
use Rattle.questions.specs.Run.{◌>>=◌, give, fail, step}
use Rattle.dml_meaning.specs.Run.{Run}
use Rattle.dml_meaning.specs.Around.{Around}
use Rattle.dml_meaning.specs.Values.{is_container}
use Rattle.dml_meaning.specs.Means.{Means}
use Rattle.dml_meaning.specs.Names.{may_change, change}
use Rattle.dml_meaning.specs.Leaves.{as_boolean}

unfoldable pub condition_run : Means → Around → Item → Run Bool
condition_run go a c = do
  t ← go.opens a c
  as_boolean code.NotBoolean (item_place c) t

-- one of two runs, by a condition
abbrev pub choose : Means → Around → Item → Run Plain → Run Plain → Run Plain
choose go a c first second = do
  holds ← condition_run go a c
  cond holds first second

-- a turn, where n more may be made
abbrev pub body_turn : ℕ → Place → Run Plain → Run Plain
body_turn n p body = cond (nat_eq n 0) (fail code.Iterations p) body

-- one turn of a `while`: its value, or none where the loop is over
unfoldable pub while_turn : ℕ → Means → Around → Place → Item → Item → Run (Option Plain)
while_turn n go a p c b = do
  holds ← condition_run go a c
  cond holds (body_turn n p (go.opens a b) >>= (λ t. give (Some t))) (give None)

abbrev pub and_step : Run Plain → Option Plain → Run (Option Plain)
and_step step None = give None
and_step step (Some t) = step >>= (λ _. give (Some t))

-- one turn of a `for`: one of a `while`, and then its step
unfoldable pub for_turn : ℕ → Means → Around → Place → Item → Item → Item → Run (Option Plain)
for_turn n go a p c s b = while_turn n go a p c b >>= and_step (go.opens a s)

abbrev pub after_turn : (Plain → Run Plain) → Plain → Option Plain → Run Plain
after_turn next last None = give last
after_turn next last (Some t) = next t

-- turns until one finds the loop over, where n more may be made; last is the value of the turn
-- before
unfoldable pub while_turns : ℕ → Means → Around → Place → Item → Item → Plain → Run Plain
while_turns zero go a p c b last = while_turn 0 go a p c b >>= after_turn give last
while_turns (suc n) go a p c b last =
    while_turn (suc n) go a p c b >>= after_turn (while_turns n go a p c b) last

unfoldable pub for_turns : ℕ → Means → Around → Place → Item → Item → Item → Plain → Run Plain
for_turns zero go a p c s b last = for_turn 0 go a p c s b >>= after_turn give last
for_turns (suc n) go a p c s b last =
    for_turn (suc n) go a p c s b >>= after_turn (for_turns n go a p c s b) last

-- what a `foreach` walks: key and value
abbrev pub pairs_of_items : ℕ → Trees → List (Plain × Plain)
pairs_of_items n no_items = []
pairs_of_items n (item t ts) = (long (pos n), t) ∷ pairs_of_items (suc n) ts

abbrev pub pairs_of_fields : Fields → List (Plain × Plain)
pairs_of_fields no_fields = []
pairs_of_fields (field k t fs) = (text k, t) ∷ pairs_of_fields fs

abbrev pub pairs_of : Plain → List (Plain × Plain)
pairs_of (list ts) = pairs_of_items 0 ts
pairs_of (dict fs) = pairs_of_fields fs
pairs_of _ = []

-- a name that is set by the rules of assignment
abbrev pub assign_name : Around → Place → List ℕ → Plain → Run (Unit {0})
assign_name a p x t = do
  _ ← may_change a p x true
  change p x [] t

-- the key of the child at a place: its key in a dict, its index in a list
abbrev pub key_value : ℕ → Plain → Plain
key_value i (dict fs) = text (unwrap_or (field_key_at i fs) [])
key_value i t = long (pos i)

-- the key and the value of the child at a place
abbrev pub pair_at : ℕ → Plain → Plain × Plain
pair_at i t = (key_value i t, unwrap_or (child_at i t) undef)

-- sets the names of key and value
abbrev pub set_pair : Around → Place → List ℕ → List ℕ → Plain × Plain → Run (Unit {0})
set_pair a p k v pair = do
  _ ← assign_name a p k pair.0
  assign_name a p v pair.1

-- one turn of a `foreach`, where n more may be made
unfoldable pub pair_turn : ℕ → Means → Around → Place → List ℕ → List ℕ → Item → Plain × Plain
    → Run Plain
pair_turn n go a p k v b pair = body_turn n p (set_pair a p k v pair >>= (λ _. go.opens a b))

-- a turn for each pair; last is the value of the turn before
unfoldable pub pair_turns : ℕ → Means → Around → Place → List ℕ → List ℕ → Item
    → List (Plain × Plain) → Plain → Run Plain
pair_turns n go a p k v b [] last = give last
pair_turns n go a p k v b (pair ∷ pairs) last =
    pair_turn n go a p k v b pair >>= pair_turns (n - 1) go a p k v b pairs

unfoldable pub each_of : Means → Around → Place → List ℕ → List ℕ → Item → Plain → Run Plain
each_of go a p k v b t = cond (is_container t) (pair_turns a.iterations go a p k v b (pairs_of t)
    undef) (fail code.BadArgument p)
