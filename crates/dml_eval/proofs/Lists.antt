-- Lists that are walked, a step at a time.
use Rattle.std.proofs.Common.{◌≡◌, ◌∙◌, ap, sym, ℕ, zero, suc, ◌+◌, ◌-◌, ◌<◌, ◌≤◌, List, [], ◌∷◌, ◌++◌, None, length, drop, get_or, refl, arith, unwrap_or, pos}
use Rattle.std.proofs.lemmas.List.{drop_more}
use Rattle.path_tree.specs.Plain.{Plain, dict, list, text, long, boolean, undef, null, Items as Trees, no_items, item, Fields, no_fields, field}
use Rattle.path_tree.specs.Find.{child_count, item_count, field_count, item_at}
use Rattle.pan_ast.specs.declared.place.Place.{Place}
use Rattle.pan_ast.specs.declared.syntax.Item.{Item as RItem}
use Rattle.pan_ast.specs.Syntax.{Item, more, none}
use Rattle.pan_ast.specs.Seen.{item_seen, items_seen}
use Rattle.questions.specs.Contents.{Answers}
use Rattle.questions.specs.Run.{Meter, Done, give, then}
use Rattle.dml_meaning.specs.Run.{Env}
use Rattle.dml_meaning.specs.Around.{Around}
use Rattle.dml_meaning.specs.Means.{Means}
use Rattle.dml_meaning.specs.References.{block_from, values_from}
use Rattle.dml_meaning.specs.Loops.{while_turn, while_turns, for_turn, for_turns, after_turn, pairs_of, pairs_of_items, pairs_of_fields, pair_at, pair_turn, pair_turns}

-- the item at i, and those after it
pub block_more : (go : Means) (a : Around) (is : List RItem) (i : ℕ) (x : RItem) (last : Plain)
    (o : Answers) (e : Env) (m : Meter) → i < length is → x ≡ get_or is i x
    → block_from go a (items_seen (drop i is)) last o e m
    ≡ then (go.opens a (item_seen x) o e m) (λ t. block_from go a (items_seen (drop (i + 1) is)) t
    o)
unfolding block_from
block_more go a is i x last o e m h is_x =
    ap (λ xs. block_from go a (items_seen xs) last o e m)
    (drop_more is i x h ∙ ap (λ y. y ∷ drop (i + 1) is) (sym is_x))

pub values_more : (go : Means) (a : Around) (is : List RItem) (i : ℕ) (x : RItem)
    (done : List Plain) (o : Answers) (e : Env) (m : Meter) → i < length is → x ≡ get_or is i x
    → values_from go a (items_seen (drop i is)) done o e m
    ≡ then (go.opens a (item_seen x) o e m) (λ t. values_from go a (items_seen (drop (i + 1) is))
    (done ++ t ∷ []) o)
unfolding values_from
values_more go a is i x done o e m h is_x =
    ap (λ xs. values_from go a (items_seen xs) done o e m)
    (drop_more is i x h ∙ ap (λ y. y ∷ drop (i + 1) is) (sym is_x))

pub ruleset items = (block_more, values_more)

-- no items
pub no_values : (go : Means) (a : Around) (done : List Plain) (o : Answers) (e : Env) (m : Meter)
    → values_from go a none done o e m ≡ Done done e m
unfolding values_from
no_values go a done o e m = refl

-- one item
pub one_value : (go : Means) (a : Around) (i : Item) (o : Answers) (e : Env) (m : Meter)
    → values_from go a (more i none) [] o e m
    ≡ then (go.opens a i o e m) (λ t. give (t ∷ []) o)
unfolding values_from
one_value go a i o e m = refl

-- a turn, and those after it
pub while_more : (n : ℕ) (go : Means) (a : Around) (p : Place) (c b : Item) (last : Plain)
    (o : Answers) (e : Env) (m : Meter) → 0 < n → while_turns n go a p c b last o e m
    ≡ then (while_turn n go a p c b o e m) (λ t. after_turn (while_turns (n - 1) go a p c b) last t
    o)
unfolding while_turns
while_more zero go a p c b last o e m h = absurd (omega arith)
while_more (suc n) go a p c b last o e m h = let k : suc n - 1 ≡ n = omega arith in rw k refl

-- a turn that finds the loop over
pub while_over : (n : ℕ) (go : Means) (a : Around) (p : Place) (c b : Item) (last : Plain)
    (o : Answers) (e s : Env) (m k : Meter) → while_turn n go a p c b o e m ≡ Done None s k
    → while_turns n go a p c b last o e m ≡ Done last s k
unfolding while_turns
while_over zero go a p c b last o e s m k h = ap (λ z. then z (λ t. after_turn give last t o)) h
while_over (suc n) go a p c b last o e s m k h =
    ap (λ z. then z (λ t. after_turn (while_turns n go a p c b) last t o)) h

pub for_more : (n : ℕ) (go : Means) (a : Around) (p : Place) (c s b : Item) (last : Plain)
    (o : Answers) (e : Env) (m : Meter) → 0 < n → for_turns n go a p c s b last o e m
    ≡ then (for_turn n go a p c s b o e m) (λ t. after_turn (for_turns (n - 1) go a p c s b) last t
    o)
unfolding for_turns
for_more zero go a p c s b last o e m h = absurd (omega arith)
for_more (suc n) go a p c s b last o e m h = let k : suc n - 1 ≡ n = omega arith in rw k refl

pub for_over : (n : ℕ) (go : Means) (a : Around) (p : Place) (c s b : Item) (last : Plain)
    (o : Answers) (e f : Env) (m k : Meter) → for_turn n go a p c s b o e m ≡ Done None f k
    → for_turns n go a p c s b last o e m ≡ Done last f k
unfolding for_turns
for_over zero go a p c s b last o e f m k h = ap (λ z. then z (λ t. after_turn give last t o)) h
for_over (suc n) go a p c s b last o e f m k h =
    ap (λ z. then z (λ t. after_turn (for_turns n go a p c s b) last t o)) h

-- the child at a place, and those after it
pairs_fields : (fs : Fields) (i : ℕ) → i < field_count fs → drop i (pairs_of_fields fs)
    ≡ pair_at i (dict fs) ∷ drop (i + 1) (pairs_of_fields fs)
pairs_fields no_fields i h = absurd (omega arith)
pairs_fields (field k t fs) zero h = refl
pairs_fields (field k t fs) (suc i) h = let e : suc i + 1 ≡ suc (i + 1) = omega arith in
    rw e (pairs_fields fs i (omega arith))

pairs_items : (ts : Trees) (n i : ℕ) → i < item_count ts → drop i (pairs_of_items n ts)
    ≡ (long (pos (n + i)), unwrap_or (item_at i ts) undef) ∷ drop (i + 1) (pairs_of_items n ts)
pairs_items no_items n i h = absurd (omega arith)
pairs_items (item t ts) n zero h = let e : n + 0 ≡ n = omega arith in rw e refl
pairs_items (item t ts) n (suc i) h =
    let e : suc i + 1 ≡ suc (i + 1) = omega arith in
    let f : n + suc i ≡ suc n + i = omega arith in
    rw (e, f) (pairs_items ts (suc n) i (omega arith))

pairs_list : (ts : Trees) (i : ℕ) → i < item_count ts → drop i (pairs_of_items 0 ts)
    ≡ (long (pos i), unwrap_or (item_at i ts) undef) ∷ drop (i + 1) (pairs_of_items 0 ts)
pairs_list ts i h = let f : 0 + i ≡ i = omega arith in pairs_items ts 0 i h ∙ rw f refl

pairs_at : (t : Plain) (i : ℕ) → i < child_count t → drop i (pairs_of t)
    ≡ pair_at i t ∷ drop (i + 1) (pairs_of t)
pairs_at (dict fs) i h = pairs_fields fs i h
pairs_at (list ts) i h = pairs_list ts i h
pairs_at (text bs) i h = absurd (omega arith)
pairs_at (long z) i h = absurd (omega arith)
pairs_at (boolean b) i h = absurd (omega arith)
pairs_at undef i h = absurd (omega arith)
pairs_at null i h = absurd (omega arith)

pub pairs_more : (t : Plain) (i n : ℕ) (go : Means) (a : Around) (p : Place) (k v : List ℕ)
    (b : Item) (last : Plain) (o : Answers) (e : Env) (m : Meter) → i < child_count t
    → pair_turns n go a p k v b (drop i (pairs_of t)) last o e m
    ≡ then (pair_turn n go a p k v b (pair_at i t) o e m)
    (λ u. pair_turns (n - 1) go a p k v b (drop (i + 1) (pairs_of t)) u o)
unfolding pair_turns
pairs_more t i n go a p k v b last o e m h =
    ap (λ ps. pair_turns n go a p k v b ps last o e m) (pairs_at t i h)

drop_past : {X : Type 0} → (xs : List X) (i : ℕ) → length xs ≤ i → drop i xs ≡ []
drop_past [] zero h = refl
drop_past [] (suc i) h = refl
drop_past (x ∷ xs) zero h = absurd (omega arith)
drop_past (x ∷ xs) (suc i) h = drop_past xs i (omega arith)

count_items : (ts : Trees) (n : ℕ) → length (pairs_of_items n ts) ≡ item_count ts
count_items no_items n = refl
count_items (item t ts) n = ap suc (count_items ts (suc n))

count_fields : (fs : Fields) → length (pairs_of_fields fs) ≡ field_count fs
count_fields no_fields = refl
count_fields (field k t fs) = ap suc (count_fields fs)

count_pairs : (t : Plain) → length (pairs_of t) ≡ child_count t
count_pairs (dict fs) = count_fields fs
count_pairs (list ts) = count_items ts 0
count_pairs (text bs) = refl
count_pairs (long z) = refl
count_pairs (boolean b) = refl
count_pairs undef = refl
count_pairs null = refl

-- behind the last child
pub pairs_end : (t : Plain) (i n : ℕ) (go : Means) (a : Around) (p : Place) (k v : List ℕ)
    (b : Item) (last : Plain) (o : Answers) (e : Env) (m : Meter) → child_count t ≤ i
    → pair_turns n go a p k v b (drop i (pairs_of t)) last o e m ≡ Done last e m
unfolding pair_turns
pairs_end t i n go a p k v b last o e m h =
    let c = count_pairs t in
    ap (λ ps. pair_turns n go a p k v b ps last o e m)
    (drop_past (pairs_of t) i (omega (arith, c, h)))

pub ruleset pairs = (pairs_more, pairs_end)
