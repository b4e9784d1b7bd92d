-- The children of a tree, one after the other.
use Rattle.std.proofs.Common.{◌≡◌, ℕ, zero, suc, ◌+◌, ◌-◌, ◌<◌, List, [], ◌∷◌, ◌++◌, length, take, drop, Some, None, append_assoc, refl, sym, ap, ◌∙◌, arith}
use Rattle.std.specs.List.{slice_get}
use Rattle.std.proofs.lemmas.Option.{same_Some}
use Rattle.path_tree.specs.Plain.{Plain, dict, list, text, long, boolean, undef, null, Items, no_items, item, Fields, no_fields, field}
use Rattle.path_tree.specs.Find.{child_at, child_count, field_count, item_at, item_count, value_at}
use Rattle.path_tree.specs.Lists.{items_in}
use Rattle.call_values.specs.Children.{children, values_in}

items_count : (ts : Items) → item_count ts ≡ length (items_in ts)
items_count no_items = refl
items_count (item t ts) = ap suc (items_count ts)

values_count : (fs : Fields) → field_count fs ≡ length (values_in fs)
values_count no_fields = refl
values_count (field k t fs) = ap suc (values_count fs)

pub child_count_is : (t : Plain) → child_count t ≡ length (children t)
child_count_is (list ts) = items_count ts
child_count_is (dict fs) = values_count fs
child_count_is (text b) = refl
child_count_is (long z) = refl
child_count_is (boolean b) = refl
child_count_is undef = refl
child_count_is null = refl

item_get : (i : ℕ) (ts : Items) → item_at i ts ≡ slice_get (items_in ts) i
item_get i no_items = refl
item_get zero (item t ts) = refl
item_get (suc i) (item t ts) = item_get i ts

value_get : (i : ℕ) (fs : Fields) → value_at i fs ≡ slice_get (values_in fs) i
value_get i no_fields = refl
value_get zero (field k t fs) = refl
value_get (suc i) (field k t fs) = value_get i fs

pub child_get : (i : ℕ) (t : Plain) → child_at i t ≡ slice_get (children t) i
child_get i (list ts) = item_get i ts
child_get i (dict fs) = value_get i fs
child_get i (text b) = refl
child_get i (long z) = refl
child_get i (boolean b) = refl
child_get i undef = refl
child_get i null = refl

drop_step : {X : Type 0} (i : ℕ) (xs : List X) (x : X) → slice_get xs i ≡ Some x → drop i xs
    ≡ x ∷ drop (suc i) xs
drop_step i [] x e = absurd cc
drop_step zero (y ∷ ys) x e = ap (λ z. z ∷ ys) (same_Some _ _ e)
drop_step (suc i) (y ∷ ys) x e = drop_step i ys x e

-- what is left of a part begins with its first child
pub child_step : (t x : Plain) (i end : ℕ) → child_at i t ≡ Some x → i < end
    → take (end - i) (drop i (children t)) ≡ x ∷ take (end - (i + 1)) (drop (i + 1) (children t))
child_step t x i end e h =
    let left : end - i ≡ suc (end - (i + 1)) = omega (arith, h) in
    let next : suc i ≡ i + 1 = omega arith in
    ap (λ n. take n (drop i (children t))) left ∙ ap (take (suc (end - (i + 1))))
    (drop_step i (children t) x (sym (child_get i t) ∙ e))
    ∙ ap (λ k. x ∷ take (end - (i + 1)) (drop k (children t))) next

-- nothing is left of a part at its end
pub part_done : (t : Plain) (end : ℕ) → take (end - end) (drop end (children t)) ≡ []
part_done t end =
    let none : end - end ≡ 0 = omega arith in
    ap (λ n. take n (drop end (children t))) none

get_some : {X : Type 0} (i : ℕ) (xs : List X) → i < length xs → None ≡ slice_get xs i → ⊥
get_some i [] h e = absurd (omega (arith, h))
get_some zero (y ∷ ys) h e = absurd cc
get_some (suc i) (y ∷ ys) h e =
    let below : i < length ys = omega (arith, h) in
    get_some i ys below e

pub child_there : (t : Plain) (i : ℕ) → i < length (children t) → None ≡ child_at i t → ⊥
child_there t i h e = get_some i (children t) h (e ∙ child_get i t)

-- a child moves from what is left to what is made
pub child_pushed : (t x : Plain) (i end : ℕ) (made new old : List Plain) → Some x ≡ child_at i t
    → i < end → new ≡ made ++ x ∷ [] →
    made ++ take (end - i) (drop i (children t)) ≡ old → new
    ++ take (end - (i + 1)) (drop (i + 1) (children t)) ≡ old
child_pushed t x i end made new old found h is whole =
    ap (λ n. n ++ take (end - (i + 1)) (drop (i + 1) (children t))) is
    ∙ append_assoc made (x ∷ []) (take (end - (i + 1)) (drop (i + 1) (children t)))
    ∙ (sym (ap (λ r. made ++ r) (child_step t x i end (sym found) h)) ∙ whole)
