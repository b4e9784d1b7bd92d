-- What a search meets at a place of a tree or a text.
use Rattle.std.proofs.Common.{◌≡◌, ℕ, zero, suc, ◌+◌, ◌<◌, ◌≤◌, ◌^◌, true, false, List, [], ◌∷◌, length, drop, Some, None, Err, encode_utf8_all, refl, sym, ap, ◌∙◌, arith}
use Rattle.std.specs.Prelude.{if◌then◌else◌, nat_eq}
use Rattle.std.specs.List.{slice_get, starts_with}
use Rattle.std.specs.Str.{chars, IsUtf8}
use Rattle.std.proofs.lemmas.Bool.{cond-false, cond-true}
use Rattle.std.proofs.lemmas.Option.{same_Some}
use Rattle.std.proofs.lemmas.Str.{encodes-chars, length-le-encodes}
use Rattle.base.specs.declared.limits.TheConstants.{MAX_TEXT_BYTES}
use Rattle.path_tree.specs.Children.{child_fields, fields_from}
use Rattle.path_tree.specs.Find.{child_at, child_count, field_count, item_count, key_at, kind_of}
use Rattle.path_tree.specs.Plain.{Plain, dict, list, text, long, boolean, undef, null, Fields, no_fields, field, Items, no_items, item, IsTree, tree_size, fields_size, items_size}
use Rattle.path_tree.specs.Same.{same_tree}
use Rattle.path_tree.specs.Values.{text_value}
use Rattle.path_tree.specs.declared.kind.Kind.TheVariants as kind
use Rattle.path_tree.specs.declared.refused.Refused.TheVariants.{BadArgument}
use Rattle.path_tree.proofs.Children.{all_fields, dict_end, dict_step}
use Rattle.path_tree.proofs.Sizes.{height_le-size, one_le-height}
use Rattle.call_values.specs.Children.{children}
use Rattle.call_values.proofs.Kids.{child_count_is, child_get}
use Rattle.builtins_tree.specs.Kinds.{is_property}
use Rattle.builtins_tree.specs.Searches.{found_item, found_key, found_text, index_of}

drop_step : {X : Type 0} (i : ℕ) (xs : List X) (x : X) → slice_get xs i ≡ Some x → drop i xs
    ≡ x ∷ drop (suc i) xs
drop_step i [] x e = absurd cc
drop_step zero (y ∷ ys) x e = ap (λ z. z ∷ ys) (same_Some _ _ e)
drop_step (suc i) (y ∷ ys) x e = drop_step i ys x e

item_step : (t x : Plain) (i : ℕ) → Some x ≡ child_at i t → drop i (children t)
    ≡ x ∷ drop (i + 1) (children t)
item_step t x i e =
    let next : suc i ≡ i + 1 = omega arith in
    drop_step i (children t) x (sym (e ∙ child_get i t)) ∙ ap (λ k. x ∷ drop k (children t)) next

pub item_found : (w t x : Plain) (i : ℕ) → Some x ≡ child_at i t → same_tree w x ≡ true
    → found_item w i (drop i (children t)) ≡ Some i
item_found w t x i e same =
    ap (found_item w i) (item_step t x i e) ∙ cond-true (same_tree w x) (Some i)
    (found_item w (i + 1) (drop (i + 1) (children t))) same

pub item_passed : (w t x : Plain) (i : ℕ) → Some x ≡ child_at i t → same_tree w x ≡ false →
    found_item w i (drop i (children t)) ≡ found_item w (i + 1) (drop (i + 1) (children t))
item_passed w t x i e other =
    ap (found_item w i) (item_step t x i e) ∙ cond-false (same_tree w x) (Some i)
    (found_item w (i + 1) (drop (i + 1) (children t))) other

-- keys
pub keys_start : (w t : Plain) → found_key w (fields_from 0 t) ≡ found_key w (child_fields t)
keys_start w t = ap (found_key w) (all_fields (child_fields t))

pub keys_end : (w t : Plain) (n : ℕ) → kind.Dict ≡ kind_of t → n ≡ child_count t
    → found_key w (fields_from n t) ≡ []
keys_end w t n is count = ap (found_key w) (dict_end t n (sym is) count)

pub key_found : (w t x : Plain) (k : List ℕ) (i : ℕ) → kind.Dict ≡ kind_of t → Some k ≡ key_at i t
    → Some x ≡ child_at i t → same_tree w x ≡ true →
    found_key w (fields_from i t) ≡ k
key_found w t x k i is key child same =
    ap (found_key w) (dict_step t i k x (sym is) (sym key) (sym child))
    ∙ cond-true (same_tree w x) k (found_key w (fields_from (i + 1) t)) same

pub key_passed : (w t x : Plain) (k : List ℕ) (i : ℕ) → kind.Dict ≡ kind_of t → Some k ≡ key_at i t
    → Some x ≡ child_at i t → same_tree w x ≡ false →
    found_key w (fields_from i t) ≡ found_key w (fields_from (i + 1) t)
key_passed w t x k i is key child other =
    ap (found_key w) (dict_step t i k x (sym is) (sym key) (sym child))
    ∙ cond-false (same_tree w x) k (found_key w (fields_from (i + 1) t)) other

-- a property in a dict
pub dict_row : (x t : Plain) → kind_of t ≡ kind.Dict →
    index_of (x ∷ t ∷ []) ≡ (if is_property (kind_of x) then text_value
    (found_key x (child_fields t)) else Err BadArgument)
dict_row x (dict fs) is = refl
dict_row x (list ts) is = absurd cc
dict_row x (text b) is = absurd cc
dict_row x (long z) is = absurd cc
dict_row x (boolean b) is = absurd cc
dict_row x undef is = absurd cc
dict_row x null is = absurd cc

-- counts are small
one_le-size : (t : Plain) → 1 ≤ tree_size t
one_le-size t = omega (arith, one_le-height t, height_le-size t)

fields_below : (fs : Fields) → field_count fs ≤ fields_size fs
fields_below no_fields = omega arith
fields_below (field k t fs) = omega (arith, one_le-size t, fields_below fs)

items_below : (ts : Items) → item_count ts ≤ items_size ts
items_below no_items = omega arith
items_below (item t ts) = omega (arith, one_le-size t, items_below ts)

count_below : (t : Plain) → child_count t ≤ tree_size t
count_below (dict fs) = omega (arith, fields_below fs)
count_below (list ts) = omega (arith, items_below ts)
count_below (text b) = omega arith
count_below (long z) = omega arith
count_below (boolean b) = omega arith
count_below undef = omega arith
count_below null = omega arith

pub count_small : (t : Plain) → IsTree t → child_count t < 2 ^ 63
count_small t tree = omega (arith, count_below t, tree.size)

pub children_small : (t : Plain) → IsTree t → length (children t) < 2 ^ 63
children_small t tree = omega (arith, count_small t tree, child_count_is t)

pub chars_small : (bytes : List ℕ) → IsUtf8 bytes → length bytes ≤ MAX_TEXT_BYTES
    → length (chars bytes) < 2 ^ 63
chars_small bytes u short =
    omega (arith, length-le-encodes (chars bytes), ap length (encodes-chars bytes u), short)

-- texts
same_text : (bytes : List ℕ) → IsUtf8 bytes → bytes ≡ encode_utf8_all (chars bytes)
same_text bytes u = sym (encodes-chars bytes u)

chars_step : {X : Type 0} (i : ℕ) (xs : List X) → i < length xs → (x : X)
    × (drop i xs ≡ x ∷ drop (suc i) xs)
chars_step i [] h = absurd (omega (arith, h))
chars_step zero (x ∷ xs) h = (x, refl)
chars_step (suc i) (x ∷ xs) h = chars_step i xs (omega (arith, h))

place_found : (x : List ℕ) (i : ℕ) (cs : List ℕ) → starts_with nat_eq (encode_utf8_all cs) x ≡ true
    → found_text x i cs ≡ Some i
place_found x i [] h = cond-true (starts_with nat_eq [] x) (Some i) None h
place_found x i (c ∷ cs) h =
    cond-true (starts_with nat_eq (encode_utf8_all (c ∷ cs)) x) (Some i) (found_text x (i + 1) cs) h

-- the rest of a text from a place on begins with x
pub text_found : (x rest all : List ℕ) (i : ℕ) → IsUtf8 rest → chars rest ≡ drop i (chars all)
    → starts_with nat_eq rest x ≡ true → found_text x i (drop i (chars all)) ≡ Some i
text_found x rest all i u is begins =
    place_found x i (drop i (chars all)) (ap (λ b. starts_with nat_eq b x)
    (sym (same_text rest u ∙ ap encode_utf8_all is)) ∙ begins)

pub text_passed : (x rest all : List ℕ) (i : ℕ) → IsUtf8 rest → chars rest ≡ drop i (chars all)
    → i < length (chars all) → starts_with nat_eq rest x ≡ false →
    found_text x i (drop i (chars all)) ≡ found_text x (i + 1) (drop (i + 1) (chars all))
text_passed x rest all i u is within other =
    let step = chars_step i (chars all) within in
    let next : suc i ≡ i + 1 = omega arith in
    let split : drop i (chars all) ≡ step.0 ∷ drop (i + 1) (chars all) =
    step.1 ∙ ap (λ k. step.0 ∷ drop k (chars all)) next in
    let begins : starts_with nat_eq (encode_utf8_all (step.0 ∷ drop (i + 1) (chars all))) x
    ≡ false =
    ap (λ b. starts_with nat_eq b x) (sym (same_text rest u ∙ ap encode_utf8_all (is ∙ split)))
    ∙ other in
    ap (found_text x i) split
    ∙ cond-false (starts_with nat_eq (encode_utf8_all (step.0 ∷ drop (i + 1) (chars all))) x)
    (Some i) (found_text x (i + 1) (drop (i + 1) (chars all))) begins

nothing_left : {X : Type 0} (i : ℕ) (xs : List X) → length xs ≤ i → drop i xs ≡ []
nothing_left zero [] h = refl
nothing_left (suc i) [] h = refl
nothing_left zero (x ∷ xs) h = absurd (omega (arith, h))
nothing_left (suc i) (x ∷ xs) h = nothing_left i xs (omega (arith, h))

pub text_ended : (x rest all : List ℕ) (i : ℕ) → IsUtf8 rest → chars rest ≡ drop i (chars all)
    → length (chars all) ≤ i → starts_with nat_eq rest x ≡ false →
    found_text x i (drop i (chars all)) ≡ None
text_ended x rest all i u is ended other =
    let none : drop i (chars all) ≡ [] = nothing_left i (chars all) ended in
    let begins : starts_with nat_eq [] x ≡ false =
    ap (λ b. starts_with nat_eq b x) (sym (same_text rest u ∙ ap encode_utf8_all (is ∙ none)))
    ∙ other in
    ap (found_text x i) none ∙ cond-false (starts_with nat_eq [] x) (Some i) None begins
