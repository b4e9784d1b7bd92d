-- How pairs become a dict.
use Rattle.std.proofs.Common.{◌≡◌, ℕ, zero, suc, ◌+◌, ◌<◌, ◌≤◌, ◌&&◌, ◌||◌, Bool, true, false, cond, List, [], ◌∷◌, ◌++◌, length, get_or, take, drop, append_assoc, Option, Some, None, Ok, Err, refl, sym, ap, ◌∙◌, arith}
use Rattle.std.specs.Prelude.{◌≢◌, not, nat_lt, is_some, IfSome, unwrap_or}
use Rattle.std.specs.List.{fold, list_all}
use Rattle.std.proofs.lemmas.List.{append-nil}
use Rattle.std.proofs.lemmas.Bool.{cond-true, ltb-true, lt-ltb}
use Rattle.std.proofs.Math.Seq.{take-suc}
use Rattle.base.specs.declared.limits.TheConstants.{MAX_TREE_HEIGHT, MAX_TREE_SIZE}
use Rattle.path_tree.specs.Children.{child_fields, fields_from}
use Rattle.path_tree.specs.Find.{child_at, child_count, find_field, key_at, kind_of, text_of, value_at}
use Rattle.path_tree.specs.Grammar.{is_key}
use Rattle.path_tree.specs.Lists.{is_null, is_too_large, within_limits}
use Rattle.path_tree.specs.Plain.{Plain, dict, list, text, long, boolean, undef, null, Fields, no_fields, field, AreFields, IsTree, tree_height, tree_size}
use Rattle.path_tree.specs.Put.{put_field}
use Rattle.path_tree.specs.Refusals.{refusal}
use Rattle.path_tree.specs.declared.kind.Kind.TheVariants as kind
use Rattle.path_tree.specs.declared.refused.Refused.{Refused}
use Rattle.path_tree.specs.declared.refused.Refused.TheVariants.{TooLarge}
use Rattle.path_tree.proofs.Children.{dict_end, dict_step}
use Rattle.path_tree.proofs.Sizes.{adds_field}
use Rattle.builtins_tree.specs.Dicts.{are_pairs, dict_of_pairs, fields_of_pairs, has_key, pairs_in, put_new}
use Rattle.builtins_tree.specs.Merges.{dict_in_turn, field_pairs, fields_in_turn, pairs_of}
use Rattle.builtins_tree.specs.Pairs.{has_value}
use Rattle.builtins_tree.specs.declared.pairs.Pair.{Pair}

either : (a b : Bool) → a ≡ true → (a || b) ≡ true
either a b h = rw h refl

second : (a b : Bool) → b ≡ true → (a || b) ≡ true
second true b h = refl
second false b h = h

-- what is larger and higher is too large too
larger : (t u : Plain) → tree_size t ≤ tree_size u → tree_height t ≤ tree_height u → is_too_large t
    ≡ true → is_too_large u ≡ true
larger t u size height h = by (nat_lt MAX_TREE_SIZE (tree_size t)) refl where
  by : (b : Bool) → nat_lt MAX_TREE_SIZE (tree_size t) ≡ b → is_too_large u ≡ true
  by true e =
      let past : MAX_TREE_SIZE < tree_size u =
      omega (arith, size, ltb-true MAX_TREE_SIZE (tree_size t) e) in
      either (nat_lt MAX_TREE_SIZE (tree_size u)) (nat_lt MAX_TREE_HEIGHT (tree_height u))
      (lt-ltb MAX_TREE_SIZE (tree_size u) past)
  by false e =
      let high : nat_lt MAX_TREE_HEIGHT (tree_height t) ≡ true = rw e at h in
      let past : MAX_TREE_HEIGHT < tree_height u =
      omega (arith, height, ltb-true MAX_TREE_HEIGHT (tree_height t) high) in
      second (nat_lt MAX_TREE_SIZE (tree_size u)) (nat_lt MAX_TREE_HEIGHT (tree_height u))
      (lt-ltb MAX_TREE_HEIGHT (tree_height u) past)

-- a dict with a pair more is no smaller
grows : (pair : Pair) (fs : Fields) → is_too_large (dict fs) ≡ true
    → is_too_large (dict (put_new pair fs)) ≡ true
grows pair fs h = by (find_field pair.key fs) refl where
  by : (o : Option Plain) → find_field pair.key fs ≡ o → is_too_large (dict (put_new pair fs))
      ≡ true
  by (Some t) e = rw e h
  by None e =
      let added = adds_field pair.key fs e in
      let size : tree_size (dict fs) ≤ tree_size (dict (put_field pair.key pair.value fs)) =
      omega (arith, added.size pair.value) in
      let height : tree_height (dict fs) ≤ tree_height (dict (put_field pair.key pair.value fs)) =
      omega (arith, added.height pair.value) in
      rw e (larger (dict fs) (dict (put_field pair.key pair.value fs)) size height h)

part_grows : (j : ℕ) (pairs : List Pair) → is_too_large (dict (fields_of_pairs (drop j pairs)))
    ≡ true → is_too_large (dict (fields_of_pairs pairs)) ≡ true
part_grows zero pairs h = h
part_grows (suc j) [] h = h
part_grows (suc j) (pair ∷ pairs) h = grows pair (fields_of_pairs pairs) (part_grows j pairs h)

refused : (t : Plain) (f : Refused) → within_limits t ≡ Err f → (is_too_large t ≡ true)
    × (f ≡ TooLarge)
refused t f h = by (is_too_large t) refl h where
  by : (b : Bool) → is_too_large t ≡ b → cond b (Err TooLarge) (Ok t) ≡ Err f
      → (is_too_large t ≡ true) × (f ≡ TooLarge)
  by true e h = (e, cc)
  by false e h = absurd cc

-- a dict that was made is within the limits
made : (t u : Plain) → within_limits t ≡ Ok u → (u ≡ t) × (is_too_large u ≡ false)
made t u h = by (is_too_large t) refl h where
  by : (b : Bool) → is_too_large t ≡ b → cond b (Err TooLarge) (Ok t) ≡ Ok u
      → (u ≡ t) × (is_too_large u ≡ false)
  by true e h = absurd cc
  by false e h =
      let same : u ≡ t = cc in
      (same, ap is_too_large same ∙ e)

-- a pair more of those that go from the end
pub part_made : (pairs : List Pair) (j : ℕ) (pair : Pair) (rest : List Pair) (u : Plain)
    → drop j pairs ≡ pair ∷ rest → within_limits (dict (put_new pair (fields_of_pairs rest))) ≡ Ok u
    → (u ≡ dict (fields_of_pairs (drop j pairs))) × (is_too_large u ≡ false)
part_made pairs j pair rest u here h =
    let got = made (dict (put_new pair (fields_of_pairs rest))) u h in
    (got.0 ∙ ap (λ ps. dict (fields_of_pairs ps)) (sym here), got.1)

-- where a part is refused, the whole is
pub part_refused : (e : Refused) (pairs : List Pair) (j : ℕ) (pair : Pair) (rest : List Pair)
    → drop j pairs ≡ pair ∷ rest →
    IfSome (refusal e) (λ f. within_limits (dict (put_new pair (fields_of_pairs rest))) ≡ Err f)
    → IfSome (refusal e) (λ f. dict_of_pairs pairs ≡ Err f)
part_refused e pairs j pair rest here h = by (refusal e) h where
  by : (o : Option Refused)
      → IfSome o (λ f. within_limits (dict (put_new pair (fields_of_pairs rest))) ≡ Err f)
      → IfSome o (λ f. dict_of_pairs pairs ≡ Err f)
  by None h = tt
  by (Some f) h =
      let large = refused (dict (put_new pair (fields_of_pairs rest))) f h in
      let part : is_too_large (dict (fields_of_pairs (drop j pairs))) ≡ true =
      ap (λ ps. is_too_large (dict (fields_of_pairs ps))) here ∙ large.0 in
      cond-true (is_too_large (dict (fields_of_pairs pairs))) (Err TooLarge)
      (Ok (dict (fields_of_pairs pairs))) (part_grows j pairs part) ∙ ap Err (sym large.1)

turn_grows : (fs : Fields) (pairs : List Pair) → is_too_large (dict fs) ≡ true
    → is_too_large (dict (fold (λ gs pair. put_new pair gs) fs pairs)) ≡ true
turn_grows fs [] h = h
turn_grows fs (pair ∷ pairs) h = turn_grows (put_new pair fs) pairs (grows pair fs h)

turn_append : (fs : Fields) (xs ys : List Pair) →
    fold (λ gs pair. put_new pair gs) fs (xs ++ ys)
    ≡ fold (λ gs pair. put_new pair gs) (fold (λ gs pair. put_new pair gs) fs xs) ys
turn_append fs [] ys = refl
turn_append fs (x ∷ xs) ys = turn_append (put_new x fs) xs ys

pub parted : (i : ℕ) (xs : List Pair) (x : Pair) → x ≡ get_or xs i x → i < length xs → xs
    ≡ take i xs ++ x ∷ drop (suc i) xs
parted i [] x e h = absurd (omega (arith, h))
parted zero (y ∷ ys) x e h = ap (λ z. z ∷ ys) (sym e)
parted (suc i) (y ∷ ys) x e h = ap (λ zs. y ∷ zs) (parted i ys x e (omega (arith, h)))

-- a pair more of those that go from the start
pub turn_made : (pairs : List Pair) (i n : ℕ) (pair : Pair) (u : Plain) → pair
    ≡ get_or pairs i pair → i < length pairs → n ≡ suc i
    → within_limits (dict (put_new pair (fields_in_turn (take i pairs)))) ≡ Ok u
    → (u ≡ dict (fields_in_turn (take n pairs))) × (is_too_large u ≡ false)
turn_made pairs i n pair u is low next h =
    let got = made (dict (put_new pair (fields_in_turn (take i pairs)))) u h in
    let step : take n pairs ≡ take i pairs ++ pair ∷ [] =
    ap (λ k. take k pairs) next ∙ take-suc pairs i pair low
    ∙ ap (λ p. take i pairs ++ p ∷ []) (sym is) in
    let fields : fields_in_turn (take n pairs) ≡ put_new pair (fields_in_turn (take i pairs)) =
    ap fields_in_turn step ∙ turn_append no_fields (take i pairs) (pair ∷ []) in
    (got.0 ∙ ap dict (sym fields), got.1)

-- where a first part is refused, the whole is
pub turn_refused : (e : Refused) (pairs xs : List Pair) (pair : Pair) (rest : List Pair) → pairs
    ≡ xs ++ pair ∷ rest →
    IfSome (refusal e) (λ f. within_limits (dict (put_new pair (fields_in_turn xs))) ≡ Err f)
    → IfSome (refusal e) (λ f. dict_in_turn pairs ≡ Err f)
turn_refused e pairs xs pair rest is h = by (refusal e) h where
  by : (o : Option Refused) → IfSome o (λ f. within_limits (dict (put_new pair (fields_in_turn xs)))
      ≡ Err f) → IfSome o (λ f. dict_in_turn pairs ≡ Err f)
  by None h = tt
  by (Some f) h =
      let large = refused (dict (put_new pair (fields_in_turn xs))) f h in
      let whole : is_too_large (dict (fields_in_turn pairs)) ≡ true =
      ap (λ fs. is_too_large (dict fs)) (ap fields_in_turn is
      ∙ turn_append no_fields xs (pair ∷ rest)) ∙ turn_grows (put_new pair (fields_in_turn xs))
      rest large.0 in
      cond-true (is_too_large (dict (fields_in_turn pairs))) (Err TooLarge)
      (Ok (dict (fields_in_turn pairs))) whole ∙ ap Err (sym large.1)

all_and : {X : Type 0} (p : X → Bool) (y : X) (ys zs : List X)
    → (list_all p ys ≡ true → list_all p zs ≡ true) → list_all p (y ∷ ys) ≡ true
    → list_all p (y ∷ zs) ≡ true
all_and p y ys zs more h = by (p y) refl h where
  by : (b : Bool) → p y ≡ b → (b && list_all p ys) ≡ true → list_all p (y ∷ zs) ≡ true
  by true e h = rw e (more h)
  by false e h = absurd cc

pub all_more : {X : Type 0} (p : X → Bool) (xs : List X) (x : X) → list_all p xs ≡ true → p x ≡ true
    → list_all p (xs ++ x ∷ []) ≡ true
all_more p [] x all one = rw one refl
all_more p (y ∷ ys) x all one = all_and p y ys (ys ++ x ∷ []) (λ rest. all_more p ys x rest one) all

-- the next field of a dict is a pair more
pub field_pushed : (t x : Plain) (k : List ℕ) (i : ℕ) (made new whole : List Pair) → kind.Dict
    ≡ kind_of t → Some k ≡ key_at i t → Some x ≡ child_at i t →
    new ≡ made ++ record { key = k; value = x } ∷ [] → made ++ field_pairs (fields_from i t) ≡ whole
    → new ++ field_pairs (fields_from (i + 1) t) ≡ whole
field_pushed t x k i made new whole is key child pushed so_far =
    ap (λ n. n ++ field_pairs (fields_from (i + 1) t)) pushed
    ∙ append_assoc made (record { key = k; value = x } ∷ []) (field_pairs (fields_from (i + 1) t))
    ∙ (ap (λ fs. made ++ field_pairs fs) (sym (dict_step t i k x (sym is) (sym key) (sym child)))
    ∙ so_far)

-- the pairs of a dict are its fields
pairs_of_is : (t : Plain) → kind.Dict ≡ kind_of t → pairs_of t ≡ field_pairs (child_fields t)
pairs_of_is (dict fs) is = refl
pairs_of_is (list ts) is = absurd cc
pairs_of_is (text b) is = absurd cc
pairs_of_is (long z) is = absurd cc
pairs_of_is (boolean b) is = absurd cc
pairs_of_is undef is = absurd cc
pairs_of_is null is = absurd cc

pub fields_pushed : (t : Plain) (n : ℕ) (new old : List Pair) → kind.Dict ≡ kind_of t → n
    ≡ child_count t →
    new ++ field_pairs (fields_from n t) ≡ old ++ field_pairs (child_fields t) → new ≡ old
    ++ pairs_of t
fields_pushed t n new old is count so_far =
    sym (ap (λ fs. new ++ field_pairs fs) (dict_end t n (sym is) count) ∙ append-nil new)
    ∙ (so_far ∙ ap (λ ps. old ++ ps) (sym (pairs_of_is t is)))

-- no value of a dict is null
not_null : (t : Plain) → (t ≢ null) → not (is_null t) ≡ true
not_null (dict fs) h = refl
not_null (list ts) h = refl
not_null (text b) h = refl
not_null (long z) h = refl
not_null (boolean b) h = refl
not_null undef h = refl
not_null null h = absurd (h refl)

value_whole : (i : ℕ) (fs : Fields) (x : Plain) → AreFields fs → value_at i fs ≡ Some x → x ≢ null
value_whole i no_fields x whole e = absurd cc
value_whole zero (field k t fs) x whole e = let same : t ≡ x = cc in λ empty. whole.1 (same ∙ empty)
value_whole (suc i) (field k t fs) x whole e = value_whole i fs x whole.4 e

pub value_inside : (t x : Plain) (i : ℕ) → kind.Dict ≡ kind_of t → IsTree t → Some x ≡ child_at i t
    → not (is_null x) ≡ true
value_inside (dict fs) x i is tree e = not_null x (value_whole i fs x tree.whole (sym e))
value_inside (list ts) x i is tree e = absurd cc
value_inside (text b) x i is tree e = absurd cc
value_inside (long z) x i is tree e = absurd cc
value_inside (boolean b) x i is tree e = absurd cc
value_inside undef x i is tree e = absurd cc
value_inside null x i is tree e = absurd cc

first_of_three : (a b c : Bool) → ((a && b) && c) ≡ true → (b ≡ true) × (c ≡ true)
first_of_three true true true h = (refl, refl)
first_of_three true true false h = absurd cc
first_of_three true false c h = absurd cc
first_of_three false b c h = absurd cc

-- the next pair of the arguments
pub pair_read : (args rest others : List Plain) (k v copy : Plain) (key : List ℕ)
    (made new : List Pair) → rest ≡ k ∷ v ∷ others →
    key ≡ unwrap_or (text_of k) [] → is_key key ≡ true → copy ≡ v → new ≡ made
    ++ record { key = key; value = copy } ∷ [] →
    made ++ pairs_in rest ≡ pairs_in args → are_pairs rest ≡ true → list_all has_key made ≡ true
    → list_all has_value made ≡ true →
    (new ++ pairs_in others ≡ pairs_in args) × (are_pairs others ≡ true)
    × (list_all has_key new ≡ true) × (list_all has_value new ≡ true)
pair_read args rest others k v copy key made new is_rest is_key_text valid is_copy pushed so_far
    paired keyed valued =
    let pair : Pair = record { key = key; value = copy } in
    let same : pair ≡ record { key = unwrap_or (text_of k) []; value = v } =
    ap (λ x. record { key = x; value = copy }) is_key_text
    ∙ ap (λ x. record { key = unwrap_or (text_of k) []; value = x }) is_copy in
    let parts = first_of_three (is_some (text_of k)) (not (is_null v)) (are_pairs others)
    (sym (ap are_pairs is_rest) ∙ paired) in (
      ap (λ n. n ++ pairs_in others) pushed ∙ (append_assoc made (pair ∷ []) (pairs_in others)
          ∙ (ap (λ p. made ++ (p ∷ pairs_in others)) same
          ∙ (ap (λ r. made ++ pairs_in r) (sym is_rest) ∙ so_far))),
      parts.1,
      ap (list_all has_key) pushed ∙ all_more has_key made pair keyed valid,
      ap (list_all has_value) pushed ∙ all_more has_value made pair valued
          (ap (λ x. not (is_null x)) is_copy ∙ parts.0),
    )
