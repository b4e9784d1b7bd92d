-- Lists that are made, and lists with an item more.
use Rattle.std.proofs.Common.{◌≡◌, ◌≢◌, ℕ, zero, suc, ◌+◌, ◌<◌, ◌≤◌, max, Bool, true, false, ◌||◌, List, [], ◌∷◌, ◌++◌, length, Result, Ok, Err, refl, ap, sym, subst, ◌∙◌, arith}
use Rattle.std.specs.Prelude.{nat_lt}
use Rattle.std.specs.List.{insert, list_any}
use Rattle.std.proofs.lemmas.List.Edits.{insert_end}
use Rattle.std.proofs.lemmas.Bool.Decides.{nat_tests}
use Rattle.path_tree.specs.Plain.{Plain, dict, list, text, long, boolean, undef, null, Items, no_items, item, tree_size, items_size, tree_height, items_height, IsTree, AreItems}
use Rattle.path_tree.specs.Kept.{IsAdmitted, IsInside}
use Rattle.path_tree.specs.View.{IsList, items_of, list_seen}
use Rattle.base.specs.declared.limits.TheConstants.{MAX_TREE_HEIGHT, MAX_TREE_SIZE}
use Rattle.path_tree.specs.declared.tree.Items.{Items as Itemed}
use Rattle.path_tree.specs.declared.tree.Measure.{Measure}
use Rattle.path_tree.specs.Lists.{is_null, list_of, items_in, pushed, pushed_front}
use Rattle.path_tree.specs.declared.refused.Refused.{Refused}
use Rattle.path_tree.specs.declared.refused.Refused.TheVariants.{BadArgument, TooLarge}
use Rattle.path_tree.specs.Refusals.{refusal}
use Rattle.base.specs.Answers.{Gives}

pub items_in_of : (ts : List Plain) → items_in (items_of ts) ≡ ts
items_in_of [] = refl
items_in_of (t ∷ ts) = ap (λ us. t ∷ us) (items_in_of ts)

pub items_of_in : (ts : Items) → items_of (items_in ts) ≡ ts
items_of_in no_items = refl
items_of_in (item t ts) = ap (item t) (items_of_in ts)

pub some_value : (t : Plain) → is_null t ≡ false → t ≢ null
some_value null h e = cc
some_value (dict fs) h e = cc
some_value (list ts) h e = cc
some_value (text bytes) h e = cc
some_value (long z) h e = cc
some_value (boolean b) h e = cc
some_value undef h e = cc

no_null : (t : Plain) → t ≢ null → is_null t ≡ false
no_null null h = absurd (h refl)
no_null (dict fs) h = refl
no_null (list ts) h = refl
no_null (text bytes) h = refl
no_null (long z) h = refl
no_null (boolean b) h = refl
no_null undef h = refl

nulls_none : (ts : List Plain) → AreItems (items_of ts) → list_any is_null ts ≡ false
nulls_none [] h = refl
nulls_none (t ∷ ts) h = rw (no_null t h.0) (nulls_none ts h.2)

pub is_past : (most n : ℕ) → most < n → nat_lt most n ≡ true
is_past most n h = grind (arith, nat_tests)

pub is_within : (most n : ℕ) → n ≤ most → nat_lt most n ≡ false
is_within most n h = grind (arith, nat_tests)

-- the list of these
module _ (ts : List Plain) where
  pub listed_null : list_any is_null ts ≡ true → list_of ts ≡ Err BadArgument
  listed_null h = rw h refl

  pub listed_large : list_any is_null ts ≡ false → MAX_TREE_SIZE < tree_size (list (items_of ts))
      → list_of ts ≡ Err TooLarge
  listed_large none large =
      rw (none, is_past MAX_TREE_SIZE (tree_size (list (items_of ts))) large) refl

  pub listed_high : list_any is_null ts ≡ false → MAX_TREE_HEIGHT < tree_height (list (items_of ts))
      → list_of ts ≡ Err TooLarge
  listed_high none high = by_size (nat_lt MAX_TREE_SIZE (tree_size (list (items_of ts)))) refl
    where
      by_size : (large : Bool) → nat_lt MAX_TREE_SIZE (tree_size (list (items_of ts))) ≡ large
          → list_of ts ≡ Err TooLarge
      by_size true is = rw (none, is) refl
      by_size false is = rw (
        none,
        is,
        is_past MAX_TREE_HEIGHT (tree_height (list (items_of ts)))
            high,
      ) refl

  pub listed_fits : list_any is_null ts ≡ false → tree_size (list (items_of ts)) ≤ MAX_TREE_SIZE
      → tree_height (list (items_of ts)) ≤ MAX_TREE_HEIGHT → list_of ts ≡ Ok (list (items_of ts))
  listed_fits none small low =
      rw (
        none,
        is_within MAX_TREE_SIZE (tree_size (list (items_of ts))) small,
        is_within
            MAX_TREE_HEIGHT (tree_height (list (items_of ts))) low,
      ) refl

pub ruleset listed = (listed_null, listed_large, listed_high, listed_fits)

-- an item more
inserted_size : (ts : List Plain) (i : ℕ) (v : Plain) → items_size (items_of (insert ts i v))
    ≡ items_size (items_of ts) + tree_size v
inserted_size [] zero v = omega arith
inserted_size [] (suc i) v = omega arith
inserted_size (t ∷ ts) zero v = omega arith
inserted_size (t ∷ ts) (suc i) v = omega (arith, inserted_size ts i v)

inserted_height : (ts : List Plain) (i : ℕ) (v : Plain) → items_height (items_of (insert ts i v))
    ≡ max (items_height (items_of ts)) (tree_height v)
inserted_height [] zero v = omega arith
inserted_height [] (suc i) v = omega arith
inserted_height (t ∷ ts) zero v = omega arith
inserted_height (t ∷ ts) (suc i) v = omega (arith, inserted_height ts i v)

inserted_items : (ts : List Plain) (i : ℕ) (v : Plain) → IsInside v → AreItems (items_of ts)
    → AreItems (items_of (insert ts i v))
inserted_items [] zero v h a = (h.some, h.whole, tt)
inserted_items [] (suc i) v h a = (h.some, h.whole, tt)
inserted_items (t ∷ ts) zero v h a = (h.some, h.whole, a)
inserted_items (t ∷ ts) (suc i) v h a = (a.0, a.1, inserted_items ts i v h a.2)

inserted_null : (ts : List Plain) (i : ℕ) (v : Plain) → is_null v ≡ true
    → list_any is_null (insert ts i v) ≡ true
inserted_null [] zero v h = rw h refl
inserted_null [] (suc i) v h = rw h refl
inserted_null (t ∷ ts) zero v h = rw h refl
inserted_null (t ∷ ts) (suc i) v h = or_true (is_null t) (inserted_null ts i v h)
  where
    or_true : (b : Bool) {c : Bool} → c ≡ true → (b || c) ≡ true
    or_true true h = refl
    or_true false h = h

module _ (ts : List Plain) (i : ℕ) (v : Plain) where
  pub no_null_more : is_null v ≡ true → list_of (insert ts i v) ≡ Err BadArgument
  no_null_more h = listed_null (insert ts i v) (inserted_null ts i v h)

  module _ (a : AreItems (items_of ts)) (inside : IsInside v) where
    more_items : AreItems (items_of (insert ts i v))
    more_items = inserted_items ts i v inside a

    pub more_large : MAX_TREE_SIZE < tree_size (list (items_of ts)) + tree_size v
        → list_of (insert ts i v) ≡ Err TooLarge
    more_large h = listed_large (insert ts i v) (nulls_none (insert ts i v) more_items)
        (omega (arith, h, inserted_size ts i v))

    pub more_high : MAX_TREE_HEIGHT < max (tree_height (list (items_of ts))) (tree_height v + 1)
        → list_of (insert ts i v) ≡ Err TooLarge
    more_high h = listed_high (insert ts i v) (nulls_none (insert ts i v) more_items)
        (omega (arith, h, inserted_height ts i v))

    pub more_fits : tree_size (list (items_of ts)) + tree_size v ≤ MAX_TREE_SIZE
        → max (tree_height (list (items_of ts))) (tree_height v + 1) ≤ MAX_TREE_HEIGHT
        → list_of (insert ts i v) ≡ Ok (list (items_of (insert ts i v)))
    more_fits small low = listed_fits (insert ts i v) (nulls_none (insert ts i v) more_items)
        (omega (arith, small, inserted_size ts i v)) (omega (arith, low, inserted_height ts i v))

pub gives_same : {A : Type 0} (f : A → Plain) (r : Result A Refused)
    {given other : Result Plain Refused} → given ≡ other → Gives f refusal r given
    → Gives f refusal r other
gives_same f r same gives = subst (Gives f refusal r) same gives

-- a list in memory with a value that may be added
module _ (l : Itemed) (v : Plain) (kept : IsList l) where
  pub too_large_with : IsInside v → MAX_TREE_SIZE < l.size + tree_size v → (i : ℕ)
      → list_of (insert l.items.items i v) ≡ Err TooLarge
  too_large_with inside large i =
      more_large l.items.items i v kept.tree.whole inside (omega (arith, large, kept.size))

  pub too_high_with : IsInside v → MAX_TREE_HEIGHT < max l.height (tree_height v + 1) → (i : ℕ)
      → list_of (insert l.items.items i v) ≡ Err TooLarge
  too_high_with inside high i =
      more_high l.items.items i v kept.tree.whole inside (omega (arith, high, kept.height))

  module _ (m : Itemed) (i : ℕ) (after : Measure) (admitted : IsAdmitted l v after)
      (is : m.items.items ≡ insert l.items.items i v) where
    pub inserted_is : list_of (insert l.items.items i v) ≡ Ok (list_seen m)
    inserted_is =
        more_fits l.items.items i v kept.tree.whole admitted.inside
        (omega (arith, admitted.size, admitted.small))
        (omega (arith, admitted.height, admitted.low))
        ∙ ap (λ ts. Ok (list (items_of ts))) (sym is)

    pub inserted_kept : m.size ≡ after.size → m.height ≡ after.height → IsList m
    inserted_kept size height =
        let whole_size : tree_size (list_seen m) ≡ after.size =
        omega (
          arith,
          inserted_size l.items.items i v,
          ap (λ ts. items_size (items_of ts)) is,
          admitted.size,
        ) in
        let whole_height : tree_height (list_seen m) ≡ after.height =
        omega (
          arith,
          inserted_height l.items.items i v,
          ap (λ ts. items_height (items_of ts))
              is,
          admitted.height,
        ) in
        record {
          tree = record {
            whole = subst (λ ts. AreItems (items_of ts)) (sym is)
                (inserted_items l.items.items i v admitted.inside kept.tree.whole);
            size = omega (arith, whole_size, admitted.small);
            height = omega (arith, whole_height, admitted.low);
          };
          size = omega (arith, size, whole_size);
          height = omega (arith, height, whole_height);
        }

pub inside_of : (v : Plain) → is_null v ≡ false → IsTree v → IsInside v
inside_of v some tree = record { some = some_value v some; whole = tree.whole }

-- the two ends
pub pushed_is : (v : Plain) (ts : List Plain) (i : ℕ) → i ≡ length ts → list_of (insert ts i v)
    ≡ pushed v (list (items_of ts))
pushed_is v ts i end = ap (λ n. list_of (insert ts n v)) end ∙ ap list_of (insert_end ts v)
    ∙ sym (ap (λ us. list_of (us ++ v ∷ [])) (items_in_of ts))

pub pushed_front_is : (v : Plain) (ts : List Plain) → list_of (insert ts 0 v)
    ≡ pushed_front v (list (items_of ts))
pushed_front_is v ts = sym (ap (λ us. list_of (v ∷ us)) (items_in_of ts))
