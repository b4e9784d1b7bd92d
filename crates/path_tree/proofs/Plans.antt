-- What a plan of a put through one term says.
use Rattle.std.proofs.Common.{◌≡◌, ℕ, zero, suc, ◌+◌, ◌-◌, ◌<◌, ◌≤◌, Bool, true, false, nat_lt, cond, List, [], ◌∷◌, length, get_or, drop, Some, None, Result, Ok, Err, refl, ap, sym, ◌∙◌, subst, arith}
use Rattle.std.proofs.lemmas.Bool.Decides.{nat_tests}
use Rattle.std.proofs.lemmas.Grind.{common_steps}
use Rattle.base.specs.declared.limits.TheConstants.{MAX_TREE_SIZE}
use Rattle.path_tree.specs.Plain.{Plain, dict, list, Items, no_items, Fields, tree_size, tree_height, items_size, items_height}
use Rattle.path_tree.specs.View.{items_of}
use Rattle.path_tree.specs.Find.{find_field, item_at, item_count}
use Rattle.path_tree.specs.Put.{walk, chain, put_field, put_item, over, within_size}
use Rattle.path_tree.specs.Kept.{HasPlan, IsPlan, IsMade, IsGrown, wrapped_size}
use Rattle.path_tree.specs.declared.path.Term.{Term}
use Rattle.path_tree.specs.declared.path.Term.TheVariants as term
use Rattle.path_tree.specs.declared.path.PutError.{PutError}
use Rattle.path_tree.specs.declared.path.PutError.TheVariants.{TooLarge}
use Rattle.path_tree.specs.declared.tree.Measure.{Measure}
use Rattle.path_tree.proofs.Sizes.{IsChange, IsAddition, changes_field, changes_item, adds_field, adds_item, height_le-size, one_le-height}

-- trees that are made
pub size_filled : (n : ℕ) (t : Plain) → items_size (put_item n t no_items) ≡ n + tree_size t
size_filled zero t = omega arith
size_filled (suc n) t = omega (arith, size_filled n t)

pub height_filled : (n : ℕ) (t : Plain) → items_height (put_item n t no_items) ≡ tree_height t
height_filled zero t = omega arith
height_filled (suc n) t = omega (arith, height_filled n t, one_le-height t)

pub chain_size : (m : Term) (ms : List Term) (v : Plain) → tree_size (chain (m ∷ ms) v)
    ≡ wrapped_size m (tree_size (chain ms v))
chain_size (term.Key k) ms v = omega arith
chain_size (term.Index i) ms v = omega (arith, size_filled i (chain ms v))

pub chain_height : (m : Term) (ms : List Term) (v : Plain) → tree_height (chain (m ∷ ms) v)
    ≡ tree_height (chain ms v) + 1
chain_height (term.Key k) ms v = omega arith
chain_height (term.Index i) ms v = omega (arith, height_filled i (chain ms v))

wrapped_le : (m : Term) (n : ℕ) → n ≤ wrapped_size m n
wrapped_le (term.Key k) n = omega arith
wrapped_le (term.Index i) n = omega arith

pub chain_part : (i : ℕ) (ms : List Term) (v : Plain)
    → tree_size (chain (drop i ms) v) ≤ tree_size (chain ms v)
chain_part zero ms v = omega arith
chain_part (suc i) [] v = omega arith
chain_part (suc i) (m ∷ ms) v =
    omega (arith, chain_part i ms v, chain_size m ms v, wrapped_le m (tree_size (chain ms v)))

pub wrapped_eq : (m : Term) {a b : ℕ} → a ≡ b → wrapped_size m a ≡ wrapped_size m b
wrapped_eq m h = ap (wrapped_size m) h

-- the terms from index j on make what the terms from the next index on make, wrapped once
pub record Wraps (m : Term) (below whole : Plain) : Type 0 where
  pub size : tree_size whole ≡ wrapped_size m (tree_size below)
  pub height : tree_height whole ≡ tree_height below + 1

pub chain_at : (ms : List Term) (j i : ℕ) (m : Term) (v : Plain) → j + 1 ≡ i → i ≤ length ms → m
    ≡ get_or ms j m → Wraps m (chain (drop i ms) v) (chain (drop j ms) v)
chain_at ms j i m v next within is =
    let e : drop j ms ≡ m ∷ drop i ms = grind (arith, common_steps) in
    rw e (record { size = chain_size m (drop i ms) v; height = chain_height m (drop i ms) v })

pub ruleset chain_lemmas = (height_le-size)

-- refusals
large_is : (r : Result Plain PutError) (u : Plain) → r ≡ Ok u → MAX_TREE_SIZE < tree_size u
    → within_size r ≡ Err TooLarge
large_is r u is h = rw is (tested (nat_lt MAX_TREE_SIZE (tree_size u)) (grind (arith, nat_tests)))
  where
    tested : (b : Bool) → b ≡ true → cond b (Err TooLarge) (Ok u) ≡ Err TooLarge
    tested b e = rw e refl

within : (b : Bool) (w : Plain) (e : PutError) → cond b (Err TooLarge) (Ok w) ≡ Err e → (b ≡ true)
    × (e ≡ TooLarge)
within true w e h = (refl, cc)
within false w e h = cc

-- a refusal below is that of the whole
pub refused_over : (f : Plain → Plain) → ((w : Plain) → tree_size w ≤ tree_size (f w))
    → (r : Result Plain PutError) (e : PutError) → within_size r ≡ Err e → within_size (over f r)
    ≡ Err e
refused_over f larger (Err x) e h = h
refused_over f larger (Ok w) e h =
    let t = within (nat_lt MAX_TREE_SIZE (tree_size w)) w e h in
    large_is (Ok (f w)) (f w) refl (lower t.0) ∙ ap Err (sym t.1)
  where
    lower : nat_lt MAX_TREE_SIZE (tree_size w) ≡ true → MAX_TREE_SIZE < tree_size (f w)
    lower is = let over_limit : MAX_TREE_SIZE < tree_size w = grind (arith, nat_tests) in
        omega (arith, larger w)

module _ (n : ℕ) (m : Term) (ms : List Term) (v t : Plain) (f : Plain → Plain) where
  -- where a child is changed
  module _ (c : Plain) (h : IsChange f c t) (is : walk n (m ∷ ms) v t
      ≡ over f (walk (n + 1) ms v c)) where
    pub plan_changed : (below whole : Measure) → HasPlan (n + 1) ms v c below
        → whole.size + tree_size c ≡ tree_size t + below.size → whole.height ≡ below.height + 1
        → whole.size ≤ MAX_TREE_SIZE → HasPlan n (m ∷ ms) v t whole
    plan_changed below whole p size height small = record {
      after = f p.after;
      is = is ∙ ap (over f) p.is;
      size = omega (arith, h.size p.after, p.size);
      low = omega (arith, h.reaches p.after, p.low);
      high = omega (arith, h.height p.after, h.below, p.high);
      small = small;
      flat = omega (
        arith,
        h.reaches p.after,
        p.low,
        h.size p.after,
        p.size,
        height_le-size
            (f p.after),
      );
    }

    pub changed_refused : (e : PutError) → within_size (walk (n + 1) ms v c) ≡ Err e
        → within_size (walk n (m ∷ ms) v t) ≡ Err e
    changed_refused e refused =
        ap within_size is ∙ refused_over f (λ w. omega (arith, h.size w, h.smaller))
        (walk (n + 1) ms v c) e refused

    pub changed_large : (below : Measure) → HasPlan (n + 1) ms v c below
        → MAX_TREE_SIZE + tree_size c < tree_size t + below.size → within_size (walk n (m ∷ ms) v t)
        ≡ Err TooLarge
    changed_large below p over_limit =
        large_is (walk n (m ∷ ms) v t) (f p.after) (is ∙ ap (over f) p.is)
        (omega (arith, h.size p.after, p.size))

    pub changed_ok : (size before : ℕ) (below r : Result Measure PutError) → size ≡ tree_size t
        → before ≡ tree_size c → IsPlan (n + 1) ms v c below → IsGrown size before below r
        → IsPlan n (m ∷ ms) v t r
    changed_ok size before (Ok b) (Ok w) is_size is_before p g =
        plan_changed b w p (omega (arith, g.size)) g.height g.small
    changed_ok size before (Ok b) (Err e) is_size is_before p g =
        changed_large b p (omega (arith, g.large)) ∙ ap Err (sym g.is)
    changed_ok size before (Err e) (Ok w) is_size is_before p g = cc
    changed_ok size before (Err e) (Err x) is_size is_before p g = let same : x ≡ e = cc in
        changed_refused e p ∙ ap Err (sym same)

  -- where a child is added
  module _ (k : ℕ) (h : IsAddition f k t) (is : walk n (m ∷ ms) v t ≡ Ok (f (chain ms v))) where
    pub plan_added : (whole : Measure) → whole.size ≡ tree_size t + k + tree_size (chain ms v)
        → whole.height ≡ tree_height (chain ms v) + 1 → whole.size ≤ MAX_TREE_SIZE
        → HasPlan n (m ∷ ms) v t whole
    plan_added whole size height small = record {
      after = f (chain ms v);
      is = is;
      size = omega (arith, h.size (chain ms v));
      low = omega (arith, h.height (chain ms v));
      high = omega (arith, h.height (chain ms v));
      small = small;
      flat = omega (
        arith,
        h.size (chain ms v),
        h.height (chain ms v),
        height_le-size
            (f (chain ms v)),
      );
    }

    pub added_large : MAX_TREE_SIZE < tree_size t + k + tree_size (chain ms v)
        → within_size (walk n (m ∷ ms) v t) ≡ Err TooLarge
    added_large over_limit =
        large_is (walk n (m ∷ ms) v t) (f (chain ms v)) is (omega (arith, h.size (chain ms v)))

    pub added_ok : (size : ℕ) (made r : Result Measure PutError) → size ≡ tree_size t + k
        → IsMade ms v made → IsGrown size 0 made r → IsPlan n (m ∷ ms) v t r
    added_ok size (Ok b) (Ok w) is_size p g =
        plan_added w (omega (arith, g.size, p.size)) (omega (arith, g.height, p.height)) g.small
    added_ok size (Ok b) (Err e) is_size p g =
        added_large (omega (arith, g.large, p.size)) ∙ ap Err (sym g.is)
    added_ok size (Err e) (Ok w) is_size p g = cc
    added_ok size (Err e) (Err x) is_size p g = let same : x ≡ e = cc in
        added_large (omega (arith, p.large)) ∙ ap Err (sym (same ∙ p.is))

-- the two containers
module _ (n : ℕ) (ms : List Term) (v t : Plain) where
  pub field_added : (k : List ℕ) (fs : Fields) → t ≡ dict fs → None ≡ find_field k fs
      → (size : ℕ) (made r : Result Measure PutError) → size ≡ tree_size t → IsMade ms v made
      → IsGrown size 0 made r → IsPlan n (term.Key k ∷ ms) v t r
  field_added k fs is none size made r is_size m g =
      subst (λ u. IsPlan n (term.Key k ∷ ms) v u r) (sym is)
      (added_ok n (term.Key k) ms v (dict fs) (λ w. dict (put_field k w fs)) 0
      (adds_field k fs (sym none)) (rw (sym none) refl) size made r
      (omega (arith, is_size, ap tree_size is)) m g)

  pub field_changed : (k : List ℕ) (fs : Fields) (c : Plain) → t ≡ dict fs → Some c
      ≡ find_field k fs → (size before : ℕ) (below r : Result Measure PutError) → size ≡ tree_size t
      → before ≡ tree_size c → IsPlan (n + 1) ms v c below → IsGrown size before below r
      → IsPlan n (term.Key k ∷ ms) v t r
  field_changed k fs c is some size before below r is_size is_before p g =
      subst (λ u. IsPlan n (term.Key k ∷ ms) v u r) (sym is)
      (changed_ok n (term.Key k) ms v (dict fs) (λ w. dict (put_field k w fs)) c
      (changes_field k c fs (sym some)) (rw (sym some) refl) size before below r
      (omega (arith, is_size, ap tree_size is)) is_before p g)

  pub item_added : (i : ℕ) (ts : Items) → t ≡ list ts → None ≡ item_at i ts
      → (size : ℕ) (made r : Result Measure PutError) → size ≡ tree_size t + (i - item_count ts)
      → IsMade ms v made → IsGrown size 0 made r → IsPlan n (term.Index i ∷ ms) v t r
  item_added i ts is none size made r is_size m g =
      subst (λ u. IsPlan n (term.Index i ∷ ms) v u r) (sym is)
      (added_ok n (term.Index i) ms v (list ts) (λ w. list (put_item i w ts)) (i - item_count ts)
      (adds_item i ts (sym none)) (rw (sym none) refl) size made r
      (omega (arith, is_size, ap tree_size is)) m g)

  pub item_changed : (i : ℕ) (ts : Items) (c : Plain) → t ≡ list ts → Some c ≡ item_at i ts
      → (size before : ℕ) (below r : Result Measure PutError) → size ≡ tree_size t → before
      ≡ tree_size c → IsPlan (n + 1) ms v c below → IsGrown size before below r
      → IsPlan n (term.Index i ∷ ms) v t r
  item_changed i ts c is some size before below r is_size is_before p g =
      subst (λ u. IsPlan n (term.Index i ∷ ms) v u r) (sym is)
      (changed_ok n (term.Index i) ms v (list ts) (λ w. list (put_item i w ts)) c
      (changes_item i c ts (sym some)) (rw (sym some) refl) size before below r
      (omega (arith, is_size, ap tree_size is)) is_before p g)

pub found_within : (k : List ℕ) (fs : Fields) (c t : Plain) → t ≡ dict fs → Some c ≡ find_field k fs
    → tree_size c ≤ tree_size t
found_within k fs c t is some =
    omega (arith, (changes_field k c fs (sym some)).smaller, ap tree_size is)

pub item_within : (i : ℕ) (ts : Items) (c t : Plain) → t ≡ list ts → Some c ≡ item_at i ts
    → tree_size c ≤ tree_size t
item_within i ts c t is some =
    omega (arith, (changes_item i c ts (sym some)).smaller, ap tree_size is)

pub past_end : (i : ℕ) (ts : List Plain) → None ≡ item_at i (items_of ts) → length ts ≤ i
past_end i [] h = omega arith
past_end zero (t ∷ ts) h = cc
past_end (suc i) (t ∷ ts) h = omega (arith, past_end i ts h)
