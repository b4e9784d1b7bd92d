-- What stands at a path after a put.
use Rattle.std.proofs.Common.{◌≡◌, Bool, true, false, subst, if◌then◌else◌, ℕ, zero, suc, ◌+◌, List, [], ◌∷◌, Option, Some, None, option_and_then, Result, Ok, Err, refl, ap, sym, ◌∙◌}
use Rattle.std.specs.Prelude.{nat_lt}
use Rattle.std.specs.Option.{option_map_or}
use Rattle.std.specs.Ordering.{nat_cmp, match_ordering, ordering_reverse}
use Rattle.std.specs.Cmp.Lexicographic.{slice_cmp, nat_list_cmp_total}
use Rattle.std.specs.declared.cmp.Ordering.{Ordering}
use Rattle.std.specs.declared.cmp.Ordering.TheVariants.{Less, Equal, Greater}
use Rattle.base.specs.declared.limits.TheConstants.{MAX_TREE_HEIGHT, MAX_TREE_SIZE}
use Rattle.path_tree.specs.Plain.{Plain, dict, list, text, long, boolean, undef, null, Items, no_items, item, Fields, no_fields, field, tree_size, tree_height}
use Rattle.path_tree.specs.Find.{child, find_field, get, item_at}
use Rattle.path_tree.specs.Put.{chain, over, put, put_field, put_item, walk, within_height, within_size}
use Rattle.path_tree.specs.declared.path.Term.{Term}
use Rattle.path_tree.specs.declared.path.Term.TheVariants as term
use Rattle.path_tree.specs.declared.path.PutError.{PutError}
use Rattle.path_tree.specs.declared.path.PutError.TheVariants.{TooLarge, TooHigh}
use Rattle.path_tree.specs.Take.{IsTaken}

reversed_itself : (o : Ordering) → o ≡ ordering_reverse o → o ≡ Equal
reversed_itself Less h = cc
reversed_itself Equal h = refl
reversed_itself Greater h = cc

abbrev the_ok : Plain → Result Plain PutError
the_ok t = Ok t

ok_is : {a b : Plain} → the_ok a ≡ the_ok b → a ≡ b
ok_is h = cc

equal_itself : (k : List ℕ) → slice_cmp nat_cmp k k ≡ Equal
equal_itself k = reversed_itself (slice_cmp nat_cmp k k) (nat_list_cmp_total.antisymm k k)

-- fields
found_at : (k l : List ℕ) (t u : Plain) (fs : Fields) (o : Ordering) → slice_cmp nat_cmp k l ≡ o
    → find_field k (put_field k t fs) ≡ Some t → find_field k
    (match_ordering o (field k t (field l u fs)) (field l t fs) (field l u (put_field k t fs)))
    ≡ Some t
found_at k l t u fs Less is later = rw (equal_itself k) refl
found_at k l t u fs Equal is later = rw is refl
found_at k l t u fs Greater is later = rw is later

pub find_put_field : (k : List ℕ) (t : Plain) (fs : Fields) → find_field k (put_field k t fs)
    ≡ Some t
find_put_field k t no_fields = rw (equal_itself k) refl
find_put_field k t (field l u fs) =
    found_at k l t u fs (slice_cmp nat_cmp k l) refl (find_put_field k t fs)

twice_at : (k l : List ℕ) (s t u : Plain) (fs : Fields) (o : Ordering) → slice_cmp nat_cmp k l ≡ o
    → put_field k s (put_field k t fs) ≡ put_field k s fs
    → put_field k s (match_ordering o (field k t (field l u fs)) (field l t fs)
    (field l u (put_field k t fs))) ≡ match_ordering o (field k s (field l u fs)) (field l s fs)
    (field l u (put_field k s fs))
twice_at k l s t u fs Less is later = rw (equal_itself k) refl
twice_at k l s t u fs Equal is later = rw is refl
twice_at k l s t u fs Greater is later = rw is (ap (field l u) later)

pub put_field_twice : (k : List ℕ) (s t : Plain) (fs : Fields) → put_field k s (put_field k t fs)
    ≡ put_field k s fs
put_field_twice k s t no_fields = rw (equal_itself k) refl
put_field_twice k s t (field l u fs) =
    twice_at k l s t u fs (slice_cmp nat_cmp k l) refl (put_field_twice k s t fs)

-- items
pub item_put_item : (i : ℕ) (t : Plain) (ts : Items) → item_at i (put_item i t ts) ≡ Some t
item_put_item zero t no_items = refl
item_put_item zero t (item u us) = refl
item_put_item (suc i) t no_items = item_put_item i t no_items
item_put_item (suc i) t (item u us) = item_put_item i t us

pub put_item_twice : (i : ℕ) (s t : Plain) (ts : Items) → put_item i s (put_item i t ts)
    ≡ put_item i s ts
put_item_twice zero s t no_items = refl
put_item_twice zero s t (item u us) = refl
put_item_twice (suc i) s t no_items = ap (item undef) (put_item_twice i s t no_items)
put_item_twice (suc i) s t (item u us) = ap (item u) (put_item_twice i s t us)

get_chain : (ms : List Term) (v : Plain) → get ms (chain ms v) ≡ Some v
get_chain [] v = refl
get_chain (term.Key k ∷ ms) v = rw (equal_itself k) (get_chain ms v)
get_chain (term.Index i ∷ ms) v = rw (item_put_item i (chain ms v) no_items) (get_chain ms v)

-- v was put at a path of t, which left u: it stands there, and another put along the path goes over
-- it
pub record IsPut (ms : List Term) (v t u : Plain) : Type 0 where
  pub found : get ms u ≡ Some v
  pub again : (c w : Plain) (n : ℕ) → get ms t ≡ Some c → walk n ms w u ≡ walk n ms w t

over_twice : (f g : Plain → Plain) → ((x : Plain) → f x ≡ g x) → (r : Result Plain PutError)
    → over f r ≡ over g r
over_twice f g same (Ok x) = ap (λ y. Ok y) (same x)
over_twice f g same (Err e) = refl

module _ (ms : List Term) (v : Plain) where
  field_put : (k : List ℕ) (fs : Fields) (c w : Plain) → find_field k fs ≡ Some c → IsPut ms v c w
      → IsPut (term.Key k ∷ ms) v (dict fs) (dict (put_field k w fs))
  field_put k fs c w is h = record {
    found = rw (find_put_field k w fs) h.found;
    again = λ d x n found.
        let below : get ms c ≡ Some d = sym (ap (option_and_then (get ms)) is) ∙ found in
        rw (find_put_field k w fs, is, h.again d x (n + 1) below)
        (over_twice (λ y. dict (put_field k y (put_field k w fs)))
        (λ y. dict (put_field k y fs)) (λ y. ap dict (put_field_twice k y w fs))
        (walk (n + 1) ms x c));
  }

  field_made : (k : List ℕ) (fs : Fields) → find_field k fs ≡ None
      → IsPut (term.Key k ∷ ms) v (dict fs) (dict (put_field k (chain ms v) fs))
  field_made k fs is = record {
    found = rw (find_put_field k (chain ms v) fs) (get_chain ms v);
    again = λ d x n found. let none : option_and_then (get ms) None ≡ Some d =
        sym (ap (option_and_then (get ms)) is) ∙ found in cc;
  }

  item_put : (i : ℕ) (ts : Items) (c w : Plain) → item_at i ts ≡ Some c → IsPut ms v c w
      → IsPut (term.Index i ∷ ms) v (list ts) (list (put_item i w ts))
  item_put i ts c w is h = record {
    found = rw (item_put_item i w ts) h.found;
    again = λ d x n found.
        let below : get ms c ≡ Some d = sym (ap (option_and_then (get ms)) is) ∙ found in
        rw (item_put_item i w ts, is, h.again d x (n + 1) below)
        (over_twice (λ y. list (put_item i y (put_item i w ts))) (λ y. list (put_item i y ts))
        (λ y. ap list (put_item_twice i y w ts)) (walk (n + 1) ms x c));
  }

  item_made : (i : ℕ) (ts : Items) → item_at i ts ≡ None
      → IsPut (term.Index i ∷ ms) v (list ts) (list (put_item i (chain ms v) ts))
  item_made i ts is = record {
    found = rw (item_put_item i (chain ms v) ts) (get_chain ms v);
    again = λ d x n found. let none : option_and_then (get ms) None ≡ Some d =
        sym (ap (option_and_then (get ms)) is) ∙ found in cc;
  }

  module _ (ih : (t u : Plain) (n : ℕ) → walk n ms v t ≡ Ok u → IsPut ms v t u) (n : ℕ)
      (u : Plain) where
    at_field : (k : List ℕ) (fs : Fields) (o : Option Plain) → find_field k fs ≡ o
        → over (λ w. dict (put_field k w fs)) (option_map_or (walk (n + 1) ms v) o
        (Ok (chain ms v))) ≡ Ok u → IsPut (term.Key k ∷ ms) v (dict fs) u
    at_field k fs None is e =
        let same : dict (put_field k (chain ms v) fs) ≡ u = cc in
        subst (IsPut (term.Key k ∷ ms) v (dict fs)) same (field_made k fs is)
    at_field k fs (Some c) is e = below (walk (n + 1) ms v c) refl e
      where
        below : (r : Result Plain PutError) → walk (n + 1) ms v c ≡ r
            → over (λ w. dict (put_field k w fs)) r ≡ Ok u → IsPut (term.Key k ∷ ms) v (dict fs) u
        below (Ok w) at h =
            let same : dict (put_field k w fs) ≡ u = cc in
            subst (IsPut (term.Key k ∷ ms) v (dict fs)) same
            (field_put k fs c w is (ih c w (n + 1) at))
        below (Err x) at h = cc

    at_item : (i : ℕ) (ts : Items) (o : Option Plain) → item_at i ts ≡ o
        → over (λ w. list (put_item i w ts)) (option_map_or (walk (n + 1) ms v) o (Ok (chain ms v)))
        ≡ Ok u → IsPut (term.Index i ∷ ms) v (list ts) u
    at_item i ts None is e =
        let same : list (put_item i (chain ms v) ts) ≡ u = cc in
        subst (IsPut (term.Index i ∷ ms) v (list ts)) same (item_made i ts is)
    at_item i ts (Some c) is e = below (walk (n + 1) ms v c) refl e
      where
        below : (r : Result Plain PutError) → walk (n + 1) ms v c ≡ r
            → over (λ w. list (put_item i w ts)) r ≡ Ok u → IsPut (term.Index i ∷ ms) v (list ts) u
        below (Ok w) at h =
            let same : list (put_item i w ts) ≡ u = cc in
            subst (IsPut (term.Index i ∷ ms) v (list ts)) same
            (item_put i ts c w is (ih c w (n + 1) at))
        below (Err x) at h = cc

    at_nothing : (m : Term) (t : Plain) → walk n (m ∷ ms) v t ≡ Ok (chain (m ∷ ms) v) → child m t
        ≡ None → walk n (m ∷ ms) v t ≡ Ok u → IsPut (m ∷ ms) v t u
    at_nothing m t made none e =
        let same : chain (m ∷ ms) v ≡ u = ok_is (sym made ∙ e) in
        subst (IsPut (m ∷ ms) v t) same (record {
          found = get_chain (m ∷ ms) v;
          again = λ d x k found. let no_child : option_and_then (get ms) None ≡ Some d =
              sym (ap (option_and_then (get ms)) none) ∙ found in cc;
        })

pub walk_put : (ms : List Term) (v t u : Plain) (n : ℕ) → walk n ms v t ≡ Ok u → IsPut ms v t u
walk_put [] v t u n e = let same : v ≡ u = ok_is e in
    record { found = ap (λ x. Some x) (sym same); again = λ c w k found. refl }
walk_put (term.Key k ∷ ms) v (dict fs) u n e =
    at_field ms v (walk_put ms v) n u k fs (find_field k fs) refl e
walk_put (term.Key k ∷ ms) v (list ts) u n e = cc
walk_put (term.Key k ∷ ms) v (text b) u n e = cc
walk_put (term.Key k ∷ ms) v (long z) u n e = cc
walk_put (term.Key k ∷ ms) v (boolean b) u n e = cc
walk_put (term.Key k ∷ ms) v undef u n e =
    at_nothing ms v (walk_put ms v) n u (term.Key k) undef refl refl e
walk_put (term.Key k ∷ ms) v null u n e =
    at_nothing ms v (walk_put ms v) n u (term.Key k) null refl refl e
walk_put (term.Index i ∷ ms) v (dict fs) u n e = cc
walk_put (term.Index i ∷ ms) v (list ts) u n e =
    at_item ms v (walk_put ms v) n u i ts (item_at i ts) refl e
walk_put (term.Index i ∷ ms) v (text b) u n e = cc
walk_put (term.Index i ∷ ms) v (long z) u n e = cc
walk_put (term.Index i ∷ ms) v (boolean b) u n e = cc
walk_put (term.Index i ∷ ms) v undef u n e =
    at_nothing ms v (walk_put ms v) n u (term.Index i) undef refl refl e
walk_put (term.Index i ∷ ms) v null u n e =
    at_nothing ms v (walk_put ms v) n u (term.Index i) null refl refl e

put_walks : (r : Result Plain PutError) (u : Plain) → within_height (within_size r) ≡ Ok u → r
    ≡ Ok u
put_walks (Ok t) u h = by_size (nat_lt MAX_TREE_SIZE (tree_size t)) h
  where
    by_height : (high : Bool) → (if high then Err TooHigh else Ok t) ≡ Ok u → the_ok t ≡ Ok u
    by_height true e = cc
    by_height false e = e

    by_size : (large : Bool) → within_height (if large then Err TooLarge else Ok t) ≡ Ok u
        → the_ok t ≡ Ok u
    by_size true e = cc
    by_size false e = by_height (nat_lt MAX_TREE_HEIGHT (tree_height t)) e
put_walks (Err e) u h = cc

-- what was put stands at its path
pub get_put : (ms : List Term) (v t u : Plain) → put ms v t ≡ Ok u → get ms u ≡ Some v
get_put ms v t u e = (walk_put ms v t u 0 (put_walks (walk 0 ms v t) u e)).found

-- where something stood, a put over what was put leaves what a put at once leaves
pub put_twice : (ms : List Term) (v w t u c : Plain) → get ms t ≡ Some c → put ms v t ≡ Ok u
    → put ms w u ≡ put ms w t
put_twice ms v w t u c found e =
    ap (λ r. within_height (within_size r))
    ((walk_put ms v t u 0 (put_walks (walk 0 ms v t) u e)).again c w 0 found)

-- what was taken out is put back, or another value in its place: as a put into the tree as it was
pub put_back : (ms : List Term) (w old left t : Plain) → IsTaken ms old (Some t) left
    → put ms w left ≡ put ms w old
put_back ms w old left t taken = put_twice ms undef w old left t taken.0 taken.1
