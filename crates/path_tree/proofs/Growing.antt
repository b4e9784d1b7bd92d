-- Paths that grow: what stands at a path with more terms, and what a put there leaves.
use Rattle.std.proofs.Common.{◌≡◌, ℕ, ◌+◌, List, [], ◌∷◌, ◌++◌, length, Option, Some, None, option_and_then, Result, Ok, Err, refl, ap, sym, ◌∙◌, arith}
use Rattle.path_tree.specs.Plain.{Plain, dict, list, text, long, boolean, undef, null, Items, Fields}
use Rattle.path_tree.specs.Find.{child, find_field, get, item_at}
use Rattle.path_tree.specs.Put.{walk, over, put_field, put_item, within_size, within_height, put}
use Rattle.path_tree.specs.declared.path.Term.{Term}
use Rattle.path_tree.specs.declared.path.Term.TheVariants as term
use Rattle.path_tree.specs.declared.path.PutError.{PutError}

some_same : (o : Option Plain) → option_and_then (λ t. Some t) o ≡ o
some_same None = refl
some_same (Some t) = refl

-- one term
pub get_one : (m : Term) (t : Plain) → get (m ∷ []) t ≡ child m t
get_one m t = some_same (child m t)

and_then_twice : (f g h : Plain → Option Plain) → ((u : Plain) → h u ≡ option_and_then g (f u))
    → (o : Option Plain) → option_and_then h o ≡ option_and_then g (option_and_then f o)
and_then_twice f g h e None = refl
and_then_twice f g h e (Some u) = e u

-- what stands at a path and terms behind it is what those terms find in what the path finds
pub get_append : (ms ns : List Term) (t : Plain) → get (ms ++ ns) t
    ≡ option_and_then (get ns) (get ms t)
get_append [] ns t = refl
get_append (m ∷ ms) ns t =
    and_then_twice (get ms) (get ns) (get (ms ++ ns)) (get_append ms ns) (child m t)

-- a term more, at the end
pub get_push : (ms : List Term) (m : Term) (t : Plain) → get (ms ++ m ∷ []) t
    ≡ option_and_then (child m) (get ms t)
get_push [] m t = get_one m t
get_push (n ∷ ms) m t = and_then_twice (get ms) (child m) (get (ms ++ m ∷ [])) (get_push ms m)
    (child n t)

-- a walk goes on from what another one left
abbrev pub going_on : Result Plain PutError → (Plain → Result Plain PutError)
    → Result Plain PutError
going_on (Ok t) next = next t
going_on (Err e) next = Err e

ended : (r : Result Plain PutError) → r ≡ going_on r (λ w. Ok w)
ended (Ok t) = refl
ended (Err e) = refl

around : (f : Plain → Plain) (r : Result Plain PutError)
    (inner outer : Plain → Result Plain PutError) → ((w : Plain) → outer w ≡ over f (inner w))
    → over f (going_on r inner) ≡ going_on r outer
around f (Ok w) inner outer e = sym (e w)
around f (Err x) inner outer e = refl

module _ (ms ns : List Term) (k : ℕ) (v c : Plain) (n : ℕ)
    (below : (u : Plain) → get ms u ≡ Some c → walk (n + 1) (ms ++ ns) v u
    ≡ going_on (walk k ns v c) (λ w. walk (n + 1) ms w u)) where
  at_field : (m : List ℕ) (fs : Fields) (o : Option Plain) → find_field m fs ≡ o
      → option_and_then (get ms) o ≡ Some c → walk n (term.Key m ∷ (ms ++ ns)) v (dict fs)
      ≡ going_on (walk k ns v c) (λ w. walk n (term.Key m ∷ ms) w (dict fs))
  at_field m fs None is h = cc
  at_field m fs (Some u) is h =
      rw is (ap (over (λ w. dict (put_field m w fs))) (below u h)
      ∙ around (λ w. dict (put_field m w fs)) (walk k ns v c) (λ w. walk (n + 1) ms w u)
      (λ w. over (λ x. dict (put_field m x fs)) (walk (n + 1) ms w u)) (λ w. refl))

  at_item : (i : ℕ) (ts : Items) (o : Option Plain) → item_at i ts ≡ o → option_and_then (get ms) o
      ≡ Some c → walk n (term.Index i ∷ (ms ++ ns)) v (list ts)
      ≡ going_on (walk k ns v c) (λ w. walk n (term.Index i ∷ ms) w (list ts))
  at_item i ts None is h = cc
  at_item i ts (Some u) is h =
      rw is (ap (over (λ w. list (put_item i w ts))) (below u h)
      ∙ around (λ w. list (put_item i w ts)) (walk k ns v c) (λ w. walk (n + 1) ms w u)
      (λ w. over (λ x. list (put_item i x ts)) (walk (n + 1) ms w u)) (λ w. refl))

-- a put along a path and terms behind it puts along those terms into what the path finds, and that
-- along the path
pub walk_append : (ms ns : List Term) (n k : ℕ) (v t c : Plain) → get ms t ≡ Some c → k
    ≡ n + length ms → walk n (ms ++ ns) v t ≡ going_on (walk k ns v c) (λ w. walk n ms w t)
walk_append [] ns n k v t c found passed =
    let same : t ≡ c = cc in
    let here : k ≡ n = omega (arith, passed) in
    rw (here, ← same) (ended (walk n ns v t))
walk_append (term.Key m ∷ ms) ns n k v (dict fs) c found passed =
    let further : k ≡ n + 1 + length ms = omega (arith, passed) in
    at_field ms ns k v c n (λ u h. walk_append ms ns (n + 1) k v u c h further) m fs
    (find_field m fs) refl found
walk_append (term.Index i ∷ ms) ns n k v (list ts) c found passed =
    let further : k ≡ n + 1 + length ms = omega (arith, passed) in
    at_item ms ns k v c n (λ u h. walk_append ms ns (n + 1) k v u c h further) i ts (item_at i ts)
    refl found
walk_append (term.Key m ∷ ms) ns n k v (list ts) c found passed = cc
walk_append (term.Key m ∷ ms) ns n k v (text b) c found passed = cc
walk_append (term.Key m ∷ ms) ns n k v (long z) c found passed = cc
walk_append (term.Key m ∷ ms) ns n k v (boolean b) c found passed = cc
walk_append (term.Key m ∷ ms) ns n k v undef c found passed = cc
walk_append (term.Key m ∷ ms) ns n k v null c found passed = cc
walk_append (term.Index i ∷ ms) ns n k v (dict fs) c found passed = cc
walk_append (term.Index i ∷ ms) ns n k v (text b) c found passed = cc
walk_append (term.Index i ∷ ms) ns n k v (long z) c found passed = cc
walk_append (term.Index i ∷ ms) ns n k v (boolean b) c found passed = cc
walk_append (term.Index i ∷ ms) ns n k v undef c found passed = cc
walk_append (term.Index i ∷ ms) ns n k v null c found passed = cc

pub put_append : (ms ns : List Term) (v t c : Plain) → get ms t ≡ Some c → put (ms ++ ns) v t
    ≡ within_height (within_size (going_on (walk (length ms) ns v c) (λ w. walk 0 ms w t)))
put_append ms ns v t c found =
    ap (λ r. within_height (within_size r)) (walk_append ms ns 0 (length ms) v t c found
    (omega arith))
