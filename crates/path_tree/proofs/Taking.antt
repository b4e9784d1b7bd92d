-- What stands at a path can be taken out.
use Rattle.std.proofs.Common.{◌≡◌, ℕ, ◌<◌, ◌≤◌, Bool, true, false, nat_lt, List, [], ◌∷◌, Option, Some, None, Ok, refl, sym, ap, ◌∙◌, option_and_then, arith}
use Rattle.std.proofs.lemmas.Bool.Decides.{nat_tests}
use Rattle.base.specs.declared.limits.TheConstants.{MAX_TREE_HEIGHT, MAX_TREE_SIZE}
use Rattle.path_tree.specs.Plain.{Plain, dict, list, text, long, boolean, undef, null, Items, Fields, tree_size, tree_height}
use Rattle.path_tree.specs.Find.{find_field, item_at, get}
use Rattle.path_tree.specs.Put.{put, put_field, put_item, within_size, within_height}
use Rattle.path_tree.specs.Kept.{CanWalk, Walks}
use Rattle.path_tree.specs.declared.path.Term.{Term}
use Rattle.path_tree.specs.declared.path.Term.TheVariants as term
use Rattle.path_tree.proofs.Changes.{field_walks, item_walks, ok_is}
use Rattle.path_tree.proofs.Sizes.{IsChange, changes_field, changes_item, height_le-size, one_le-height}

-- an undef can be put there, and leaves a tree that is no larger and no higher
record Leaves (ms : List Term) (t : Plain) : Type 0 where
  pub after : Plain
  pub walks : Walks ms undef t after
  pub size : tree_size after ≤ tree_size t
  pub height : tree_height after ≤ tree_height t

-- where an undef can be put below, in the place of a child, it can be put through the term
through : (m : Term) (ms : List Term) (f : Plain → Plain) (c t : Plain) → IsChange f c t
    → ((w : Plain) → Walks ms undef c w → Walks (m ∷ ms) undef t (f w)) → Leaves ms c
    → Leaves (m ∷ ms) t
through m ms f c t change walks left = record {
  after = f left.after;
  walks = walks left.after left.walks;
  size = omega (arith, change.size left.after, left.size);
  height = omega (arith, change.height left.after, change.below, left.height);
}

module _ (ms : List Term) (s : Plain) (below : (c : Plain) → get ms c ≡ Some s → Leaves ms c) where
  at_field : (k : List ℕ) (fs : Fields) (c : Option Plain) → find_field k fs ≡ c
      → option_and_then (get ms) c ≡ Some s → Leaves (term.Key k ∷ ms) (dict fs)
  at_field k fs None is found = cc
  at_field k fs (Some c) is found =
      through (term.Key k) ms (λ w. dict (put_field k w fs)) c (dict fs) (changes_field k c fs is)
      (λ w. field_walks ms undef k fs c w is) (below c found)

  at_item : (i : ℕ) (ts : Items) (c : Option Plain) → item_at i ts ≡ c
      → option_and_then (get ms) c ≡ Some s → Leaves (term.Index i ∷ ms) (list ts)
  at_item i ts None is found = cc
  at_item i ts (Some c) is found =
      through (term.Index i) ms (λ w. list (put_item i w ts)) c (list ts) (changes_item i c ts is)
      (λ w. item_walks ms undef i ts c w is) (below c found)

leaves : (ms : List Term) (t s : Plain) → get ms t ≡ Some s → Leaves ms t
leaves [] t s found = record {
  after = undef;
  walks = λ n. refl;
  size = omega (arith, height_le-size t, one_le-height t);
  height = omega (arith, one_le-height t);
}
leaves (term.Key k ∷ ms) (dict fs) s found =
    at_field ms s (λ c is. leaves ms c s is) k fs (find_field k fs) refl found
leaves (term.Index i ∷ ms) (list ts) s found =
    at_item ms s (λ c is. leaves ms c s is) i ts (item_at i ts) refl found
leaves (term.Key k ∷ ms) (list ts) s found = cc
leaves (term.Key k ∷ ms) (text b) s found = cc
leaves (term.Key k ∷ ms) (long z) s found = cc
leaves (term.Key k ∷ ms) (boolean b) s found = cc
leaves (term.Key k ∷ ms) undef s found = cc
leaves (term.Key k ∷ ms) null s found = cc
leaves (term.Index i ∷ ms) (dict fs) s found = cc
leaves (term.Index i ∷ ms) (text b) s found = cc
leaves (term.Index i ∷ ms) (long z) s found = cc
leaves (term.Index i ∷ ms) (boolean b) s found = cc
leaves (term.Index i ∷ ms) undef s found = cc
leaves (term.Index i ∷ ms) null s found = cc

module _ (ms : List Term) (t s : Plain) (small : tree_size t ≤ MAX_TREE_SIZE)
    (low : tree_height t ≤ MAX_TREE_HEIGHT) (found : get ms t ≡ Some s) where
  -- the walk goes through within the limits
  pub can_take : CanWalk ms undef t
  can_take =
      let left = leaves ms t s found in
      record {
        passed = 0;
        after = left.after;
        is = left.walks 0;
        size = omega (arith, left.size, small);
        height = omega (arith, left.height, low);
      }

  fits : (u : Plain) → tree_size u ≤ MAX_TREE_SIZE → tree_height u ≤ MAX_TREE_HEIGHT
      → (large high : Bool) → nat_lt MAX_TREE_SIZE (tree_size u) ≡ large
      → nat_lt MAX_TREE_HEIGHT (tree_height u) ≡ high → within_height (within_size (Ok u)) ≡ Ok u
  fits u size height false false is_large is_high = rw (is_large, is_high) refl
  fits u size height true high is_large is_high =
      let over_size : MAX_TREE_SIZE < tree_size u = grind (arith, nat_tests) in
      absurd (omega (arith, over_size, size))
  fits u size height false true is_large is_high =
      let over_height : MAX_TREE_HEIGHT < tree_height u = grind (arith, nat_tests) in
      absurd (omega (arith, over_height, height))

  -- what the walk leaves is what a put leaves
  pub taken : (u : Plain) → Walks ms undef t u → put ms undef t ≡ Ok u
  taken u walks =
      let left = leaves ms t s found in
      let same : u ≡ left.after = ok_is (sym (walks 0) ∙ left.walks 0) in
      let size : tree_size u ≤ MAX_TREE_SIZE = omega (arith, ap tree_size same, left.size, small) in
      let height : tree_height u ≤ MAX_TREE_HEIGHT =
      omega (arith, ap tree_height same, left.height, low) in
      ap (λ r. within_height (within_size r)) (walks 0)
      ∙ fits u size height (nat_lt MAX_TREE_SIZE (tree_size u)) (nat_lt MAX_TREE_HEIGHT
      (tree_height u)) refl refl
