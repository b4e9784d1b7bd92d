-- A sorted list of names without what stands there twice.
use Rattle.std.proofs.Common.{◌≡◌, ◌||◌, ℕ, List, [], ◌∷◌, Bool, true, false, cond, bytes_eq, refl, sym, ap, ◌∙◌}
use Rattle.std.specs.Cmp.Lexicographic.{slice_cmp, nat_list_cmp_total}
use Rattle.std.specs.List.{list_any, dedup, dedup_from}
use Rattle.std.specs.List.Sorted.{IsSorted, IsStrictlySortedBy}
use Rattle.std.specs.Ordering.{nat_cmp}
use Rattle.std.proofs.lemmas.List.Kept.{IsStrictlySortedBy-dedup}
use Rattle.std.proofs.lemmas.Map.Text.{is_eq-slice_cmp}
use Rattle.std.proofs.lemmas.Slice.Eq.{bytes_eq-Decides}

pub once_sorted : (names : List (List ℕ)) → IsSorted (slice_cmp nat_cmp) names
    → IsStrictlySortedBy (slice_cmp nat_cmp) (dedup bytes_eq names)
once_sorted names sorted =
    IsStrictlySortedBy-dedup nat_list_cmp_total (λ x y. sym (is_eq-slice_cmp x y)) names sorted

-- the same names stand there
same_from : (n k : List ℕ) (names : List (List ℕ))
    → list_any (λ m. bytes_eq m n) (dedup_from bytes_eq k names) ≡ bytes_eq k n
    || list_any (λ m. bytes_eq m n) names
same_from n k [] = refl
same_from n k (x ∷ names) = at (bytes_eq x k) refl (same_from n k names) (same_from n x names)
  where
    twice : (a b : Bool) → a || b ≡ a || (a || b)
    twice true b = refl
    twice false b = refl

    at : (b : Bool) → bytes_eq x k ≡ b → list_any (λ m. bytes_eq m n) (dedup_from bytes_eq k names)
        ≡ bytes_eq k n || list_any (λ m. bytes_eq m n) names
        → list_any (λ m. bytes_eq m n) (dedup_from bytes_eq x names) ≡ bytes_eq x n
        || list_any (λ m. bytes_eq m n) names
        → list_any (λ m. bytes_eq m n) (cond b (dedup_from bytes_eq k names)
        (k ∷ dedup_from bytes_eq x names)) ≡ bytes_eq k n
        || list_any (λ m. bytes_eq m n) (x ∷ names)
    at true is here there =
        let same : x ≡ k = (bytes_eq-Decides x k).0 is in
        here ∙ twice (bytes_eq k n) (list_any (λ m. bytes_eq m n) names)
        ∙ ap (λ y. bytes_eq k n || (bytes_eq y n || list_any (λ m. bytes_eq m n) names))
        (sym same)
    at false is here there = ap (λ b. bytes_eq k n || b) there

pub same_names : (names : List (List ℕ)) (n : List ℕ)
    → list_any (λ m. bytes_eq m n) (dedup bytes_eq names) ≡ list_any (λ m. bytes_eq m n) names
same_names [] n = refl
same_names (x ∷ names) n = same_from n x names
