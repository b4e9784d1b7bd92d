-- No name is reached through more reads than there are names.
use Rattle.std.proofs.Common.{◌≡◌, ◌⊎◌, ℕ, zero, suc, ◌+◌, ◌≤◌, List, [], ◌∷◌, ◌||◌, ◌&&◌, Bool, true, false, cond, length, refl, sym, ap, ap₂, ◌∙◌, inl, inr, ⊎_elim, arith}
use Rattle.std.specs.Cmp.Lexicographic.{slice_cmp}
use Rattle.std.specs.List.{list_any, filter}
use Rattle.std.specs.List.Sorted.{IsStrictlySortedBy}
use Rattle.std.specs.Ordering.{nat_cmp}
use Rattle.std.proofs.lemmas.Cmp.{nat_list_cmp_total}
use Rattle.std.proofs.lemmas.Map.Lookups.{btree_set_from_contains, exact_bytes}
use Rattle.pan_impact.specs.Levels.{within}
use Rattle.pan_impact.specs.Reaching.{stands_in}
use Rattle.pan_impact.proofs.Members.{left_holds, found_same}

-- two tests answer alike of all these
abbrev pub AreSame : {X : Type 0} → (X → Bool) → (X → Bool) → List X → Type 0
AreSame f g [] = Unit {0}
AreSame f g (x ∷ xs) = (g x ≡ f x) × AreSame f g xs

-- how many of these pass a test
abbrev count : {X : Type 0} → (X → Bool) → List X → ℕ
count f [] = 0
count f (x ∷ xs) = cond (f x) 1 0 + count f xs

count_most : {X : Type 0} (f : X → Bool) (xs : List X) → count f xs ≤ length xs
count_most f [] = omega arith
count_most f (x ∷ xs) = at (f x) (count_most f xs)
  where
    at : (a : Bool) → count f xs ≤ length xs → cond a 1 0 + count f xs ≤ suc (length xs)
    at true le = omega (arith, le)
    at false le = omega (arith, le)

counts_more : {X : Type 0} (f g : X → Bool) → ((x : X) → f x ≡ true → g x ≡ true) → (xs : List X)
    → count f xs ≤ count g xs
counts_more f g more [] = omega arith
counts_more f g more (x ∷ xs) = at (f x) refl (g x) refl (counts_more f g more xs)
  where
    at : (a : Bool) → f x ≡ a → (b : Bool) → g x ≡ b → count f xs ≤ count g xs
        → count f (x ∷ xs) ≤ count g (x ∷ xs)
    at true e true h le = rw (e, h) (omega (arith, le))
    at true e false h le = absurd (let clash : true ≡ false = sym (more x e) ∙ h in cc)
    at false e true h le = rw (e, h) (omega (arith, le))
    at false e false h le = rw (e, h) (omega (arith, le))

-- a test that holds of more answers alike, or counts more
same_or_more : {X : Type 0} (f g : X → Bool) → ((x : X) → f x ≡ true → g x ≡ true) → (xs : List X)
    → AreSame f g xs ⊎ (count f xs + 1 ≤ count g xs)
same_or_more f g more [] = inl tt
same_or_more {X} f g more (x ∷ xs) = at (f x) refl (g x) refl (same_or_more f g more xs)
  where
    at : (a : Bool) → f x ≡ a → (b : Bool) → g x ≡ b → AreSame f g xs
        ⊎ (count f xs + 1 ≤ count g xs) → AreSame f g (x ∷ xs)
        ⊎ (count f (x ∷ xs) + 1 ≤ count g (x ∷ xs))
    at true e false h rest = absurd (let clash : true ≡ false = sym (more x e) ∙ h in cc)
    at false e true h rest = inr (rw (e, h) (let le = counts_more f g more xs in omega (arith, le)))
    at true e true h (inl same) = inl (h ∙ sym e, same)
    at true e true h (inr le) = inr (rw (e, h) (omega (arith, le)))
    at false e false h (inl same) = inl (h ∙ sym e, same)
    at false e false h (inr le) = inr (rw (e, h) (omega (arith, le)))

any_same : (f g h : List ℕ → Bool) (xs : List (List ℕ)) → AreSame f g xs
    → list_any (λ n. h n && g n) xs ≡ list_any (λ n. h n && f n) xs
any_same f g h [] same = refl
any_same f g h (x ∷ xs) same = ap₂ (λ a b. (h x && a) || b) same.0 (any_same f g h xs same.1)

all_same : {X : Type 0} (f g : X → Bool) → ((x : X) → g x ≡ f x) → (xs : List X) → AreSame f g xs
all_same f g same [] = tt
all_same f g same (x ∷ xs) = (same x, all_same f g same xs)

module _ (starts : List ℕ → Bool) (reads : List ℕ → List ℕ → Bool) (names : List (List ℕ)) where
  abbrev at_most : ℕ → List ℕ → Bool
  at_most = within starts reads names

  pub up : (k : ℕ) (n : List ℕ) → at_most k n ≡ true → at_most (suc k) n ≡ true
  up k n is = left_holds (at_most k n) _ is

  pub up_from_start : (k : ℕ) (n : List ℕ) → starts n ≡ true → at_most k n ≡ true
  up_from_start zero n is = is
  up_from_start (suc k) n is = up k n (up_from_start k n is)

  -- one more read reaches no other of the names
  abbrev pub IsStill : ℕ → Type 0
  IsStill k = AreSame (at_most k) (at_most (suc k)) names

  -- .. nor do two
  still_on : (k : ℕ) → IsStill k → IsStill (suc k)
  still_on k still = all_same (at_most (suc k)) (at_most (suc (suc k)))
      (λ n. ap (λ b. at_most (suc k) n || b) (any_same (at_most k) (at_most (suc k)) (reads n) names
      still) ∙ twice (at_most k n) _) names
    where
      twice : (a b : Bool) → ((a || b) || b) ≡ (a || b)
      twice true b = refl
      twice false true = refl
      twice false false = refl

  still_or_more : (k : ℕ) → IsStill k ⊎ (suc k ≤ count (at_most (suc k)) names)
  still_or_more zero = ⊎_elim
      (λ same. inl same)
      (λ (le : count (at_most 0) names + 1 ≤ count (at_most 1) names). inr (omega (arith, le)))
      (same_or_more (at_most 0) (at_most 1) (up 0) names)
  still_or_more (suc k) = ⊎_elim
      (λ still. inl (still_on k still))
      (λ (so_far : suc k ≤ count (at_most (suc k)) names). ⊎_elim
      (λ same. inl same)
      (λ (le : count (at_most (suc k)) names + 1 ≤ count (at_most (suc (suc k))) names). inr
      (omega (arith, so_far, le)))
      (same_or_more (at_most (suc k)) (at_most (suc (suc k))) (up (suc k)) names))
      (still_or_more k)

  pub settled : IsStill (length names)
  settled = ⊎_elim
      (λ still. still)
      (λ (le : suc (length names) ≤ count (at_most (suc (length names))) names). absurd
      (let most = count_most (at_most (suc (length names))) names in omega (arith, le, most)))
      (still_or_more (length names))

-- rising lists of the same names are one
pub sorted_one : (xs ys : List (List ℕ)) → IsStrictlySortedBy (slice_cmp nat_cmp) xs
    → IsStrictlySortedBy (slice_cmp nat_cmp) ys → ((n : List ℕ) → stands_in n xs ≡ stands_in n ys)
    → xs ≡ ys
sorted_one xs ys p q same =
    btree_set_from_contains nat_list_cmp_total (record { keys = xs }) (record { keys = ys }) p q
    (λ n. found_same n xs ∙ same n ∙ sym (found_same n ys)) exact_bytes
