-- Names of which none is there twice.
use Rattle.std.proofs.Common.{◌≡◌, ℕ, Bool, true, false, List, [], ◌∷◌, ◌++◌, Some, is_some, if◌then◌else◌, ◌||◌, refl, sym, ap, ap₂, ◌∙◌, append-nil, subst}
use Rattle.std.specs.Prelude.{bytes_eq, cond}
use Rattle.std.specs.Cmp.{IsEquivalence, both_ways}
use Rattle.std.specs.List.{list_any, IsDistinct, AllByRecursion}
use Rattle.std.specs.Map.{lookup, keys_of}
use Rattle.std.proofs.lemmas.List.Folds.{list_any-append}
use Rattle.std.proofs.lemmas.Map.Keys.{IsDistinct-push}
use Rattle.std.proofs.lemmas.Slice.Eq.{bytes_eq-Decides}

turn : (m n : List ℕ) → bytes_eq m n ≡ true → bytes_eq n m ≡ true
turn m n is = (bytes_eq-Decides n m).1 (sym ((bytes_eq-Decides m n).0 is))

pub flips : (m n : List ℕ) → bytes_eq m n ≡ bytes_eq n m
flips m n = both_ways (bytes_eq m n) (bytes_eq n m) (turn m n) (turn n m)

pub bytes_equivalence : IsEquivalence bytes_eq
bytes_equivalence = record {
  refl = λ n. (bytes_eq-Decides n n).1 refl;
  symm = flips;
  congr = λ a b c h. ap (λ k. bytes_eq k c) ((bytes_eq-Decides a b).0 h);
}

any_flips : (n : List ℕ) (names : List (List ℕ)) → list_any (bytes_eq n) names
    ≡ list_any (λ m. bytes_eq m n) names
any_flips n [] = refl
any_flips n (m ∷ names) = ap₂ (λ a b. a || b) (flips n m) (any_flips n names)

-- a name, and those behind it
pub behind : (m : List ℕ) (names : List (List ℕ)) → IsDistinct bytes_eq (m ∷ names)
    → AllByRecursion (λ k. bytes_eq m k ≡ false) names × IsDistinct bytes_eq names
unfolding IsDistinct
behind m names once = once

none_among : (m : List ℕ) (names : List (List ℕ)) → AllByRecursion (λ k. bytes_eq m k ≡ false) names
    → list_any (λ k. bytes_eq k m) names ≡ false
none_among m [] all = refl
none_among m (k ∷ names) all = ap₂ (λ a b. a || b) (flips k m ∙ all.0) (none_among m names all.1)

pub not_among : (m : List ℕ) (names : List (List ℕ)) → IsDistinct bytes_eq (m ∷ names)
    → list_any (λ k. bytes_eq k m) names ≡ false
not_among m names once = none_among m names (behind m names once).0

-- The names of a map, one by one.

absent_by : {V : Type 0} (k n m : List ℕ) (v : V) (rest : List (List ℕ × V)) (b : Bool)
    → bytes_eq n m ≡ b → bytes_eq k m ≡ false → (is_some (lookup (bytes_eq n) rest)
    ≡ true → bytes_eq k n ≡ false) → is_some (cond b (Some v) (lookup (bytes_eq n) rest))
    ≡ true → bytes_eq k n ≡ false
absent_by k n m v rest true is other go some = ap (bytes_eq k) ((bytes_eq-Decides n m).0 is) ∙ other
absent_by k n m v rest false is other go some = go some

-- a name that is found behind another one
pub apart : {V : Type 0} (k n : List ℕ) (rest : List (List ℕ × V))
    → AllByRecursion (λ m. bytes_eq k m ≡ false) (keys_of rest) → is_some (lookup (bytes_eq n) rest)
    ≡ true → bytes_eq k n ≡ false
apart k n [] all some = cc
apart k n (e ∷ rest) all some =
    absent_by k n e.0 e.1 rest (bytes_eq n e.0) refl all.0 (apart k n rest all.1) some

pub once_step : (m : List ℕ) (old new : List (List ℕ)) (g : Bool) → new ≡ old
    ++ (if g then m ∷ [] else []) → list_any (λ k. bytes_eq k m) old ≡ false
    → IsDistinct bytes_eq old → IsDistinct bytes_eq new
once_step m old new true made absent once =
    subst (IsDistinct bytes_eq) (sym made) (IsDistinct-push bytes_equivalence old m once
    (any_flips m old ∙ absent))
once_step m old new false made absent once =
    subst (IsDistinct bytes_eq) (sym (made ∙ append-nil old)) once

pub apart_step : (m n : List ℕ) (old new : List (List ℕ)) (g : Bool) → new ≡ old
    ++ (if g then m ∷ [] else []) → bytes_eq m n ≡ false → list_any (λ k. bytes_eq k n) old ≡ false
    → list_any (λ k. bytes_eq k n) new ≡ false
apart_step m n old new true made other absent =
    rw (made, list_any-append (λ k. bytes_eq k n) old (m ∷ []), absent, other) refl
apart_step m n old new false made other absent =
    rw (made, list_any-append (λ k. bytes_eq k n) old [], absent) refl

pub first_found : {V : Type 0} (m : List ℕ) (v : V) (rest : List (List ℕ × V))
    → is_some (lookup (bytes_eq m) ((m, v) ∷ rest)) ≡ true
first_found m v rest = rw ((bytes_eq-Decides m m).1 refl) refl

pub none_twice : IsDistinct bytes_eq []
unfolding IsDistinct
none_twice = tt
