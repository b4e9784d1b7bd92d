-- Names in their places.
use Rattle.std.proofs.Common.{◌≡◌, ◌≤◌, ◌<◌, ℕ, zero, suc, Bool, true, false, List, [], ◌∷◌, length, Option, Some, None, ◌&&◌, ◌||◌, if◌then◌else◌, refl, sym, ap, ◌∙◌, arith}
use Rattle.std.specs.Prelude.{bytes_eq, slice_index_or, slice_get}
use Rattle.std.specs.List.{insert}
use Rattle.std.specs.List.Sorted.{IsPartitionPoint, IsPartitionedBy}
use Rattle.load_path.specs.Pictures.{is_below}
use Rattle.object_names.specs.Objects.{stands_in, begins_above, are_rising}
use Rattle.object_names.specs.Finding.{place_in, is_same, with_object}
use Rattle.std.proofs.lemmas.Slice.Eq.{bytes_eq-Decides}
use Rattle.load_path.proofs.Order.{below_chain, below_differs, above_differs, else_above}

pub first_true : (a b : Bool) → a && b ≡ true → a ≡ true
first_true true b is = refl
first_true false b is = cc

pub second_true : (a b : Bool) → a && b ≡ true → b ≡ true
second_true true b is = is
second_true false b is = cc

pub both_true : (a b : Bool) → a ≡ true → b ≡ true → a && b ≡ true
both_true true b p q = q
both_true false b p q = cc

begins_on : (n x : List ℕ) (xs : List (List ℕ)) → is_below n x ≡ true → begins_above x xs ≡ true
    → begins_above n xs ≡ true
begins_on n x [] p q = refl
begins_on n x (y ∷ ys) p q = below_chain n x y p q

above_each : (n : List ℕ) (xs : List (List ℕ)) (j : ℕ) (d : List ℕ) → begins_above n xs ≡ true
    → are_rising xs ≡ true → j < length xs → is_below n (slice_index_or xs j d) ≡ true
above_each n [] j d p q h = absurd (omega arith)
above_each n (x ∷ xs) zero d p q h = p
above_each n (x ∷ xs) (suc j) d p q h =
    above_each n xs j d (begins_on n x xs p (first_true _ _ q)) (second_true _ _ q) (omega arith)

pub partitioned : (n : List ℕ) (xs : List (List ℕ)) → are_rising xs ≡ true
    → IsPartitionedBy (λ (x : List ℕ). is_below x n) xs
partitioned n [] q i j d le h p = absurd (omega arith)
partitioned n (x ∷ xs) q zero zero d le h p = p
partitioned n (x ∷ xs) q zero (suc j) d le h p =
    below_chain x (slice_index_or xs j d) n (above_each x xs j d (first_true _ _ q)
    (second_true _ _ q) (omega arith)) p
partitioned n (x ∷ xs) q (suc i) zero d le h p = absurd (omega arith)
partitioned n (x ∷ xs) q (suc i) (suc j) d le h p =
    partitioned n xs (second_true _ _ q) i j d (omega arith) (omega arith) p

pub place_is : (n : List ℕ) (xs : List (List ℕ)) (i : ℕ) → i ≤ length xs
    → IsPartitionPoint (λ (x : List ℕ). is_below x n ≡ true) (λ (x : List ℕ). is_below x n ≡ false)
    xs i → i ≡ place_in xs n
place_is n [] i le point = omega arith
place_is n (x ∷ xs) zero le point = rw (point.1 0 x (omega arith) (omega arith)) refl
place_is n (x ∷ xs) (suc i) le point =
    let ih : i ≡ place_in xs n =
    place_is n xs i (omega arith) (
      λ k d l h. point.0 (suc k) d (omega arith) (omega arith),
      λ k d l h. point.1 (suc k) d (omega arith) (omega arith),
    ) in
    rw (point.0 0 x (omega arith) (omega arith)) (omega arith)

place_within_by : (b : Bool) (k m : ℕ) → k ≤ m → (if b then suc k else 0) ≤ suc m
place_within_by true k m h = omega arith
place_within_by false k m h = omega arith

pub place_within : (n : List ℕ) (xs : List (List ℕ)) → place_in xs n ≤ length xs
place_within n [] = omega arith
place_within n (x ∷ xs) =
    place_within_by (is_below x n) (place_in xs n) (length xs) (place_within n xs)

-- at its place stands the name, so nothing is added
pub there_is : (n : List ℕ) (xs : List (List ℕ)) (y : List ℕ) → slice_get xs (place_in xs n)
    ≡ Some y → bytes_eq y n ≡ true → xs ≡ with_object n xs
there_is n [] y e same = absurd (let clash : ◌≡◌ {A = Option (List ℕ)} None (Some y) = e in cc)
there_is n (x ∷ xs) y e same = at (is_below x n) (there_is n xs y) e
  where
    at : (b : Bool) → (slice_get xs (place_in xs n) ≡ Some y → bytes_eq y n ≡ true → xs
        ≡ with_object n xs) → slice_get (x ∷ xs) (if b then suc (place_in xs n) else 0)
        ≡ Some y → x ∷ xs ≡ (if b then x ∷ with_object n xs else
        (if bytes_eq x n then x ∷ xs else n ∷ x ∷ xs))
    at true ih e = ap (λ zs. x ∷ zs) (ih e same)
    at false ih e = let is : x ≡ y = cc in rw (ap (λ z. bytes_eq z n) is ∙ same) refl

-- at its place stands another name or none, and it is put there
pub put_is : (n : List ℕ) (xs : List (List ℕ))
    → ((y : List ℕ) → slice_get xs (place_in xs n) ≡ Some y → bytes_eq y n ≡ false)
    → insert xs (place_in xs n) n ≡ with_object n xs
put_is n [] other = refl
put_is n (x ∷ xs) other = at (is_below x n) (put_is n xs) other
  where
    at : (b : Bool) → (((y : List ℕ) → slice_get xs (place_in xs n) ≡ Some y → bytes_eq y n ≡ false)
        → insert xs (place_in xs n) n ≡ with_object n xs)
        → ((y : List ℕ) → slice_get (x ∷ xs) (if b then suc (place_in xs n) else 0)
        ≡ Some y → bytes_eq y n ≡ false) → insert (x ∷ xs) (if b then suc (place_in xs n) else 0) n
        ≡ (if b then x ∷ with_object n xs else (if bytes_eq x n then x ∷ xs else n ∷ x ∷ xs))
    at true ih other = ap (λ zs. x ∷ zs) (ih other)
    at false ih other = rw (other x refl) refl

-- what stands before a name and before a list stands before both together
begins_with : (y n : List ℕ) (xs : List (List ℕ)) → is_below y n ≡ true → begins_above y xs ≡ true
    → begins_above y (with_object n xs) ≡ true
begins_with y n [] p q = p
begins_with y n (x ∷ xs) p q = at (is_below x n) (bytes_eq x n)
  where
    at : (b e : Bool) → begins_above y (if b then x ∷ with_object n xs else
        (if e then x ∷ xs else n ∷ x ∷ xs)) ≡ true
    at true e = q
    at false true = q
    at false false = p

pub rising_with : (n : List ℕ) (xs : List (List ℕ)) → are_rising xs ≡ true
    → are_rising (with_object n xs) ≡ true
rising_with n [] q = refl
rising_with n (x ∷ xs) q =
    at (is_below x n) refl (bytes_eq x n) refl (rising_with n xs (second_true _ _ q))
  where
    at : (b : Bool) → is_below x n ≡ b → (e : Bool) → bytes_eq x n ≡ e
        → are_rising (with_object n xs) ≡ true → are_rising
        (if b then x ∷ with_object n xs else (if e then x ∷ xs else n ∷ x ∷ xs)) ≡ true
    at true is e same ih = both_true _ _ (begins_with x n xs is (first_true _ _ q)) ih
    at false is true same ih = q
    at false is false same ih = both_true _ _ (else_above x n is same) q

pub bytes_same : (a b : List ℕ) → bytes_eq a b ≡ true → a ≡ b
bytes_same a b h = (bytes_eq-Decides a b).0 h

pub bytes_refl : (a : List ℕ) → bytes_eq a a ≡ true
bytes_refl a = (bytes_eq-Decides a a).1 refl

either_turned : (a b c : Bool) → a || (b || c) ≡ b || (a || c)
either_turned true true c = refl
either_turned true false c = refl
either_turned false b c = refl

doubled : (a c : Bool) → a || c ≡ a || (a || c)
doubled true c = refl
doubled false c = refl

pub stands_with : (n m : List ℕ) (xs : List (List ℕ)) → stands_in m (with_object n xs)
    ≡ bytes_eq n m || stands_in m xs
stands_with n m [] = refl
stands_with n m (x ∷ xs) = at (is_below x n) (bytes_eq x n) refl (stands_with n m xs)
  where
    at : (b e : Bool) → bytes_eq x n ≡ e → stands_in m (with_object n xs) ≡ bytes_eq n m
        || stands_in m xs → stands_in m (if b then x ∷ with_object n xs else
        (if e then x ∷ xs else n ∷ x ∷ xs)) ≡ bytes_eq n m || (bytes_eq x m || stands_in m xs)
    at true e same ih = ap (λ c. bytes_eq x m || c) ih
        ∙ either_turned (bytes_eq x m) (bytes_eq n m) (stands_in m xs)
    at false true same ih = doubled (bytes_eq x m) (stands_in m xs)
        ∙ ap (λ z. bytes_eq z m || (bytes_eq x m || stands_in m xs)) (bytes_same x n same)
    at false false same ih = refl

-- what stands at the place of a name is the name
pub there_by : (n : List ℕ) (xs : List (List ℕ)) (b : Bool) → b
    ≡ is_same n (slice_get xs (place_in xs n)) → b ≡ true → xs ≡ with_object n xs
there_by n xs b is so = at (slice_get xs (place_in xs n)) refl (sym is ∙ so)
  where
    at : (x : Option (List ℕ)) → slice_get xs (place_in xs n) ≡ x → is_same n x ≡ true → xs
        ≡ with_object n xs
    at None e same = absurd (let clash : false ≡ true = same in cc)
    at (Some y) e same = there_is n xs y e same

-- or it is not
pub put_by : (n : List ℕ) (xs : List (List ℕ)) (b : Bool) → b
    ≡ is_same n (slice_get xs (place_in xs n)) → b ≡ false → insert xs (place_in xs n) n
    ≡ with_object n xs
put_by n xs b is no_one = put_is n xs (λ y e. sym (ap (is_same n) e) ∙ sym is ∙ no_one)
