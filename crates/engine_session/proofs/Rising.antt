-- Names that rise are sorted.
use Rattle.std.proofs.Common.{◌≡◌, ℕ, List, [], ◌∷◌, ◌&&◌, Bool, true, false, refl}
use Rattle.std.specs.Cmp.Lexicographic.{slice_cmp}
use Rattle.std.specs.List.{AllByRecursion}
use Rattle.std.specs.List.Sorted.{IsStrictlySortedBy}
use Rattle.std.specs.Ordering.{nat_cmp, is_lt}
use Rattle.std.specs.declared.cmp.Ordering.{Ordering}
use Rattle.std.specs.declared.cmp.Ordering.TheVariants.{Less, Equal, Greater}
use Rattle.load_path.specs.Pictures.{is_below}
use Rattle.load_path.proofs.Order.{below_chain}
use Rattle.object_names.specs.Objects.{begins_above, are_rising}

less : (o : Ordering) → is_lt o ≡ true → o ≡ Less
less Less is = refl
less Equal is = cc
less Greater is = cc

first_of : (a b : Bool) → (a && b) ≡ true → a ≡ true
first_of true b e = refl
first_of false b e = absurd (let clash : false ≡ true = e in cc)

second_of : (a b : Bool) → (a && b) ≡ true → b ≡ true
second_of true b e = e
second_of false b e = absurd (let clash : false ≡ true = e in cc)

begins_on : (n x : List ℕ) (xs : List (List ℕ)) → is_below n x ≡ true → begins_above x xs ≡ true
    → begins_above n xs ≡ true
begins_on n x [] p q = refl
begins_on n x (y ∷ ys) p q = below_chain n x y p q

all_above : (n : List ℕ) (ns : List (List ℕ)) → begins_above n ns ≡ true → are_rising ns ≡ true
    → AllByRecursion (λ y. slice_cmp nat_cmp n y ≡ Less) ns
all_above n [] below rising = tt
all_above n (m ∷ ms) below rising = (
  less (slice_cmp nat_cmp n m) below,
  all_above n ms
      (begins_on n m ms below (first_of (begins_above m ms) (are_rising ms) rising))
      (second_of (begins_above m ms) (are_rising ms) rising),
)

pub rising_sorted : (ns : List (List ℕ)) → are_rising ns ≡ true
    → IsStrictlySortedBy (slice_cmp nat_cmp) ns
unfolding IsStrictlySortedBy
rising_sorted [] rising = tt
rising_sorted (n ∷ ns) rising =
    let rest = second_of (begins_above n ns) (are_rising ns) rising in (
      all_above n ns (first_of (begins_above n ns) (are_rising ns) rising) rest,
      rising_sorted ns
          rest,
    )
