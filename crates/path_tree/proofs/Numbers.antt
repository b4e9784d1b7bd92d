-- Numbers of a few decimal digits.
use Rattle.std.proofs.Common.{◌≡◌, ℕ, zero, suc, ◌+◌, ◌*◌, ◌<◌, ◌≤◌, Bool, true, false, List, [], ◌∷◌, length, get_or, ◌&&◌, refl, arith, add-one}
use Rattle.std.specs.List.{list_all}
use Rattle.std.proofs.lemmas.Bool.Decides.{nat_tests}
use Rattle.base.specs.Ascii.{is_digit}
use Rattle.path_tree.specs.Grammar.{is_index}

-- more than the number of so many digits
abbrev pub limit : ℕ → ℕ
limit zero = 1
limit (suc n) = 10 * limit n

pub limit_more : (n : ℕ) → limit (n + 1) ≡ 10 * limit n
limit_more n = rw add-one refl

-- where at least one more digit comes, of six
pub limit_small : (n : ℕ) → n < 6 → limit n ≤ 100000
limit_small zero h = omega arith
limit_small (suc zero) h = omega arith
limit_small (suc (suc zero)) h = omega arith
limit_small (suc (suc (suc zero))) h = omega arith
limit_small (suc (suc (suc (suc zero)))) h = omega arith
limit_small (suc (suc (suc (suc (suc zero))))) h = omega arith
limit_small (suc (suc (suc (suc (suc (suc n)))))) h = absurd (omega arith)

pub index_short : (ds : List ℕ) → is_index ds ≡ true → length ds ≤ 6
index_short [] h = omega arith
index_short (c ∷ []) h = omega arith
index_short (c ∷ d ∷ cs) h = grind (arith, nat_tests)

pub index_digits : (ds : List ℕ) → is_index ds ≡ true → list_all is_digit ds ≡ true
index_digits [] h = refl
index_digits (c ∷ []) h = grind (arith, nat_tests)
index_digits (c ∷ d ∷ cs) h = grind (arith, nat_tests)

pub digit_at : (ds : List ℕ) (i d : ℕ) → list_all is_digit ds ≡ true → i < length ds
    → is_digit (get_or ds i d) ≡ true
digit_at [] i d h lt = absurd (omega arith)
digit_at (c ∷ cs) zero d h lt = grind (arith, nat_tests)
digit_at (c ∷ cs) (suc i) d h lt = digit_at cs i d (second _ _ h) (omega arith)
  where
    second : (p q : Bool) → (p && q) ≡ true → q ≡ true
    second true q h = h
    second false q h = cc

pub ruleset number_lemmas =
    (limit_more, limit_small, index_short, index_digits, digit_at, nat_tests)
