-- One step more of the loops that append blanks, pass over lines and look for a byte.
use Rattle.std.proofs.Common.{◌≡◌, ◌+◌, ◌-◌, ◌<◌, ◌==◌, ℕ, zero, suc, List, [], ◌∷◌, ◌++◌, refl, ap, add-one, arith}
use Rattle.std.specs.List.{after_first, repeat}
use Rattle.fault_notes.specs.Excerpts.{behind_lines}

blanks_suc : (n : ℕ) → repeat {A = ℕ} (suc n) (32 ∷ []) ≡ repeat {A = ℕ} n (32 ∷ []) ++ (32 ∷ [])
blanks_suc zero = refl
blanks_suc (suc n) = ap (λ (xs : List ℕ). 32 ∷ xs) (blanks_suc n)

pub blank_more : (n : ℕ) → repeat {A = ℕ} (n + 1) (32 ∷ []) ≡ repeat {A = ℕ} n (32 ∷ [])
    ++ (32 ∷ [])
blank_more n = rw (add-one n) (blanks_suc n)

pub line_on : (count i : ℕ) (text : List ℕ) → i < count
    → behind_lines (count - (i + 1)) (after_first (λ c. c == 10) text)
    ≡ behind_lines (count - i) text
line_on count i text lt =
    let e : count - i ≡ suc (count - (i + 1)) = omega arith in
    rw e refl
