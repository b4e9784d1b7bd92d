-- The first characters of a text end where a character does.
use Rattle.std.proofs.Common.{◌≡◌, ℕ, zero, suc, ◌+◌, Bool, true, false, cond, List, [], ◌∷◌, refl, arith}
use Rattle.std.specs.Str.{IsCharBoundary}
use Rattle.pan_ast.specs.Detail.{is_continuation, chars_len}

next_boundary : (b : ℕ) (bs : List ℕ) (k : ℕ) → IsCharBoundary bs k
    → IsCharBoundary (b ∷ bs) (1 + k)
next_boundary b bs k h = (omega (arith, h.0), grind (arith, h.1))

start_boundary : (b : ℕ) (bs : List ℕ) → is_continuation b ≡ false → IsCharBoundary (b ∷ bs) 0
start_boundary b bs h = (omega arith, grind arith)

pub chars_boundary : (n : ℕ) (bs : List ℕ) → IsCharBoundary bs (chars_len n bs)
chars_boundary n [] = (omega arith, λ h g. absurd (omega (arith, h)))
chars_boundary zero (b ∷ bs) = by (is_continuation b) refl (chars_boundary zero bs) where
  by : (t : Bool) → is_continuation b ≡ t → IsCharBoundary bs (chars_len zero bs)
      → IsCharBoundary (b ∷ bs) (cond t (1 + chars_len zero bs) 0)
  by true e h = next_boundary b bs (chars_len zero bs) h
  by false e h = start_boundary b bs e
chars_boundary (suc n) (b ∷ bs) =
    by (is_continuation b) (chars_boundary (suc n) bs) (chars_boundary n bs) where
      by : (t : Bool) → IsCharBoundary bs (chars_len (suc n) bs) → IsCharBoundary bs (chars_len n bs)
          → IsCharBoundary (b ∷ bs) (cond t (1 + chars_len (suc n) bs) (1 + chars_len n bs))
      by true h g = next_boundary b bs (chars_len (suc n) bs) h
      by false h g = next_boundary b bs (chars_len n bs) g
