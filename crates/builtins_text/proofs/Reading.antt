-- How forms are read.
use Rattle.std.proofs.Common.{◌≡◌, ℕ, zero, suc, ◌+◌, ◌<◌, true, List, length, drop, get_or, refl, ap, subst, ◌∙◌, arith}
use Rattle.std.specs.Str.{IsUtf8, IsCharBoundary}
use Rattle.std.proofs.lemmas.List.{drop-drop}
use Rattle.std.proofs.lemmas.List.Sums.{prefix_len-le-length, prefix_len_passes}
use Rattle.std.proofs.lemmas.Str.{IsCharBoundary-after_ascii, IsCharBoundary-start}
use Rattle.std.proofs.lemmas.Bool.Decides.{nat_tests}
use Rattle.base.specs.Ascii.{is_digit}
use Rattle.builtins_text.specs.Formats.{behind_flag, digit_count, flag_length, flag_of, form_length}

-- what is behind a flag, digits and a letter is what is behind the form
pub form_rest : (text r1 r2 r3 : List ℕ) → r1 ≡ behind_flag text → r2 ≡ drop (digit_count r1) r1
    → r3 ≡ drop 1 r2 → r3 ≡ drop (form_length text) text
form_rest text r1 r2 r3 e1 e2 e3 =
    let f : ℕ = flag_length (flag_of text) in
    let d : ℕ = digit_count (behind_flag text) in
    e3 ∙ ap (drop 1) e2 ∙ ap (λ r. drop 1 (drop (digit_count r) r)) e1
    ∙ ap (drop 1) (drop-drop d f text) ∙ drop-drop 1 (f + d) text

ascii_digit : (c : ℕ) → is_digit c ≡ true → c < 128
ascii_digit c h = grind (arith, nat_tests, h)

seam_at : (bs : List ℕ) (n : ℕ) → n ≡ digit_count bs → IsUtf8 bs → IsCharBoundary bs n
seam_at bs zero e u = IsCharBoundary-start bs u
seam_at bs (suc k) e u =
    let below : k < digit_count bs = omega (arith, e) in
    let within : k < length bs = omega (arith, below, prefix_len-le-length is_digit bs) in
    let next : k + 1 ≡ suc k = omega arith in
    subst (IsCharBoundary bs) next (IsCharBoundary-after_ascii bs k u within
    (ascii_digit (get_or bs k 0) (prefix_len_passes is_digit bs k 0 below)))

-- a text may be cut behind its first digits
pub digits_seam : (bs : List ℕ) → IsUtf8 bs → IsCharBoundary bs (digit_count bs)
digits_seam bs u = seam_at bs (digit_count bs) refl u
