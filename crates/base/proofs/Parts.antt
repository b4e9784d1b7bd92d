-- The parts of a part.
use Rattle.std.proofs.Common.{◌≡◌, ◌≤◌, ◌+◌, ◌-◌, ℕ, List, length, take, drop, sym, ap, ◌∙◌, arith}
use Rattle.std.proofs.lemmas.List.{length-drop, length-take-le, drop-take, take-take, drop-drop}
use Rattle.base.specs.Parts.{bytes_from_to}

pub part_length : (s e : ℕ) (bytes : List ℕ) → s ≤ e → e ≤ length bytes
    → length (bytes_from_to s e bytes) ≡ e - s
part_length s e bytes le within =
    length-take-le (e - s) (drop s bytes) (omega (arith, length-drop s bytes))

pub part_of_part : (s e i j : ℕ) (bytes : List ℕ) → i ≤ j → s + j ≤ e
    → bytes_from_to (s + i) (s + j) bytes ≡ bytes_from_to i j (bytes_from_to s e bytes)
part_of_part s e i j bytes le within =
    let left : s + j - (s + i) ≡ j - i = omega arith in
    let whole : e - s ≡ i + (e - s - i) = omega arith in
    let below : drop i (take (e - s) (drop s bytes)) ≡ take (e - s - i) (drop (s + i) bytes) =
    ap (λ n. drop i (take n (drop s bytes))) whole ∙ drop-take i (e - s - i) (drop s bytes)
    ∙ ap (take (e - s - i)) (drop-drop i s bytes) in
    ap (λ n. take n (drop (s + i) bytes)) left ∙ sym
    (ap (take (j - i)) below ∙ take-take (j - i) (e - s - i) (drop (s + i) bytes) (omega arith))

pub within_part : (s e n : ℕ) (bytes : List ℕ) → s ≤ e → e ≤ length bytes
    → n ≤ length (bytes_from_to s e bytes) → s + n ≤ e
within_part s e n bytes le within h = omega (arith, part_length s e bytes le within)
