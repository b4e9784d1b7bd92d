-- A number that was counted up to 2^64 - 1 is past 64 bits where the number is.
use Rattle.std.proofs.Common.{◌≡◌, ℕ, List, ◌∷◌, zero, suc, ◌-◌, ◌^◌, ◌<◌, ◌≤◌, pos, min, Option, Some, None, Ok, Err, refl, sym, ap, ◌∙◌, inl, inr, arith}
use Rattle.std.specs.Prelude.{◌≢◌, neg_ℤ, option_map, nat_lt}
use Rattle.std.proofs.lemmas.Bool.{cases_lt, cond-false, le-ltb}
use Rattle.base.specs.Answers.{given}
use Rattle.base.specs.Integers.{integer_of, saturated}
use Rattle.path_tree.specs.Values.{within_64_bits}
use Rattle.path_tree.specs.Plain.{long}
use Rattle.path_tree.specs.declared.refused.Refused.TheVariants.{BadArgument, Overflow}
use Rattle.builtins_text.specs.Numbers.{signed_of}
use Rattle.builtins_text.proofs.Parting.{differs}
use Rattle.builtins_text.specs.Saturated.{above, below}

above_past : (n : ℕ) → 2 ^ 63 ≤ n → within_64_bits (pos n) ≡ Err Overflow
above_past n h = cond-false (nat_lt n (2 ^ 63)) (Ok (long (pos n))) (Err Overflow)
    (le-ltb n (2 ^ 63) h)

below_past : (n : ℕ) → 2 ^ 63 < n → within_64_bits (neg_ℤ (pos n)) ≡ Err Overflow
below_past zero h = absurd (omega (arith, h))
below_past (suc n) h =
    let past : 2 ^ 63 ≤ n = omega (arith, h) in
    cond-false (nat_lt n (2 ^ 63)) (Ok (long (neg_ℤ (pos (suc n))))) (Err Overflow)
    (le-ltb n (2 ^ 63) past)

pub above_is : (o : Option ℕ) → above (option_map saturated o)
    ≡ given BadArgument (option_map pos o) within_64_bits
above_is None = refl
above_is (Some n) = elim (cases_lt n (2 ^ 63)) [
  | inl lt ↦ (let same : min n (2 ^ 64 - 1) ≡ n = omega (arith, lt) in
      ap (λ k. within_64_bits (pos k)) same)
  | inr ge ↦ (let past : 2 ^ 63 ≤ min n (2 ^ 64 - 1) = omega (arith, ge) in
      above_past (min n (2 ^ 64 - 1)) past ∙ sym (above_past n ge))
]

pub below_is : (o : Option ℕ) → below (option_map saturated o)
    ≡ given BadArgument (option_map (λ n. neg_ℤ (pos n)) o) within_64_bits
below_is None = refl
below_is (Some n) = elim (cases_lt (2 ^ 63) n) [
  | inl lt ↦ (let past : 2 ^ 63 < min n (2 ^ 64 - 1) = omega (arith, lt) in
      below_past (min n (2 ^ 64 - 1)) past ∙ sym (below_past n lt))
  | inr ge ↦ (let same : min n (2 ^ 64 - 1) ≡ n = omega (arith, ge) in
      ap (λ k. within_64_bits (neg_ℤ (pos k))) same)
]

-- the number behind a sign, and without one
pub minus_is : (text cs : List ℕ) (c : ℕ) (number : Option ℕ) → text ≡ c ∷ cs → c ≡ 45 → number
    ≡ option_map saturated (integer_of cs) → below number
    ≡ given BadArgument (signed_of text) within_64_bits
minus_is text cs c number is_text is_sign is_number =
    ap below is_number ∙ below_is (integer_of cs)
    ∙ ap (λ t. given BadArgument (signed_of t) within_64_bits)
    (sym (is_text ∙ ap (λ d. d ∷ cs) is_sign))

pub plus_is : (text cs : List ℕ) (c : ℕ) (number : Option ℕ) → text ≡ c ∷ cs → c ≡ 43 → number
    ≡ option_map saturated (integer_of cs) → above number
    ≡ given BadArgument (signed_of text) within_64_bits
plus_is text cs c number is_text is_sign is_number =
    ap above is_number ∙ above_is (integer_of cs)
    ∙ ap (λ t. given BadArgument (signed_of t) within_64_bits)
    (sym (is_text ∙ ap (λ d. d ∷ cs) is_sign))

pub unsigned_is : (text cs : List ℕ) (c : ℕ) (number : Option ℕ) → text ≡ c ∷ cs → c ≢ 45 → c ≢ 43
    → number ≡ option_map saturated (integer_of text) → above number
    ≡ given BadArgument (signed_of text) within_64_bits
unsigned_is text cs c number is_text no_minus no_plus is_number =
    ap above (is_number ∙ ap (λ t. option_map saturated (integer_of t)) is_text)
    ∙ above_is (integer_of (c ∷ cs))
    ∙ sym (ap (λ t. given BadArgument (signed_of t) within_64_bits) is_text
    ∙ ap (λ o. given BadArgument o within_64_bits) (spelled c cs no_minus no_plus))
  where
    spelled : (c : ℕ) (cs : List ℕ) → c ≢ 45 → c ≢ 43 → signed_of (c ∷ cs)
        ≡ option_map pos (integer_of (c ∷ cs))
    spelled c cs no_minus no_plus = rw (differs c 45 no_minus, differs c 43 no_plus) refl
