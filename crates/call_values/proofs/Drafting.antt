-- A text that grows piece by piece, and is dropped once it is too long.
use Rattle.std.proofs.Common.{◌≡◌, ℕ, ◌+◌, ◌<◌, ◌≤◌, Bool, true, false, cond, List, ◌++◌, length, Some, None, refl, sym, ap, ◌∙◌, arith}
use Rattle.std.specs.Prelude.{nat_lt, replicate}
use Rattle.std.proofs.lemmas.Bool.{cond-false, cond-true, le-ltb, lt-ltb, ltb-true}
use Rattle.std.proofs.lemmas.List.{length-append, length-replicate}
use Rattle.call_values.specs.Drafts.{drafted}
use Rattle.base.specs.declared.limits.TheConstants.{MAX_TEXT_BYTES}

is_long : (w : List ℕ) → drafted w ≡ None → MAX_TEXT_BYTES < length w
is_long w h = by (nat_lt MAX_TEXT_BYTES (length w)) refl h where
  by : (b : Bool) → nat_lt MAX_TEXT_BYTES (length w) ≡ b → cond b None (Some w) ≡ None
      → MAX_TEXT_BYTES < length w
  by true e h = ltb-true MAX_TEXT_BYTES (length w) e
  by false e h = absurd cc

is_kept : (w x : List ℕ) → drafted w ≡ Some x → x ≡ w
is_kept w x h = by (nat_lt MAX_TEXT_BYTES (length w)) h where
  by : (b : Bool) → cond b None (Some w) ≡ Some x → x ≡ w
  by true h = absurd cc
  by false h = cc

too_long : (w : List ℕ) → MAX_TEXT_BYTES < length w → None ≡ drafted w
too_long w h = sym (cond-true (nat_lt MAX_TEXT_BYTES (length w)) None (Some w)
    (lt-ltb MAX_TEXT_BYTES (length w) h))

-- once too long, always too long
pub kept_over : (w more : List ℕ) → None ≡ drafted w → None ≡ drafted (w ++ more)
kept_over w more h =
    let long : MAX_TEXT_BYTES < length (w ++ more) =
    omega (arith, is_long w (sym h), length-append w more) in
    too_long (w ++ more) long

-- a piece makes it too long
pub passes_over : (w x more : List ℕ) → Some x ≡ drafted w → MAX_TEXT_BYTES < length x + length more
    → None ≡ drafted (w ++ more)
passes_over w x more h long =
    let same : length x ≡ length w = ap length (is_kept w x (sym h)) in
    let past : MAX_TEXT_BYTES < length (w ++ more) =
    omega (arith, same, long, length-append w more) in
    too_long (w ++ more) past

pub grows : (w x more : List ℕ) → Some x ≡ drafted w → length x + length more ≤ MAX_TEXT_BYTES
    → Some (x ++ more) ≡ drafted (w ++ more)
grows w x more h short =
    let same : x ≡ w = is_kept w x (sym h) in
    let fits : length (w ++ more) ≤ MAX_TEXT_BYTES =
    omega (arith, ap length same, short, length-append w more) in
    ap (λ y. Some (y ++ more)) same
    ∙ sym (cond-false (nat_lt MAX_TEXT_BYTES (length (w ++ more))) None (Some (w ++ more))
    (le-ltb MAX_TEXT_BYTES (length (w ++ more)) fits))

-- a character so many times makes it too long
pub passes_over_times : (w x : List ℕ) (n c : ℕ) → Some x ≡ drafted w
    → MAX_TEXT_BYTES < length x + n → None ≡ drafted (w ++ replicate n c)
passes_over_times w x n c h long =
    let past : MAX_TEXT_BYTES < length x + length (replicate n c) =
    omega (arith, long, length-replicate n c) in
    passes_over w x (replicate n c) h past

pub grows_times : (w x : List ℕ) (n c : ℕ) → Some x ≡ drafted w → length x + n ≤ MAX_TEXT_BYTES
    → Some (x ++ replicate n c) ≡ drafted (w ++ replicate n c)
grows_times w x n c h short =
    let fits : length x + length (replicate n c) ≤ MAX_TEXT_BYTES =
    omega (arith, short, length-replicate n c) in
    grows w x (replicate n c) h fits
