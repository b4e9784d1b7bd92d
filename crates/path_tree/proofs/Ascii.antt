-- Keys and template names are ASCII.
use Rattle.std.proofs.Common.{◌≡◌, ℕ, zero, suc, ◌<◌, Bool, true, false, cond, List, [], ◌∷◌, length, nat_le, ◌==◌, ◌&&◌, ◌||◌, refl, lit<, arith}
use Rattle.std.specs.List.{list_all, onto_first, slice_split}
use Rattle.std.proofs.lemmas.Bool.Decides.{nat_tests}
use Rattle.std.specs.Str.{IsAscii}
use Rattle.base.specs.Ascii.{is_letter}
use Rattle.base.specs.Characters.{slash, underscore}
use Rattle.base.specs.declared.limits.TheConstants.{MAX_NAME_BYTES}
use Rattle.path_tree.specs.Grammar.{is_key_byte, is_key, is_segment, is_name}

pub first : (p q : Bool) → (p && q) ≡ true → p ≡ true
first true q h = refl
first false q h = cc

pub second : (p q : Bool) → (p && q) ≡ true → q ≡ true
second true q h = h
second false q h = cc

small : (c : ℕ) → is_key_byte c ≡ true → c < 128
small c h = grind (arith, nat_tests)

pub bytes_ascii : (cs : List ℕ) → list_all is_key_byte cs ≡ true → IsAscii cs
bytes_ascii [] h i = lit< tt
bytes_ascii (c ∷ cs) h zero = small c (first _ _ h)
bytes_ascii (c ∷ cs) h (suc i) = bytes_ascii cs (second _ _ h) i

letter_small : (c : ℕ) → (is_letter c || (c == underscore)) ≡ true → c < 128
letter_small c h = grind (arith, nat_tests)

pub key_ascii : (cs : List ℕ) → is_key cs ≡ true → IsAscii cs
key_ascii [] h i = lit< tt
key_ascii (c ∷ cs) h zero = letter_small c (first _ _ (first _ _ h))
key_ascii (c ∷ cs) h (suc i) = bytes_ascii cs (second _ _ (first _ _ h)) i

-- each piece has key bytes alone
abbrev are_keyed : List (List ℕ) → Bool
are_keyed ps = list_all (list_all is_key_byte) ps

both : (p q : Bool) → p ≡ true → q ≡ true → (p && q) ≡ true
both true true g h = refl
both true false g h = h
both false q g h = g

keyed : (ps : List (List ℕ)) → list_all is_segment ps ≡ true → are_keyed ps ≡ true
keyed [] h = refl
keyed (p ∷ ps) h = both _ _ (second _ _ (first _ _ (first _ _ h))) (keyed ps (second _ _ h))

onto : (c : ℕ) (ps : List (List ℕ)) → are_keyed (onto_first c ps) ≡ true → (is_key_byte c ≡ true)
    × (are_keyed ps ≡ true)
onto c [] h = (first (is_key_byte c) true (first (is_key_byte c && true) true h), refl)
onto c (p ∷ ps) h =
    let here : (is_key_byte c && list_all is_key_byte p) ≡ true =
    first (is_key_byte c && list_all is_key_byte p) (are_keyed ps) h in
    let rest : are_keyed ps ≡ true =
    second (is_key_byte c && list_all is_key_byte p) (are_keyed ps) h in (
      first (is_key_byte c) (list_all is_key_byte p) here,
      both (list_all is_key_byte p)
          (are_keyed ps) (second (is_key_byte c) (list_all is_key_byte p) here) rest,
    )

step : (c : ℕ) (t : Bool) (ps : List (List ℕ)) → (c == slash) ≡ t
    → are_keyed (cond t ([] ∷ ps) (onto_first c ps)) ≡ true → (c < 128) × (are_keyed ps ≡ true)
step c true ps is h = (grind (arith, nat_tests), h)
step c false ps is h = let o = onto c ps h in (small c o.0, o.1)

split_ascii : (cs : List ℕ) → are_keyed (slice_split (λ c. c == slash) cs) ≡ true → IsAscii cs
split_ascii [] h i = lit< tt
split_ascii (c ∷ cs) h zero = (step c _ (slice_split (λ d. d == slash) cs) refl h).0
split_ascii (c ∷ cs) h (suc i) =
    split_ascii cs (step c _ (slice_split (λ d. d == slash) cs) refl h).1 i

pub name_ascii : (cs : List ℕ) → is_name cs ≡ true → IsAscii cs
name_ascii cs h = split_ascii cs (keyed (slice_split (λ c. c == slash) cs)
    (second (nat_le (length cs) MAX_NAME_BYTES) (list_all is_segment
    (slice_split (λ c. c == slash) cs)) h))
