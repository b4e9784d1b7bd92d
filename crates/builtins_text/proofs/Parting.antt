-- A text that is parted at a byte.
use Rattle.std.proofs.Common.{◌≡◌, ℕ, ◌<◌, ◌≤◌, ◌==◌, Bool, true, false, List, [], ◌∷◌, length, get_or, Option, Some, None, Bor, Err, refl, sym, ap, ◌∙◌, arith}
use Rattle.std.specs.Prelude.{MatchOption, ◌≢◌}
use Rattle.std.specs.List.{list_all, slice_split}
use Rattle.std.proofs.lemmas.Bool.{eq-eqb, eqb-true}
use Rattle.std.proofs.lemmas.List.Splits.{length-slice_split, slice_split_at, slice_split_none}
use Rattle.std.proofs.lemmas.List.Elements.{All-from_get_or}
use Rattle.std.proofs.lemmas.Str.Pattern.{IsSplitOnceResult, split_parts}
use Rattle.base.specs.Ascii.{is_digit}
use Rattle.base.specs.Characters.{dot, slash}
use Rattle.path_tree.specs.declared.refused.Refused.TheVariants.{BadArgument}
use Rattle.builtins_text.specs.Addresses.{address_of, address_parts, is_decimal, octets_joined}
use Rattle.builtins_text.specs.Formats.{begins}

pub differs : (a b : ℕ) → a ≢ b → (a == b) ≡ false
differs a b h = by (a == b) refl where
  by : (t : Bool) → (a == b) ≡ t → t ≡ false
  by true e = absurd (h (eqb-true a b e))
  by false e = refl

pub same : (a : ℕ) → (a == a) ≡ true
same a = eq-eqb a a refl

-- what `split_once` gives are the first part and the others
pub parted : (c : ℕ) (bs : List ℕ) (r : Option (Bor (List ℕ) × Bor (List ℕ)))
    → IsSplitOnceResult c bs r → c < 128 →
    MatchOption r (slice_split (λ b. b == c) bs ≡ bs ∷ [])
    (λ x. slice_split (λ b. b == c) bs ≡ x.0.now ∷ slice_split (λ b. b == c) x.1.now)
parted c bs None h small =
    slice_split_none (λ b. b == c) bs (All-from_get_or (λ b. (b == c) ≡ false) bs 0
    (λ i lt. differs _ _ (split_parts c bs None h small i lt)))
parted c bs (Some x) h small =
    let parts = split_parts c bs (Some x) h small in
    ap (slice_split (λ b. b == c)) parts.0
    ∙ slice_split_at (λ b. b == c) x.0.now c x.1.now
    (All-from_get_or (λ b. (b == c) ≡ false) x.0.now 0 (λ i lt. differs _ _ (parts.1 i lt)))
    (same c)

-- what `strip_prefix` gives is what stands behind a first byte
pub stripped : (c : ℕ) (bs : List ℕ) (r : Option (Bor (List ℕ)))
    → MatchOption r ((rest : List ℕ) → bs ≢ c ∷ rest) (λ x. bs ≡ c ∷ x.now) →
    MatchOption r (begins c bs ≡ false) (λ x. (begins c bs ≡ true) × (bs ≡ c ∷ x.now))
stripped c [] None h = refl
stripped c (b ∷ bs) None h = differs b c (λ e. h bs (ap (λ x. x ∷ bs) e))
stripped c bs (Some x) h = (ap (begins c) h ∙ same c, h)

beyond : (a b c d : List ℕ) (ps : List (List ℕ)) → 0 < length ps
    → octets_joined (a ∷ b ∷ c ∷ d ∷ ps) ≡ None
beyond a b c d [] h = absurd (omega (arith, h))
beyond a b c d (p ∷ ps) h = refl

abbrev at_dots : List ℕ → List (List ℕ)
at_dots text = slice_split (λ c. c == dot) text

-- five parts are no address
pub five_parts : (text a r b s c t d u : List ℕ) → at_dots text ≡ a ∷ at_dots r → at_dots r
    ≡ b ∷ at_dots s → at_dots s ≡ c ∷ at_dots t → at_dots t ≡ d ∷ at_dots u →
    None ≡ address_of text
five_parts text a r b s c t d u e1 e2 e3 e4 =
    let some : 0 < length (at_dots u) = omega (arith, length-slice_split (λ c. c == dot) u) in
    sym (ap octets_joined (e1 ∙ ap (λ ps. a ∷ ps)
    (e2 ∙ ap (λ ps. b ∷ ps) (e3 ∙ ap (λ ps. c ∷ ps) e4))) ∙ beyond a b c d (at_dots u) some)

abbrev at_slashes : List ℕ → List (List ℕ)
at_slashes text = slice_split (λ c. c == slash) text

beyond_two : (a b : List ℕ) (ps : List (List ℕ)) → 0 < length ps → address_parts (a ∷ b ∷ ps)
    ≡ Err BadArgument
beyond_two a b [] h = absurd (omega (arith, h))
beyond_two a b (p ∷ ps) h = refl

-- three parts are no address and mask
pub three_parts : (text a r b s : List ℕ) → at_slashes text ≡ a ∷ at_slashes r → at_slashes r
    ≡ b ∷ at_slashes s →
    address_parts (at_slashes text) ≡ Err BadArgument
three_parts text a r b s e1 e2 =
    let some : 0 < length (at_slashes s) = omega (arith, length-slice_split (λ c. c == slash) s) in
    ap address_parts (e1 ∙ ap (λ ps. a ∷ ps) e2) ∙ beyond_two a b (at_slashes s) some

-- two or more digits without a leading zero
pub long_decimal : (ds : List ℕ) → 2 ≤ length ds → get_or ds 0 0 ≢ 48 → list_all is_digit ds
    ≡ is_decimal ds
long_decimal [] h ne = absurd (omega (arith, h))
long_decimal (c ∷ []) h ne = absurd (omega (arith, h))
long_decimal (c ∷ d ∷ ds) h ne = let other : (c == 48) ≡ false = differs c 48 ne in rw other refl
