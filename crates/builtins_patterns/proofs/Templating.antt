-- How the text of a template is read.
use Rattle.std.proofs.Common.{◌≡◌, ℕ, zero, suc, ◌+◌, ◌-◌, ◌<◌, ◌≤◌, ◌==◌, Bool, true, false, cond, not, List, [], ◌∷◌, ◌++◌, length, take, drop, Option, None, Some, IsUtf8, slice_index, Bor, IsCharBoundary, append_assoc, append-nil, MatchOption, get_or, refl, sym, ap, ap₂, ◌∙◌, arith, eqb-true, drop-drop, subst}
use Rattle.std.proofs.lemmas.Bool.{le-ltb, lt-ltb}
use Rattle.std.proofs.lemmas.Bool.Decides.{nat_tests}
use Rattle.std.proofs.lemmas.List.Sums.{prefix_len-le-length, prefix_len_stops}
use Rattle.std.proofs.lemmas.Str.{IsCharBoundary-after_ascii, IsCharBoundary-before_ascii, IsUtf8-drop, IsUtf8-take, is_utf8-from_IsUtf8}
use Rattle.regex.proofs.TemplateLemmas.{name_is_ascii}
use Rattle.std.specs.List.{after_first, before_first, position_or_len, prefix_len}
use Rattle.std.proofs.lemmas.Grind.{flat_map-append}
use Rattle.builtins_patterns.specs.Parts.{part_text, written}
use Rattle.builtins_patterns.specs.declared.template.Part.{Part}
use Rattle.builtins_patterns.specs.declared.template.Part.TheVariants.{Text}
use Rattle.regex.specs.Templates.{group_called, is_name_byte, name_at, text_or_nothing, written_after}

module _ (names : List (Option (List ℕ))) (groups : ℕ → List ℕ) where
  skips : (t : List ℕ) (n : ℕ) → written_after names groups t n
      ≡ written_after names groups (drop n t) 0
  unfolding written_after
  skips t zero = refl
  skips [] (suc n) = refl
  skips (b ∷ t) (suc n) = skips t n

  plain : (b : ℕ) (t : List ℕ) → (b == 36) ≡ false → written_after names groups (b ∷ t) 0
      ≡ b ∷ written_after names groups t 0
  unfolding written_after
  plain b t other = rw other refl

  no_sign_by : (test : Bool) (b : ℕ) (t : List ℕ) → (b == 36) ≡ test
      → cond (not test) (1 + position_or_len (λ x. x == 36) t) 0 ≡ length (b ∷ t) →
      (position_or_len (λ x. x == 36) t ≡ length t → written_after names groups t 0 ≡ t)
      → written_after names groups (b ∷ t) 0 ≡ b ∷ t
  no_sign_by true b t e g ih = absurd (omega (arith, g))
  no_sign_by false b t e g ih =
      let rest : position_or_len (λ x. x == 36) t ≡ length t = omega (arith, g) in
      plain b t e ∙ ap (λ x. b ∷ x) (ih rest)

  -- a text without a dollar sign stands for itself
  pub without_sign : (t : List ℕ) → position_or_len (λ b. b == 36) t ≡ length t
      → written_after names groups t 0 ≡ t
  unfolding written_after
  without_sign [] h = refl
  without_sign (b ∷ t) h = no_sign_by (b == 36) b t refl h (without_sign t)

  sign_by : (test : Bool) (b : ℕ) (t : List ℕ) → (b == 36) ≡ test
      → cond (not test) (1 + position_or_len (λ x. x == 36) t) 0 < length (b ∷ t) →
      (position_or_len (λ x. x == 36) t < length t → before_first (λ x. x == 36) t
      ++ written_after names groups (36 ∷ after_first (λ x. x == 36) t) 0
      ≡ written_after names groups t 0) →
      take (cond (not test) (1 + position_or_len (λ x. x == 36) t) 0) (b ∷ t)
      ++ written_after names groups
      (36 ∷ drop (cond (not test) (1 + position_or_len (λ x. x == 36) t) 0 + 1) (b ∷ t)) 0
      ≡ written_after names groups (b ∷ t) 0
  sign_by true b t e g ih = ap (λ x. written_after names groups (x ∷ t) 0) (sym (eqb-true b 36 e))
  sign_by false b t e g ih =
      let place = position_or_len (λ x. x == 36) t in
      let below : place < length t = omega (arith, g) in
      let one : 1 + place ≡ suc place = omega arith in
      let next : 1 + place + 1 ≡ suc (place + 1) = omega arith in
      ap₂ (λ n m. take n (b ∷ t) ++ written_after names groups (36 ∷ drop m (b ∷ t)) 0) one next
      ∙ ap (λ x. b ∷ x) (ih below) ∙ sym (plain b t e)

  -- what is in front of the first dollar sign stands for itself
  pub up_to_sign : (t : List ℕ) → position_or_len (λ b. b == 36) t < length t →
      before_first (λ b. b == 36) t ++ written_after names groups
      (36 ∷ after_first (λ b. b == 36) t) 0 ≡ written_after names groups t 0
  up_to_sign [] h = absurd (omega (arith, h))
  up_to_sign (b ∷ t) h = sign_by (b == 36) b t refl h (up_to_sign t)

  -- two dollar signs write one
  pub two_signs : (after left : List ℕ) → (slice_index after 0 == 36) ≡ true → left ≡ drop 1 after →
      36 ∷ written_after names groups left 0 ≡ written_after names groups (36 ∷ after) 0
  unfolding written_after
  two_signs after left again is =
      rw again (ap (λ x. 36 ∷ x) (ap (λ t. written_after names groups t 0) is
      ∙ sym (skips after 1)))

  -- a dollar sign that names nothing stands for itself
  pub lone_sign : (after : List ℕ) → (slice_index after 0 == 36) ≡ false → name_at after ≡ None →
      36 ∷ written_after names groups after 0 ≡ written_after names groups (36 ∷ after) 0
  unfolding written_after
  lone_sign after other none = rw (other, none) refl

  -- one with a name behind it writes what the group matched
  pub named_group : (after name left : List ℕ) (n : ℕ) → (slice_index after 0 == 36) ≡ false
      → name_at after ≡ Some (name, n) → left ≡ drop n after →
      text_or_nothing names groups (group_called names name) ++ written_after names groups left 0
      ≡ written_after names groups (36 ∷ after) 0
  unfolding written_after
  named_group after name left n other found is =
      rw (other, found) (ap (λ x. text_or_nothing names groups (group_called names name) ++ x)
      (ap (λ t. written_after names groups t 0) is ∙ sym (skips after n)))

begins : (t : List ℕ) (b : ℕ) → (slice_index t 0 == b) ≡ true → 0 < b → 0 < length t
begins [] b h some = absurd (let same : 0 ≡ b = eqb-true 0 b h in omega (arith, same, some))
begins (x ∷ t) b h some = omega arith

-- behind a first byte that is ASCII a text goes on
pub behind_boundary : (t : List ℕ) (b : ℕ) → IsUtf8 t → (slice_index t 0 == b) ≡ true → 0 < b
    → b < 128 → IsCharBoundary t 1
behind_boundary t b u h some ascii =
    let same : get_or t 0 0 ≡ b = eqb-true (get_or t 0 0) b h in
    IsCharBoundary-after_ascii t 0 u (begins t b h some) (omega (arith, same, ascii))

pub behind_utf8 : (t rest : List ℕ) (b : ℕ) → IsUtf8 t → (slice_index t 0 == b) ≡ true → 0 < b
    → b < 128 → rest ≡ drop 1 t → IsUtf8 rest
behind_utf8 t rest b u h some ascii is =
    subst IsUtf8 (sym is) (IsUtf8-drop t 1 u (behind_boundary t b u h some ascii))

pub name_ends : (t : List ℕ) (n : ℕ) → IsUtf8 t → n ≡ prefix_len is_name_byte t → 0 < n
    → IsCharBoundary t n
name_ends t n u is some =
    let last : n - 1 < prefix_len is_name_byte t = omega (arith, is, some) in
    let inside : n - 1 < length t = omega (arith, last, prefix_len-le-length is_name_byte t) in
    let back : n - 1 + 1 ≡ n = omega (arith, some) in
    subst (IsCharBoundary t) back (IsCharBoundary-after_ascii t (n - 1) u inside
    (name_is_ascii t (n - 1) last))

brace_there : (t : List ℕ) → position_or_len (λ b. b == 125) t < length t
    → get_or t (position_or_len (λ b. b == 125) t) 0 ≡ 125
brace_there t h = let stops = prefix_len_stops (λ b. not (b == 125)) t 0 h in
    grind (arith, nat_tests)

-- what is read behind an opening brace
abbrev pub Named : List ℕ → Option (Bor (List ℕ) × Bor (List ℕ)) → Type 0
Named after r = MatchOption r (name_at after ≡ None)
    (λ found. (n : ℕ) × (name_at after ≡ Some (found.0.now, n)) × (found.1.now ≡ drop n after)
    × IsUtf8 found.1.now)

-- a name in braces, or a brace that is not closed
pub in_braces : (after inside : List ℕ) (r : Option (Bor (List ℕ) × Bor (List ℕ))) → IsUtf8 after
    → (slice_index after 0 == 123) ≡ true → inside ≡ drop 1 after →
    MatchOption r (position_or_len (λ b. b == 125) inside ≡ length inside)
    (λ x. (x.0.now ≡ before_first (λ b. b == 125) inside)
    × (x.1.now ≡ after_first (λ b. b == 125) inside)
    × (position_or_len (λ b. b == 125) inside < length inside)) →
    Named after r
unfolding name_at
in_braces after inside None u brace is unclosed =
    let past : length inside ≤ position_or_len (λ b. b == 125) inside = omega (arith, unclosed) in
    rw (brace, ← is, le-ltb _ _ past) refl
in_braces after inside (Some found) u brace is (name_is, left_is, closed) =
    let place = position_or_len (λ b. b == 125) inside in
    let sum : 1 + (place + 1) ≡ place + 2 = omega arith in
    let some : 0 < 123 = omega arith in
    let ascii : 123 < 128 = omega arith in
    let utf8 = behind_utf8 after inside 123 u brace some ascii is in
    let there : get_or inside place 0 < 128 = omega (arith, brace_there inside closed) in
    let name_utf8 : IsUtf8 (take place inside) =
    IsUtf8-take inside place utf8 (IsCharBoundary-before_ascii inside place closed there) in (
      place + 2,
      rw (
        brace,
        ← is,
        lt-ltb _ _ closed,
        is_utf8-from_IsUtf8 (take place inside) name_utf8,
        ←
            name_is,
      ) refl,
      left_is ∙ ap (drop (place + 1)) is ∙ drop-drop (place + 1) 1 after
          ∙ ap (λ k. drop k after) sum,
      subst IsUtf8 (sym left_is) (IsUtf8-drop inside (place + 1) utf8
          (IsCharBoundary-after_ascii inside place utf8 closed there)),
    )

-- a bare name
pub bare_name : (after : List ℕ) (n : ℕ) → (slice_index after 0 == 123) ≡ false → n
    ≡ prefix_len is_name_byte after → 0 < n → name_at after ≡ Some (take n after, n)
unfolding name_at
bare_name after n other is some = rw (other, ← is, lt-ltb 0 n some) refl

pub no_bare_name : (after : List ℕ) → (slice_index after 0 == 123) ≡ false
    → prefix_len is_name_byte after ≡ 0 → name_at after ≡ None
unfolding name_at
no_bare_name after other none = rw (other, none) refl

module _ (names : List (Option (List ℕ))) (groups : ℕ → List ℕ) where
  -- one dollar sign more was read
  pub one_more : (made next new : List Part) (before : Bor (List ℕ)) (part : Part)
      (rest after left whole : List ℕ) →
      next ≡ made ++ Text before ∷ [] → new ≡ next ++ part ∷ [] →
      (before.now ≡ before_first (λ b. b == 36) rest) × (after ≡ after_first (λ b. b == 36) rest)
      × (position_or_len (λ b. b == 36) rest < length rest) →
      part_text groups part ++ written_after names groups left 0
      ≡ written_after names groups (36 ∷ after) 0 →
      written groups made ++ written_after names groups rest 0 ≡ whole → written groups new
      ++ written_after names groups left 0 ≡ whole
  one_more made next new before part rest after left whole e f (front, back, there) reads h =
      let W = λ (t : List ℕ). written_after names groups t 0 in
      let first : written groups next ≡ written groups made ++ before.now =
      ap (written groups) e ∙ flat_map-append (part_text groups) made (Text before ∷ [])
      ∙ ap (λ x. written groups made ++ x) (append-nil before.now) in
      let both : written groups new ≡ (written groups made ++ before.now) ++ part_text groups part =
      ap (written groups) f ∙ flat_map-append (part_text groups) next (part ∷ [])
      ∙ ap₂ ◌++◌ first (append-nil (part_text groups part)) in
      ap (λ x. x ++ W left) both ∙ append_assoc (written groups made ++ before.now)
      (part_text groups part) (W left)
      ∙ ap (λ x. (written groups made ++ before.now) ++ x) reads
      ∙ append_assoc (written groups made) before.now (W (36 ∷ after))
      ∙ ap (λ x. written groups made ++ x) (ap₂ (λ x y. x ++ W (36 ∷ y)) front back
      ∙ up_to_sign names groups rest there) ∙ h

  -- no dollar sign is left
  pub the_rest : (made new : List Part) (rest : Bor (List ℕ)) (whole : List ℕ) → new ≡ made
      ++ Text rest ∷ [] →
      position_or_len (λ b. b == 36) rest.now ≡ length rest.now → written groups made
      ++ written_after names groups rest.now 0 ≡ whole → written groups new ≡ whole
  the_rest made new rest whole e none h =
      ap (written groups) e ∙ flat_map-append (part_text groups) made (Text rest ∷ [])
      ∙ ap (λ x. written groups made ++ x) (append-nil rest.now)
      ∙ ap (λ x. written groups made ++ x) (sym (without_sign names groups rest.now none)) ∙ h
