-- Where a text is cut by its characters.
use Rattle.std.proofs.Common.{◌≡◌, ℕ, ◌+◌, ◌≤◌, Option, Some, None, List, [], ◌∷◌, ◌++◌, length, take, drop, encode_utf8_all, ◌-◌, sym, ap, subst, ◌∙◌, arith}
use Rattle.std.specs.Str.{chars, IsUtf8, IsCharBoundary}
use Rattle.std.proofs.lemmas.List.{drop-drop, length-append, take-append-drop}
use Rattle.std.proofs.Math.Seq.{take-append_seam}
use Rattle.std.specs.Str.Iter.{chars_steps}
use Rattle.std.specs.declared.str.Chars.{Chars}
use Rattle.std.proofs.lemmas.Str.{chars-nil, chars_past_char, IsUtf8-past_char, encodes-chars, encodes-append, IsCharBoundary-at_seam}

-- what a step over one character leaves of a text
pub char_step : (s : Chars) (r : Option ℕ) (u : Chars) (i : ℕ) (all : List ℕ) → chars_steps s r u
    → chars s.rest.now ≡ drop i all → IsUtf8 s.rest.now →
    (chars u.rest.now ≡ drop (i + 1) all) × IsUtf8 u.rest.now
char_step s None u i all step at utf8 =
    let same : u ≡ s = step.0.1 in (
      ap (λ (x : Chars). chars x.rest.now) same ∙ no_char i s.rest.now all at step.0.0,
      subst
          (λ (x : Chars). IsUtf8 x.rest.now) (sym same) utf8,
    )
  where
    no_char : (i : ℕ) (bs all : List ℕ) → chars bs ≡ drop i all → length bs ≡ 0 → chars bs
        ≡ drop (i + 1) all
    no_char i [] all at e = chars-nil ∙ ap (drop 1) (sym chars-nil ∙ at) ∙ drop-drop 1 i all
    no_char i (b ∷ bs) all at e = absurd (omega (arith, e))
char_step s (Some c) u i all step at utf8 =
    let whole : chars s.rest.now ≡ c ∷ chars u.rest.now =
    chars_past_char s.rest.now u.rest.now c utf8 step.0 in (
      ap (drop 1) (sym whole ∙ at) ∙ drop-drop 1 i all,
      IsUtf8-past_char s.rest.now u.rest.now c utf8
          step.0,
    )

-- a text is its first n characters and the others
parted : (n : ℕ) (bs : List ℕ) → IsUtf8 bs → bs ≡ encode_utf8_all (take n (chars bs))
    ++ encode_utf8_all (drop n (chars bs))
parted n bs u = sym (sym (encodes-append (take n (chars bs)) (drop n (chars bs)))
    ∙ ap encode_utf8_all (take-append-drop n (chars bs)) ∙ encodes-chars bs u)

place_of : (n : ℕ) (bs rest : List ℕ) → IsUtf8 bs → rest ≡ encode_utf8_all (drop n (chars bs))
    → length bs - length rest ≡ length (encode_utf8_all (take n (chars bs)))
place_of n bs rest u e =
    let whole : length bs ≡ length (encode_utf8_all (take n (chars bs))) + length rest =
    ap length (parted n bs u) ∙ length-append (encode_utf8_all (take n (chars bs)))
    (encode_utf8_all (drop n (chars bs)))
    ∙ ap (λ r. length (encode_utf8_all (take n (chars bs))) + length r) (sym e) in
    omega (arith, whole)

pub seam_length : (n : ℕ) (bs rest : List ℕ) → IsUtf8 bs → rest
    ≡ encode_utf8_all (drop n (chars bs)) → length rest ≤ length bs
seam_length n bs rest u e =
    let whole : length bs ≡ length (encode_utf8_all (take n (chars bs))) + length rest =
    ap length (parted n bs u) ∙ length-append (encode_utf8_all (take n (chars bs)))
    (encode_utf8_all (drop n (chars bs)))
    ∙ ap (λ r. length (encode_utf8_all (take n (chars bs))) + length r) (sym e) in
    omega (arith, whole)

-- a text may be cut where the characters from n on begin
pub seam : (n : ℕ) (bs rest : List ℕ) → IsUtf8 bs → IsUtf8 rest → rest
    ≡ encode_utf8_all (drop n (chars bs)) → IsCharBoundary bs (length bs - length rest)
seam n bs rest u r e =
    subst (IsCharBoundary bs) (sym (place_of n bs rest u e))
    (IsCharBoundary-at_seam bs (encode_utf8_all (take n (chars bs))) rest
    (parted n bs u ∙ ap (λ x. encode_utf8_all (take n (chars bs)) ++ x) (sym e)) r)

pub front_of : (n : ℕ) (bs rest front : List ℕ) → IsUtf8 bs → rest
    ≡ encode_utf8_all (drop n (chars bs)) → front ≡ take (length bs - length rest) bs → front
    ≡ encode_utf8_all (take n (chars bs))
front_of n bs rest front u e f =
    f ∙ ap (λ k. take k bs) (place_of n bs rest u e)
    ∙ ap (take (length (encode_utf8_all (take n (chars bs))))) (parted n bs u)
    ∙ take-append_seam (encode_utf8_all (take n (chars bs)))
    (encode_utf8_all (drop n (chars bs)))

-- a text is its characters
pub rest_as_text : (n : ℕ) (bs all : List ℕ) → IsUtf8 bs → chars bs ≡ drop n all → bs
    ≡ encode_utf8_all (drop n all)
rest_as_text n bs all u e = sym (sym (ap encode_utf8_all e) ∙ encodes-chars bs u)
