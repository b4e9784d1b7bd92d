-- Bounds of types, the suffixes of a type and the texts of a choice are read and parsed back.
use Rattle.std.proofs.Common.{◌≡◌, ◌≢◌, ℕ, zero, suc, ◌-◌, ◌^◌, ◌<◌, Bool, true, false, cond, List, [], ◌∷◌, ◌++◌, map, Option, Some, None, option_map, refl, ap, subst, arith}
use Rattle.std.specs.Prelude.{codes, decimal, flat_map, min, ℤ, pos, negsuc, neg_ℤ}
use Rattle.std.specs.Fmt.{signed_decimal}
use Rattle.std.specs.Ordering.{int_eq}
use Rattle.std.proofs.lemmas.Bool.Decides.{Decides-int_eq}
use Rattle.path_tree.specs.Grammar.{number_of}
use Rattle.pan_ast.specs.declared.place.Place.{Place}
use Rattle.pan_ast.specs.declared.sort.Sort.{Sort}
use Rattle.pan_ast.specs.declared.sort.Sort.TheVariants as sorts
use Rattle.pan_ast.specs.declared.types.Bounds.{Bounds}
use Rattle.pan_ast.specs.declared.types.Suffix.{Suffix}
use Rattle.pan_ast.specs.declared.types.Suffix.TheVariants as suffixes
use Rattle.pan_ast.specs.Sorts.{sort}
use Rattle.pan_lexer.specs.Spelled.{points, sign, writes}
use Rattle.pan_ast.specs.declared.token.TokenKind.TheVariants as kinds
use Rattle.pan_lexer.specs.Lexed.{place_after, token}
use Rattle.pan_lexer.specs.declared.pieces.Piece.{Piece}
use Rattle.pan_grammar.specs.Grammar.{Tokens}
use Rattle.pan_grammar.specs.Types.{IsBounded, IsBounds, IsHigh, IsRange, IsSigned, IsSuffixes, IsTexts, a_dict, a_link, a_list, a_negative, a_number, a_range, a_text, at_least, at_most, bounded, bounds, exactly, from_low, from_to, is_suffix, no_range, no_suffix, no_text, unbounded}
use Rattle.pan_format.specs.Bare.{bare_bounds, bare_suffix}
use Rattle.pan_format.specs.Types.{beside, bounds_text, further_texts, named_bounds, range_text, suffix_text}
use Rattle.pan_format.specs.Words.{quoted}
use Rattle.format_laws.proofs.Reading.{Apart, Behind, Follows, Holding, Reads, Then, behind, holding, so}
use Rattle.format_laws.proofs.Fronts.{apart_close, apart_close_bracket, apart_comma, apart_space, blank, joins, mapped, number_then, sign_then, text_then}
use Rattle.format_laws.proofs.Literals.{same_number}
use Rattle.format_laws.proofs.Seams.{seam3, seam4}

pub apart_points : {k : List ℕ} → Apart (46 ∷ 46 ∷ k)
apart_points = record {
  no_word = refl;
  no_quote = refl;
  no_digit = refl;
  no_start =
      refl;
  no_double = refl;
  no_x = refl;
}

pub apart_close_brace : {k : List ℕ} → Apart (125 ∷ k)
apart_close_brace = record {
  no_word = refl;
  no_quote = refl;
  no_digit = refl;
  no_start =
      refl;
  no_double = refl;
  no_x = refl;
}

pub range_then : {file k : List ℕ} {P : Follows} → Reads file k P
    → Reads file (46 ∷ 46 ∷ k) (Behind sorts.Range P)
range_then {file = file} {k = k} r = record {
  read = λ p.
      let a = r.read (place_after p (46 ∷ 46 ∷ [])) in (
        token file kinds.Sign p 2 (46 ∷ 46 ∷ []) ∷ a.0,
        a.1,
        writes
            (sign refl (points refl refl)) a.2,
        behind refl a.3,
      );
}

-- ---- numbers with a sign

abbrev pub IsWithin : ℤ → Type 0
IsWithin (pos n) = n < 2 ^ 63
IsWithin (negsuc n) = suc n < 2 ^ 63

neg_within : (n : ℕ) → n < 2 ^ 63 → IsWithin (neg_ℤ (pos n))
neg_within zero h = h
neg_within (suc n) h = h

least_within : (n : ℕ) → min n (2 ^ 63 - 1) < 2 ^ 63
least_within n = omega arith

pub within : {ts rest : Tokens} {n : ℤ} → IsSigned ts n rest → IsWithin n
within (a_number {t = t} e) = least_within (number_of t.value)
within (a_negative {t = t} e q) = neg_within (min (number_of t.value) (2 ^ 63 - 1))
    (least_within (number_of t.value))

abbrev SignedThen : ℤ → Follows → Follows
SignedThen n P = Then ℤ IsSigned (λ m. m ≡ n) P

number_so : (n : ℕ) {P : Follows} → n < 2 ^ 63 → (us : Tokens) (ps : List Piece)
    → Holding sorts.Int (decimal n) P us ps → SignedThen (pos n) P us ps
number_so n h us ps (holding {t = u} e q r) = so (a_number e) (same_number u n h q) r

negative_so : (n : ℕ) {P : Follows} → suc n < 2 ^ 63 → (us : Tokens) (ps : List Piece)
    → Behind sorts.Minus (Holding sorts.Int (decimal (suc n)) P) us ps
    → SignedThen (negsuc n) P us ps
negative_so n h us ps (behind m (holding {t = u} e q r)) =
    so (a_negative m e) (ap neg_ℤ (same_number u (suc n) h q)) r

signed_again : {file t : List ℕ} {P : Follows} (n : ℤ) → IsWithin n → Apart t → Reads file t P
    → Reads file (signed_decimal n ++ t) (SignedThen n P)
signed_again (pos n) h apart r = mapped (number_so n h) (number_then n h apart r)
signed_again (negsuc n) h apart r = mapped (negative_so n h)
    (sign_then 45 refl refl (number_then (suc n) h apart r))

-- ---- bounds

abbrev pub BoundsThen : Bounds → Follows → Follows
BoundsThen b P = Then Bounds IsBounds (λ c. bare_bounds c ≡ bare_bounds b) P

from_so : {us mid rest : Tokens} {n : ℤ} {ps : List Piece} {P : Follows} (low high : Option ℤ)
    (p : Place) → IsSigned us n mid → ((q : Place) → IsHigh q n mid (bounds q low high) rest)
    → P rest ps → BoundsThen (bounds p low high) P us ps
from_so low high p (a_number {t = t} e) f r = so (from_low (a_number e) (f t.place)) refl r
from_so low high p (a_negative {m = m} e q) f r = so (from_low (a_negative e q) (f m.place)) refl r

exactly_so : (p : Place) (n : ℤ) {P : Follows} (us : Tokens) (ps : List Piece)
    → SignedThen n P us ps → BoundsThen (bounds p (Some n) (Some n)) P us ps
exactly_so p n us ps (so {rest = rest} h q r) =
    from_so (Some n) (Some n) p (subst (λ (m : ℤ). IsSigned us m rest) q h) (λ q. exactly) r

least_so : (p : Place) (n : ℤ) {P : Follows} (us : Tokens) (ps : List Piece)
    → SignedThen n (Behind sorts.Range P) us ps → BoundsThen (bounds p (Some n) None) P us ps
least_so p n us ps (so h q (behind {t = t} {ts = ts} e r)) =
    from_so (Some n) None p (subst (λ (m : ℤ). IsSigned us m (t ∷ ts)) q h) (λ q. at_least e) r

from_to_so : (p : Place) (n m : ℤ) {P : Follows} (us : Tokens) (ps : List Piece)
    → SignedThen n (Behind sorts.Range (SignedThen m P)) us ps
    → BoundsThen (bounds p (Some n) (Some m)) P us ps
from_to_so p n m us ps (so h q (behind {t = t} {ts = ts} e (so {rest = rest} g o r))) =
    from_so (Some n) (Some m) p (subst (λ (i : ℤ). IsSigned us i (t ∷ ts)) q h)
    (λ q. from_to e (subst (λ (i : ℤ). IsSigned ts i rest) o g)) r

most_so : (p : Place) (m : ℤ) {P : Follows} (us : Tokens) (ps : List Piece)
    → Behind sorts.Range (SignedThen m P) us ps → BoundsThen (bounds p None (Some m)) P us ps
most_so p m us ps (behind {ts = ts} e (so {rest = rest} h q r)) =
    so (at_most e (subst (λ (i : ℤ). IsSigned ts i rest) q h)) refl r

exactly_again : {file t : List ℕ} {P : Follows} (p : Place) (n : ℤ) → IsWithin n → Apart t
    → Reads file t P → Reads file (signed_decimal n ++ t)
    (BoundsThen (bounds p (Some n) (Some n)) P)
exactly_again p n h apart r = mapped (exactly_so p n) (signed_again n h apart r)

from_to_again : {file t : List ℕ} {P : Follows} (p : Place) (n m : ℤ) → IsWithin n → IsWithin m
    → Apart t → Reads file t P → Reads file (range_text (Some n) (Some m) ++ t)
    (BoundsThen (bounds p (Some n) (Some m)) P)
from_to_again {file = file} {t = t} {P = P} p n m hn hm apart r = by (int_eq n m) refl where
  by : (b : Bool) → int_eq n m ≡ b → Reads file
      (cond b (signed_decimal n) (signed_decimal n ++ codes ".." ++ signed_decimal m) ++ t)
      (BoundsThen (bounds p (Some n) (Some m)) P)
  by true e = subst (λ (i : ℤ). Reads file (signed_decimal n ++ t)
      (BoundsThen (bounds p (Some n) (Some i)) P)) ((Decides-int_eq n m).0 e)
      (exactly_again p n hn apart r)
  by false e = seam3 (signed_decimal n) (codes "..") (signed_decimal m) t
      (mapped (from_to_so p n m) (signed_again n hn apart_points
      (range_then (signed_again m hm apart r))))

pub bounds_again : {file t : List ℕ} {P : Follows} {ts rest : Tokens} {b : Bounds}
    → IsBounds ts b rest → Apart t → Reads file t P
    → Reads file (bounds_text b ++ t) (BoundsThen b P)
bounds_again (from_low {t = o} {n = n} h exactly) apart r =
    from_to_again o.place n n (within h) (within h) apart r
bounds_again {t = t} (from_low {t = o} {n = n} h (at_least e)) apart r =
    joins (signed_decimal n) (codes "..") t (mapped (least_so o.place n)
    (signed_again n (within h) apart_points (range_then r)))
bounds_again (from_low {t = o} {n = n} h (from_to {m = m} e g)) apart r =
    from_to_again o.place n m (within h) (within g) apart r
bounds_again (at_most {r = o} {n = m} e h) apart r =
    mapped (most_so o.place m) (range_then (signed_again m (within h) apart r))

-- ---- bounds in signs that may hold none

abbrev pub RangeThen : Sort → Option Bounds → Follows → Follows
RangeThen last b P = Then (Option Bounds) (IsRange last)
    (λ c. option_map bare_bounds c ≡ option_map bare_bounds b) P

abbrev pub BoundedThen : Option Bounds → Follows → Follows
BoundedThen b P = Then (Option Bounds) IsBounded
    (λ c. option_map bare_bounds c ≡ option_map bare_bounds b) P

no_range_so : (last : Sort) {P : Follows} (us : Tokens) (ps : List Piece) → Behind last P us ps
    → RangeThen last None P us ps
no_range_so last us ps (behind e r) = so (no_range e) refl r

range_so : (last : Sort) (b : Bounds) {P : Follows} (us : Tokens) (ps : List Piece)
    → BoundsThen b (Behind last P) us ps → RangeThen last (Some b) P us ps
range_so last b us ps (so h q (behind e r)) = so (a_range h e) (ap Some q) r

-- there is a first token, of a sort of which that is so
abbrev pub First : (Sort → Type 0) → Tokens → Type 0
First F [] = ⊥
First F (t ∷ ts) = F (sort t)

abbrev pub Other : Sort → Sort → Type 0
Other w s = s ≢ w

unbounded_so : {P : Follows} → ((us : Tokens) (ps : List Piece) → P us ps → First
    (Other sorts.Open) us) → (us : Tokens) (ps : List Piece) → P us ps → BoundedThen None P us ps
unbounded_so n [] ps r = absurd (n [] ps r)
unbounded_so n (u ∷ us) ps r = so (unbounded (n (u ∷ us) ps r)) refl r

bounded_so : (b : Bounds) {P : Follows} (us : Tokens) (ps : List Piece)
    → Behind sorts.Open (BoundsThen b (Behind sorts.Close P)) us ps → BoundedThen (Some b) P us ps
bounded_so b us ps (behind o (so h q (behind e r))) = so (bounded o h e) (ap Some q) r

pub bounded_again : {file t : List ℕ} {P : Follows} {ts rest : Tokens} {b : Option Bounds}
    → IsBounded ts b rest → ((us : Tokens) (ps : List Piece) → P us ps → First
    (Other sorts.Open) us) → Reads file t P → Reads file (named_bounds b ++ t) (BoundedThen b P)
bounded_again (unbounded e) n r = mapped (unbounded_so n) r
bounded_again {t = t} (bounded {b = b} o h e) n r =
    mapped (bounded_so b) (seam3 (codes "(") (bounds_text b) (codes ")") t
    (sign_then 40 refl refl (bounds_again h apart_close (sign_then 41 refl refl r))))

-- ---- suffixes

abbrev pub SuffixesThen : List Suffix → Follows → Follows
SuffixesThen ss P = Then (List Suffix) IsSuffixes (λ us. map bare_suffix us ≡ map bare_suffix ss) P

abbrev pub NoSuffix : Sort → Type 0
NoSuffix s = is_suffix s ≡ false

no_suffix_so : {P : Follows} → ((us : Tokens) (ps : List Piece) → P us ps → First NoSuffix us)
    → (us : Tokens) (ps : List Piece) → P us ps → SuffixesThen [] P us ps
no_suffix_so n [] ps r = absurd (n [] ps r)
no_suffix_so n (u ∷ us) ps r = so (no_suffix (n (u ∷ us) ps r)) refl r

list_so : (b : Option Bounds) (ss : List Suffix) {P : Follows} (us : Tokens) (ps : List Piece)
    → Behind sorts.OpenBracket (RangeThen sorts.CloseBracket b (SuffixesThen ss P)) us ps
    → SuffixesThen (suffixes.List b ∷ ss) P us ps
list_so b ss us ps (behind o (so h q (so k c r))) = so (a_list o h k) (cc (q, c)) r

dict_so : (b : Option Bounds) (ss : List Suffix) {P : Follows} (us : Tokens) (ps : List Piece)
    → Behind sorts.OpenBrace (RangeThen sorts.CloseBrace b (SuffixesThen ss P)) us ps
    → SuffixesThen (suffixes.Dict b ∷ ss) P us ps
dict_so b ss us ps (behind o (so h q (so k c r))) = so (a_dict o h k) (cc (q, c)) r

link_so : (ss : List Suffix) {P : Follows} (us : Tokens) (ps : List Piece)
    → Behind sorts.Star (SuffixesThen ss P) us ps → SuffixesThen (suffixes.Link ∷ ss) P us ps
link_so ss us ps (behind o (so k c r)) = so (a_link o k) (cc c) r

beside_then : {file t : List ℕ} {P : Follows} (o : Option ℤ) → Reads file t P
    → Reads file (beside o ++ t) P
beside_then None r = r
beside_then (Some n) r = blank 32 refl r

beside_apart : (o : Option ℤ) (t : List ℕ) → Apart (beside o ++ 125 ∷ t)
beside_apart None t = apart_close_brace
beside_apart (Some n) t = apart_space

list_again : {file t : List ℕ} {P : Follows} {ts rest : Tokens} {b : Option Bounds}
    → IsRange sorts.CloseBracket ts b rest → Reads file t P
    → Reads file (suffix_text (suffixes.List b) ++ t)
    (Behind sorts.OpenBracket (RangeThen sorts.CloseBracket b P))
list_again (no_range e) r = sign_then 91 refl refl
    (mapped (no_range_so sorts.CloseBracket) (sign_then 93 refl refl r))
list_again {t = t} (a_range {b = b} h e) r = seam3 (codes "[") (bounds_text b) (codes "]") t
    (sign_then 91 refl refl (mapped (range_so sorts.CloseBracket b)
    (bounds_again h apart_close_bracket (sign_then 93 refl refl r))))

dict_again : {file t : List ℕ} {P : Follows} {ts rest : Tokens} {b : Option Bounds}
    → IsRange sorts.CloseBrace ts b rest → Reads file t P
    → Reads file (suffix_text (suffixes.Dict b) ++ t)
    (Behind sorts.OpenBrace (RangeThen sorts.CloseBrace b P))
dict_again (no_range e) r = blank 32 refl (sign_then 123 refl refl
    (blank 32 refl (mapped (no_range_so sorts.CloseBrace) (sign_then 125 refl refl r))))
dict_again {t = t} (a_range {b = b} h e) r =
    joins (codes " {" ++ beside b.low ++ bounds_text b ++ beside b.high) (codes "}") t
    (seam4 (codes " {") (beside b.low) (bounds_text b) (beside b.high) (125 ∷ t)
    (blank 32 refl (sign_then 123 refl refl (beside_then b.low (mapped (range_so sorts.CloseBrace b)
    (bounds_again h (beside_apart b.high t)
    (beside_then b.high (sign_then 125 refl refl r))))))))

pub suffixes_again : {file t : List ℕ} {P : Follows} {ts rest : Tokens} {ss : List Suffix}
    → IsSuffixes ts ss rest → ((us : Tokens) (ps : List Piece) → P us ps → First NoSuffix us)
    → Reads file t P → Reads file (flat_map suffix_text ss ++ t) (SuffixesThen ss P)
suffixes_again (no_suffix e) n r = mapped (no_suffix_so n) r
suffixes_again {t = t} (a_list {b = b} {ss = ss} o h k) n r =
    joins (suffix_text (suffixes.List b)) (flat_map suffix_text ss) t
    (mapped (list_so b ss) (list_again h (suffixes_again k n r)))
suffixes_again {t = t} (a_dict {b = b} {ss = ss} o h k) n r =
    joins (suffix_text (suffixes.Dict b)) (flat_map suffix_text ss) t
    (mapped (dict_so b ss) (dict_again h (suffixes_again k n r)))
suffixes_again {t = t} (a_link {ss = ss} o k) n r =
    joins (codes " *") (flat_map suffix_text ss) t
    (mapped (link_so ss) (blank 32 refl (sign_then 42 refl refl (suffixes_again k n r))))

pub suffixes_apart : (ss : List Suffix) {t : List ℕ} → Apart t
    → Apart (flat_map suffix_text ss ++ t)
suffixes_apart [] a = a
suffixes_apart (suffixes.List None ∷ ss) a = record {
  no_word = refl;
  no_quote = refl;
  no_digit = refl;
  no_start = refl;
  no_double = refl;
  no_x =
      refl;
}
suffixes_apart (suffixes.List (Some b) ∷ ss) a =
    record {
      no_word = refl;
      no_quote = refl;
      no_digit = refl;
      no_start = refl;
      no_double =
          refl;
      no_x = refl;
    }
suffixes_apart (suffixes.Dict None ∷ ss) a = apart_space
suffixes_apart (suffixes.Dict (Some b) ∷ ss) a = apart_space
suffixes_apart (suffixes.Link ∷ ss) a = apart_space

-- ---- the texts of a choice

abbrev pub TextsThen : List (List ℕ) → Follows → Follows
TextsThen xs P = Then (List (List ℕ)) IsTexts (λ ys. ys ≡ xs) P

no_text_so : {P : Follows} (us : Tokens) (ps : List Piece) → Behind sorts.Close P us ps
    → TextsThen [] P us ps
no_text_so us ps (behind e r) = so (no_text e) refl r

text_more_so : (x : List ℕ) (xs : List (List ℕ)) {P : Follows} (us : Tokens) (ps : List Piece)
    → Behind sorts.Comma (Holding sorts.Text x (TextsThen xs P)) us ps → TextsThen (x ∷ xs) P us ps
text_more_so x xs us ps (behind e (holding h q (so k c r))) =
    so (a_text e h k) (both _ _ _ _ q c) r where
      both : (x y : List ℕ) (xs ys : List (List ℕ)) → y ≡ x → ys ≡ xs → y ∷ ys ≡ x ∷ xs
      both x y xs ys e1 e2 = cc

pub texts_apart : (xs : List (List ℕ)) (t : List ℕ) → Apart (further_texts xs ++ 41 ∷ t)
texts_apart [] t = apart_close
texts_apart (x ∷ xs) t = apart_comma

pub texts_again : {file t : List ℕ} {P : Follows} {ts rest : Tokens} {xs : List (List ℕ)}
    → IsTexts ts xs rest → Reads file t P → Reads file (further_texts xs ++ 41 ∷ t) (TextsThen xs P)
texts_again (no_text e) r = mapped no_text_so (sign_then 41 refl refl r)
texts_again {t = t} (a_text {t = v} {xs = xs} e h k) r =
    mapped (text_more_so v.value xs) (seam3 (codes ", ") (quoted v.value) (further_texts xs)
    (41 ∷ t)
    (sign_then 44 refl refl (blank 32 refl (text_then v.value (texts_apart xs t)
    (texts_again k r)))))

pub bounded_apart : (b : Option Bounds) {t : List ℕ} → Apart t → Apart (named_bounds b ++ t)
bounded_apart None a = a
bounded_apart (Some b) a = record {
  no_word = refl;
  no_quote = refl;
  no_digit = refl;
  no_start =
      refl;
  no_double = refl;
  no_x = refl;
}
