-- What is written before a text that is read again is read again with it: blanks, signs, words,
-- texts and numbers.
use Rattle.std.proofs.Common.{◌≡◌, ◌∙◌, ℕ, zero, suc, ◌+◌, ◌*◌, ◌-◌, ◌^◌, ◌<◌, Bool, true, false, cond, not, eqb, List, [], ◌∷◌, ◌++◌, length, take, drop, refl, sym, ap, subst, arith, append_assoc}
use Rattle.std.specs.Prelude.{decimal, fold}
use Rattle.std.specs.Char.{digit_value}
use Rattle.std.specs.Cmp.Lexicographic.{pointwise}
use Rattle.std.specs.List.{list_all}
use Rattle.std.specs.Str.Parse.{AllDigits, digits_value_after}
use Rattle.std.proofs.lemmas.Bool.Decides.{nat_tests}
use Rattle.std.proofs.lemmas.List.{length-take, length-drop}
use Rattle.std.proofs.lemmas.Fmt.{decimal_digit, decimal_is_IsNumeral}
use Rattle.path_tree.specs.Grammar.{number_of}
use Rattle.pan_ast.specs.declared.sort.Sort.{Sort}
use Rattle.pan_ast.specs.declared.sort.Sort.TheVariants as sorts
use Rattle.pan_ast.specs.declared.token.Token.{Token}
use Rattle.pan_ast.specs.declared.token.TokenKind.{TokenKind}
use Rattle.pan_ast.specs.declared.token.TokenKind.TheVariants as kinds
use Rattle.pan_ast.specs.Sorts.{at, is_word, look_up, signs, sort, sort_of, words}
use Rattle.pan_lexer.specs.Bytes.{begins, is_blank, is_single_sign, is_word_byte, may_be_doubled, may_have_equals, starts, starts_twice}
use Rattle.pan_lexer.specs.Lexed.{advance, place_after, token}
use Rattle.pan_lexer.specs.Skipped.{kept}
use Rattle.pan_lexer.specs.Parts.{Written}
use Rattle.pan_lexer.specs.Spelled.{Cuts, IsFront, Piece as SpelledPiece, counts, documents, name, no_more, once, quotes, sign, skips, without, word, writes}
use Rattle.pan_lexer.specs.declared.parts.At.{At}
use Rattle.pan_lexer.specs.declared.parts.Mode.{Mode}
use Rattle.pan_lexer.specs.declared.pieces.Piece.{Piece}
use Rattle.pan_lexer.proofs.CleanLines.{and_both}
use Rattle.pan_lexer.proofs.Spans.{place_start}
use Rattle.pan_format.specs.Words.{quoted}
use Rattle.pan_format.proofs.Numbers.{MayFollow, number_read}
use Rattle.pan_format.proofs.Written.{blank_read, doubled_read, sign_read, text_read, with_equals_read, word_read}
use Rattle.format_laws.proofs.Reading.{Apart, Behind, Follows, Holding, IsWord, Reads, Stop, behind, ended, holding, stop}
use Rattle.format_laws.proofs.Spelt.{none_in}

-- ---- what stands apart

pub apart_space : {k : List ℕ} → Apart (32 ∷ k)
apart_space = record {
  no_word = refl;
  no_quote = refl;
  no_digit = refl;
  no_start =
      refl;
  no_double = refl;
  no_x = refl;
}

pub apart_close : {k : List ℕ} → Apart (41 ∷ k)
apart_close = record {
  no_word = refl;
  no_quote = refl;
  no_digit = refl;
  no_start =
      refl;
  no_double = refl;
  no_x = refl;
}

pub apart_comma : {k : List ℕ} → Apart (44 ∷ k)
apart_comma = record {
  no_word = refl;
  no_quote = refl;
  no_digit = refl;
  no_start =
      refl;
  no_double = refl;
  no_x = refl;
}

pub apart_semicolon : {k : List ℕ} → Apart (59 ∷ k)
apart_semicolon = record {
  no_word = refl;
  no_quote = refl;
  no_digit = refl;
  no_start =
      refl;
  no_double = refl;
  no_x = refl;
}

pub apart_open_bracket : {k : List ℕ} → Apart (91 ∷ k)
apart_open_bracket = record {
  no_word = refl;
  no_quote = refl;
  no_digit = refl;
  no_start =
      refl;
  no_double = refl;
  no_x = refl;
}

pub apart_close_bracket : {k : List ℕ} → Apart (93 ∷ k)
apart_close_bracket = record {
  no_word = refl;
  no_quote = refl;
  no_digit = refl;
  no_start =
      refl;
  no_double = refl;
  no_x = refl;
}

pub no_word_semicolon : (k : List ℕ) → begins is_word_byte (59 ∷ k) ≡ false
no_word_semicolon k = refl

pub no_word_open : (k : List ℕ) → begins is_word_byte (40 ∷ k) ≡ false
no_word_open k = refl

pub may_follow : {k : List ℕ} → Apart k → MayFollow k
may_follow a = record {
  no_digit = a.no_digit;
  no_word = a.no_start;
  no_double = a.no_double;
  no_x =
      a.no_x;
}

-- ---- a token's sort by its word

no_word_in : (v : List ℕ) (other : Sort) (table : List (List ℕ × Sort)) → is_word other ≡ false
    → list_all (λ e. not (is_word e.1)) table ≡ true → is_word (look_up other v table) ≡ false
no_word_in v other [] o a = o
no_word_in v other (e ∷ es) o a =
    let both = and_both (not (is_word e.1)) (list_all (λ e. not (is_word e.1)) es) a in
    by (pointwise eqb v e.0) (is_word e.1) refl both.0 (no_word_in v other es o both.1) where
      by : (b w : Bool) → is_word e.1 ≡ w → not w ≡ true → is_word (look_up other v es) ≡ false
          → is_word (cond b e.1 (look_up other v es)) ≡ false
      by true true q n h = absurd cc
      by true false q n h = q
      by false w q n h = h

pub word_sort : (t : Token) → is_word (sort t) ≡ true → sort t ≡ sort_of kinds.Word t.value
word_sort t e = by t.kind e where
  by : (k : TokenKind) → is_word (sort_of k t.value) ≡ true
      → sort_of k t.value ≡ sort_of kinds.Word t.value
  by kinds.Word h = refl
  by kinds.Name h = absurd cc
  by kinds.Int h = absurd cc
  by kinds.Text h = absurd cc
  by kinds.End h = absurd cc
  by kinds.Sign h = let q = no_word_in t.value sorts.NoSign signs refl refl in absurd cc

-- ---- a number by its digits

one_digit : (n c : ℕ) → digit_value c < 10 → 10 * n + (c - 48) ≡ n * 10 + digit_value c
one_digit n c h = let q : c - 48 ≡ digit_value c = grind (arith, nat_tests) in omega (arith, q)

same_number : (n : ℕ) (ds : List ℕ) → AllDigits 10 ds
    → fold (λ n c. 10 * n + (c - 48)) n ds ≡ digits_value_after 10 n ds
same_number n [] h = refl
same_number n (c ∷ cs) h = ap (λ (m : ℕ). fold (λ n c. 10 * n + (c - 48)) m cs) (one_digit n c h.0)
    ∙ same_number (n * 10 + digit_value c) cs h.1

pub number_again : (n : ℕ) → n < 2 ^ 63 → number_of (decimal n) ≡ n
number_again zero h = ap number_of (decimal_digit 0 (omega arith))
number_again (suc m) h =
    let numeral = decimal_is_IsNumeral (suc m) (omega (arith, h)) in
    same_number 0 (decimal (suc m)) numeral.0.1 ∙ numeral.1

-- ---- texts, whatever follows

pub mapped : {file k : List ℕ} {P Q : Follows}
    → ((ts : List Token) (ps : List Piece) → P ts ps → Q ts ps) → Reads file k P → Reads file k Q
mapped f r = record { read = λ p. let a = r.read p in (a.0, a.1, a.2, f a.0 (kept a.1) a.3) }

pub joins : {file : List ℕ} {P : Follows} (a b k : List ℕ) → Reads file (a ++ (b ++ k)) P
    → Reads file ((a ++ b) ++ k) P
joins {file = file} {P = P} a b k r = subst (λ (t : List ℕ). Reads file t P)
    (sym (append_assoc a b k)) r

pub blank : {file k : List ℕ} {P : Follows} (b : ℕ) → is_blank b ≡ true → Reads file k P
    → Reads file (b ∷ k) P
blank {file = file} {k = k} {P = P} b e r = record {
  read = λ p.
      let a = r.read (advance p b) in
      let h = blank_read file p b k a.0 a.1 e a.2 in
      (a.0, h.0, h.1, subst (λ (ps : List Piece). P a.0 ps) (sym h.2) a.3);
}

pub sign_then : {file k : List ℕ} {P : Follows} {s : Sort} (b : ℕ) → is_single_sign b ≡ true
    → sort_of kinds.Sign (b ∷ []) ≡ s → Reads file k P → Reads file (b ∷ k) (Behind s P)
sign_then {file = file} {k = k} b e q r = record {
  read = λ p.
      let a = r.read (advance p b) in (
        token file kinds.Sign p 1
            (b ∷ []) ∷ a.0,
        a.1,
        sign_read file p b k a.0 a.1 e a.2,
        behind q a.3,
      );
}

-- ---- where the text of tokens ends

written_no_end : {naming : Bool} {bs : List ℕ} {kind : TokenKind} {n : ℕ} (v : List ℕ)
    → IsFront naming bs (Written kind n) → at sorts.End (sort_of kind v) ≡ false
written_no_end v (name m h r) = refl
written_no_end v (word m h r) = none_in (at sorts.End) v sorts.Word words refl refl
written_no_end v (sign m h) = none_in (at sorts.End) v sorts.NoSign signs refl refl

pub over_token : (t : Token) (ts : List Token) → at sorts.End (sort t) ≡ false
    → ended (t ∷ ts) ≡ ended ts
over_token t ts e = ap (λ (b : Bool). cond b t.start (ended ts)) e

passed : (n : ℕ) (bs : List ℕ) (p : At)
    → (place_after p (take n bs)).start + length (drop n bs) ≡ p.start + length bs
passed n bs p =
    omega (arith, place_start (take n bs) p, length-take n bs, length-drop n bs)

pub cuts_ended : {file : List ℕ} {m : Mode} {p : At} {bs : List ℕ} {ts : List Token}
    {ps : List SpelledPiece} → Cuts file m p bs ts ps → ended ts ≡ p.start + length bs
cuts_ended {p = p} no_more = plain p.start where
  plain : (n : ℕ) → n ≡ n + 0
  plain n = omega arith
cuts_ended {p = p} {bs = bs} (skips {n = n} h r) = cuts_ended r ∙ passed n bs p
cuts_ended {file = file} {p = p} {bs = bs} (writes {ts = ts} {n = n} {kind = kind} h r) =
    over_token (token file kind p n (take n bs)) ts (written_no_end (take n bs) h)
    ∙ cuts_ended r ∙ passed n bs p
cuts_ended {p = p} {bs = bs} (counts {n = n} h r) = cuts_ended r ∙ passed n bs p
cuts_ended {p = p} {bs = bs} (quotes {n = n} h r) = cuts_ended r ∙ passed n bs p
cuts_ended {p = p} {bs = bs} (documents {n = n} {k = k} h r) =
    cuts_ended r ∙ passed (n + 1 + k) bs p

-- a semicolon and the end of its line
pub stop_then : {file k : List ℕ} {P : Follows} → Reads file k P
    → Reads file (59 ∷ 10 ∷ k) (Stop (suc (length k)) P)
stop_then {file = file} {k = k} r = record {
  read = λ p.
      let a = (blank 10 refl r).read (advance p 59) in
      let count : (p.start + 1) + suc (length k) ≡ ended a.0 =
      omega (arith, place_start (59 ∷ []) p, cuts_ended a.2) in (
        token file kinds.Sign p 1 (59 ∷ []) ∷ a.0,
        a.1,
        sign_read file p 59 (10 ∷ k) a.0 a.1 refl a.2,
        stop refl count a.3,
      );
}

-- one of `<`, `=`, `>`, `?` and `!` with an `=` behind it, and with none
pub with_equals_then : {file k : List ℕ} {P : Follows} {s : Sort} (b : ℕ) → may_have_equals b ≡ true
    → sort_of kinds.Sign (b ∷ 61 ∷ []) ≡ s → Reads file k P → Reads file (b ∷ 61 ∷ k) (Behind s P)
with_equals_then {file = file} {k = k} b e q r = record {
  read = λ p.
      let a = r.read (place_after p (b ∷ 61 ∷ [])) in (
        token file kinds.Sign p 2
            (b ∷ 61 ∷ []) ∷ a.0,
        a.1,
        with_equals_read file p b k a.0 a.1 e a.2,
        behind q a.3,
      );
}

pub without_then : {file k : List ℕ} {P : Follows} {s : Sort} (b : ℕ) → may_have_equals b ≡ true
    → starts 61 k ≡ false → starts_twice 60 (b ∷ k) ≡ false → sort_of kinds.Sign (b ∷ []) ≡ s
    → Reads file k P → Reads file (b ∷ k) (Behind s P)
without_then {file = file} {k = k} b e n m q r = record {
  read = λ p.
      let a = r.read (advance p b) in (
        token file kinds.Sign p 1 (b ∷ []) ∷ a.0,
        a.1,
        writes
            (sign refl (without e n m)) a.2,
        behind q a.3,
      );
}

-- `&` and `|`, twice and once
pub doubled_then : {file k : List ℕ} {P : Follows} {s : Sort} (b : ℕ) → may_be_doubled b ≡ true
    → sort_of kinds.Sign (b ∷ b ∷ []) ≡ s → Reads file k P → Reads file (b ∷ b ∷ k) (Behind s P)
doubled_then {file = file} {k = k} b e q r = record {
  read = λ p.
      let a = r.read (place_after p (b ∷ b ∷ [])) in (
        token file kinds.Sign p 2
            (b ∷ b ∷ []) ∷ a.0,
        a.1,
        doubled_read file p b k a.0 a.1 e a.2,
        behind q a.3,
      );
}

pub once_then : {file k : List ℕ} {P : Follows} {s : Sort} (b : ℕ) → may_be_doubled b ≡ true
    → starts b k ≡ false → sort_of kinds.Sign (b ∷ []) ≡ s → Reads file k P
    → Reads file (b ∷ k) (Behind s P)
once_then {file = file} {k = k} b e n q r = record {
  read = λ p.
      let a = r.read (advance p b) in (
        token file kinds.Sign p 1 (b ∷ []) ∷ a.0,
        a.1,
        writes
            (sign refl (once e n)) a.2,
        behind q a.3,
      );
}

pub text_then : {file k : List ℕ} {P : Follows} (v : List ℕ) → Apart k → Reads file k P
    → Reads file (quoted v ++ k) (Holding sorts.Text v P)
text_then {file = file} {k = k} v apart r = record {
  read = λ p.
      let a = r.read (place_after p (quoted v)) in (
        token file kinds.Text p (length
            (quoted v)) v ∷ a.0,
        a.1,
        text_read file p v k a.0 a.1 apart.no_quote a.2,
        holding refl refl a.3,
      );
}

pub number_then : {file k : List ℕ} {P : Follows} (n : ℕ) → n < 2 ^ 63 → Apart k → Reads file k P
    → Reads file (decimal n ++ k) (Holding sorts.Int (decimal n) P)
number_then {file = file} {k = k} n h apart r = record {
  read = λ p.
      let a = r.read (place_after p (decimal n)) in (
        token file kinds.Int p (length (decimal n))
            (decimal n) ∷ a.0,
        a.1,
        number_read file p n k a.0 a.1 h
            (may_follow apart) a.2,
        holding refl refl a.3,
      );
}

pub word_then : {file k : List ℕ} {P : Follows} (w : List ℕ) → IsWord w
    → begins is_word_byte k ≡ false → Reads file k P
    → Reads file (w ++ k) (Holding (sort_of kinds.Word w) w P)
word_then [] h e r = let q : false ≡ true = h.0 in absurd cc
word_then {file = file} {k = k} (b ∷ bs) h e r = record {
  read = λ p.
      let a = r.read (place_after p (b ∷ bs)) in
      let all = (and_both (is_word_byte b) (list_all is_word_byte bs) h.1).1 in (
        token file kinds.Word p (length (b ∷ bs))
            (b ∷ bs) ∷ a.0,
        a.1,
        word_read file p b bs k a.0 a.1 h.0 all e a.2,
        holding refl refl a.3,
      );
}

unheld : {s : Sort} {v : List ℕ} {P : Follows} (ts : List Token) (ps : List Piece)
    → Holding s v P ts ps → Behind s P ts ps
unheld ts ps (holding e q r) = behind e r

pub word_semicolon : {file k : List ℕ} {P : Follows} (w : List ℕ) → IsWord w → Reads file k P
    → Reads file (w ++ 59 ∷ 32 ∷ k) (Holding (sort_of kinds.Word w) w (Behind sorts.Semicolon P))
word_semicolon {k = k} w h r = word_then {k = 59 ∷ 32 ∷ k} w h refl
    (sign_then 59 refl refl (blank 32 refl r))

-- a word of the language, and a space
pub keyword : {file k : List ℕ} {P : Follows} {s : Sort} (w : List ℕ) → IsWord w
    → sort_of kinds.Word w ≡ s → Reads file k P → Reads file (w ++ 32 ∷ k) (Behind s P)
keyword {file = file} {k = k} {P = P} w h q r =
    subst (λ (s : Sort). Reads file (w ++ 32 ∷ k) (Behind s P)) q
    (mapped unheld (word_then w h refl (blank 32 refl r)))

-- a word of the language before what stands apart
pub final_word : {file k : List ℕ} {P : Follows} {s : Sort} (w : List ℕ) → IsWord w
    → sort_of kinds.Word w ≡ s → Apart k → Reads file k P → Reads file (w ++ k) (Behind s P)
final_word {file = file} {k = k} {P = P} w h q apart r =
    subst (λ (s : Sort). Reads file (w ++ k) (Behind s P)) q
    (mapped unheld (word_then w h apart.no_word r))
