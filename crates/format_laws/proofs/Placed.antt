-- Comments and annotations that are written before a text are read again before it, and fall to the
-- same statement.
use Rattle.std.proofs.Common.{◌≡◌, ◌∙◌, ℕ, ◌+◌, ◌<◌, ◌≤◌, Bool, true, false, cond, List, [], ◌∷◌, ◌++◌, length, map, take, drop, refl, sym, ap, subst, arith, append_assoc, length-append}
use Rattle.std.specs.Prelude.{codes, flat_map, nat_lt}
use Rattle.std.specs.List.{prefix_len}
use Rattle.std.proofs.lemmas.Bool.{le-ltb, lt-ltb}
use Rattle.std.proofs.Math.Seq.{drop-append_seam, take-append_seam}
use Rattle.pan_ast.specs.declared.token.Token.{Token}
use Rattle.pan_lexer.specs.Bytes.{begins, is_blank}
use Rattle.pan_lexer.specs.Lexed.{advance, is_naming, place_after}
use Rattle.pan_lexer.specs.Parts.{Skip}
use Rattle.pan_lexer.specs.Skipped.{is_kept, kept}
use Rattle.pan_lexer.specs.Spelled.{Cuts, IsFront, Piece as SpelledPiece, blanks, piece, run_ends, skips}
use Rattle.pan_lexer.specs.declared.parts.At.{At}
use Rattle.pan_lexer.specs.declared.parts.Mode.{Mode}
use Rattle.pan_lexer.specs.declared.parts.SkipKind.{SkipKind}
use Rattle.pan_lexer.specs.declared.parts.SkipKind.TheVariants.{Annotation, Blank, Comment}
use Rattle.pan_lexer.specs.declared.pieces.Piece.{Piece}
use Rattle.pan_format.specs.Layout.{count_before, with_notes}
use Rattle.pan_format.specs.Notes.{Note, note, note_text, notes, notes_text}
use Rattle.pan_format.proofs.Written.{one_more}
use Rattle.format_laws.proofs.Reading.{Follows, Reads, ReadsFirst, ended}
use Rattle.format_laws.proofs.Fronts.{blank, cuts_ended}
use Rattle.format_laws.proofs.Noted.{AllNotes, IsNote, text_at}

-- A comment or annotation of this text with so many bytes from where it starts, and what is said of
-- the tokens and pieces behind it.
pub data NoteThen (v : List ℕ) (n : ℕ) (P : List Token → List Piece → Type 0)
    : List Token → List Piece → Type 0 where
  note_then : {ts : List Token} {p : Piece} {ps : List Piece} → p.end ≡ p.start + length v
      → p.start + n ≡ ended ts → P ts ps → NoteThen v n P ts (p ∷ ps)

-- all of these before a text
abbrev pub NotesThen : List Note → List ℕ → Follows → Follows
NotesThen [] k P = P
NotesThen (n ∷ ns) k P =
    NoteThen n.text (length (notes_text (n ∷ ns) ++ k)) (NotesThen ns k P)

-- ---- they are read

kept_front : (kind : SkipKind) → is_kept kind ≡ true → (p : At) (n : ℕ) (ps : List SpelledPiece)
    → kept (piece kind p n ∷ ps) ≡ record { start = p.start; end = p.start + n } ∷ kept ps
kept_front Blank e p n ps = absurd cc
kept_front Comment e p n ps = refl
kept_front Annotation e p n ps = refl

note_cut : {file : List ℕ} {m : Mode} {p : At} {k : List ℕ} {ts : List Token}
    {ps : List SpelledPiece} (v : List ℕ) → is_naming m ≡ false → (h : IsNote v)
    → Cuts file m (place_after p v) (10 ∷ k) ts ps
    → Cuts file m p (v ++ 10 ∷ k) ts (piece h.kind p (length v) ∷ ps)
note_cut {file = file} {m = m} {p = p} {k = k} {ts = ts} {ps = ps} v e h r =
    skips (subst (λ (b : Bool). IsFront b (v ++ 10 ∷ k) (Skip h.kind (length v))) (sym e)
    (h.front k))
    (subst (λ (x : List ℕ). Cuts file m (place_after p x) (drop (length v) (v ++ 10 ∷ k)) ts ps)
    (sym (take-append_seam v (10 ∷ k)))
    (subst (λ (x : List ℕ). Cuts file m (place_after p v) x ts ps)
    (sym (drop-append_seam v (10 ∷ k))) r))

abbrev NoteCut : List ℕ → Mode → At → List ℕ → List ℕ → Follows → List Token → Type 0
NoteCut file m p v k P ts = (qs : List SpelledPiece) × Cuts file m p (v ++ 10 ∷ k) ts qs
    × NoteThen v (length (v ++ 10 ∷ k)) P ts (kept qs)

note_said : {file : List ℕ} {m : Mode} {p : At} {k : List ℕ} {P : Follows} {ts : List Token}
    {ps : List SpelledPiece} (v : List ℕ) → is_naming m ≡ false → IsNote v
    → Cuts file m (place_after p v) (10 ∷ k) ts ps → P ts (kept ps) → NoteCut file m p v k P ts
note_said {file = file} {m = m} {p = p} {k = k} {P = P} {ts = ts} {ps = ps} v e h r q =
    let cut = note_cut v e h r in (
      piece h.kind p (length v) ∷ ps,
      cut,
      subst (λ (xs : List Piece). NoteThen v (length (v ++ 10 ∷ k)) P ts xs)
          (sym (kept_front h.kind h.stays p (length v) ps))
          (note_then refl (sym (cuts_ended cut)) q),
    )

note_line : {file k : List ℕ} {P : Follows} (v : List ℕ) → IsNote v → Reads file k P
    → Reads file (v ++ 10 ∷ k) (NoteThen v (length (v ++ 10 ∷ k)) P)
note_line {P = P} v h r = record {
  read = λ p.
      let a = (blank 10 refl r).read (place_after p v) in
      let b = note_said {P = P} v refl h a.2 a.3 in
      (a.0, b.0, b.1, b.2);
}

note_first : {file k : List ℕ} {P : Follows} (v : List ℕ) → IsNote v → begins is_blank k ≡ false
    → ReadsFirst file k P → ReadsFirst file (v ++ 10 ∷ k) (NoteThen v (length (v ++ 10 ∷ k)) P)
note_first {P = P} v h e r = record {
  read = λ p.
      let q = place_after p v in
      let a = r.read (advance q 10) in
      let b = note_said {P = P} v refl h (skips (blanks refl (run_ends e)) a.2) a.3 in
      (a.0, b.0, b.1, b.2);
}

-- a note's line before other lines, and a text behind them
line_seam : (v a k : List ℕ) → ((v ++ codes "\n") ++ a) ++ k ≡ v ++ 10 ∷ (a ++ k)
line_seam v a k = append_assoc (v ++ codes "\n") a k ∙ append_assoc v (codes "\n") (a ++ k)

pub notes_again : {file k : List ℕ} {P : Follows} (ns : List Note) → AllNotes ns → Reads file k P
    → Reads file (notes_text ns ++ k) (NotesThen ns k P)
notes_again [] h r = r
notes_again {file = file} {k = k} {P = P} (n ∷ ns) h r =
    subst (λ (t : List ℕ). Reads file t (NoteThen n.text (length t) (NotesThen ns k P)))
    (sym (line_seam n.text (notes_text ns) k)) (note_line n.text h.0 (notes_again ns h.1 r))

no_blank_first : (ns : List Note) (k : List ℕ) → AllNotes ns → begins is_blank k ≡ false
    → begins is_blank (notes_text ns ++ k) ≡ false
no_blank_first [] k h e = e
no_blank_first (n ∷ ns) k h e =
    ap (begins is_blank) (line_seam n.text (notes_text ns) k)
    ∙ h.0.no_blank (10 ∷ (notes_text ns ++ k))

pub notes_first : {file k : List ℕ} {P : Follows} (ns : List Note) → AllNotes ns
    → begins is_blank k ≡ false → ReadsFirst file k P
    → ReadsFirst file (notes_text ns ++ k) (NotesThen ns k P)
notes_first [] h e r = r
notes_first {file = file} {k = k} {P = P} (n ∷ ns) h e r =
    subst (λ (t : List ℕ). ReadsFirst file t (NoteThen n.text (length t) (NotesThen ns k P)))
    (sym (line_seam n.text (notes_text ns) k))
    (note_first n.text h.0 (no_blank_first ns k h.1 e) (notes_first ns h.1 e r))

-- ---- where they stand

abbrev pub texts_of : List Note → List (List ℕ)
texts_of ns = map (λ n. n.text) ns

-- each starts so that at most n bytes stand between it and e
abbrev pub AllFrom : ℕ → ℕ → List Note → Type 0
AllFrom n e [] = Unit {0}
AllFrom n e (m ∷ ms) = (e ≤ m.start + n) × AllFrom n e ms

-- each starts so that more than n bytes stand between it and e
abbrev pub AllBefore : ℕ → ℕ → List Note → Type 0
AllBefore n e [] = Unit {0}
AllBefore n e (m ∷ ms) = (m.start + n < e) × AllBefore n e ms

pub from_on : (a b e f : ℕ) (ms : List Note) → f + a ≤ e + b → AllFrom a e ms → AllFrom b f ms
from_on a b e f [] h q = tt
from_on a b e f (m ∷ ms) h q = (omega (arith, h, q.0), from_on a b e f ms h q.1)

pub before_on : (a e f : ℕ) (ms : List Note) → e ≤ f + a → AllBefore a e ms → AllBefore 0 f ms
before_on a e f [] h q = tt
before_on a e f (m ∷ ms) h q = (omega (arith, h, q.0), before_on a e f ms h q.1)

pub from_append : (n e : ℕ) (ms ls : List Note) → AllFrom n e ms → AllFrom n e ls
    → AllFrom n e (ms ++ ls)
from_append n e [] ls p q = q
from_append n e (m ∷ ms) ls p q = (p.0, from_append n e ms ls p.1 q)

-- What is known of notes of a text, written before k and read again: their texts are the same, and
-- they stand before k and not before where they were written.
pub record Placed (ns : List Note) (k : List ℕ) (P : List Token → List Piece → Type 0)
    (us : List Token) (ps : List Piece) : Type 0 where
  pub read_again : List Note
  pub left : List Piece
  pub behind : P us left
  pub same : texts_of read_again ≡ texts_of ns
  pub noted : (pre whole : List ℕ) → whole ≡ pre ++ (notes_text ns ++ k) → length whole ≡ ended us
      → notes whole ps ≡ read_again ++ notes whole left
  pub before : AllBefore (length k) (ended us) read_again
  pub from : AllFrom (length (notes_text ns ++ k)) (ended us) read_again

abbrev noted_at : List ℕ → ℕ → Note
noted_at v n = record { text = v; start = n }

one_noted : (whole pre v rest : List ℕ) (p : Piece) (e : ℕ) → whole ≡ pre ++ (v ++ rest)
    → length whole ≡ e → p.start + length (v ++ rest) ≡ e → p.end ≡ p.start + length v
    → note_text v ≡ v → note whole p ≡ noted_at v p.start
one_noted whole pre v rest p e w l s n same =
    let at : p.start ≡ length pre =
    omega (arith, ap length w, length-append pre (v ++ rest), l, s) in
    ap (λ (x : List ℕ). noted_at (note_text x) p.start) (text_at whole pre v rest p w at n)
    ∙ ap (λ (x : List ℕ). noted_at x p.start) same

same_notes : (m n : Note) (ms ns : List Note) → m ≡ n → ms ≡ ns → m ∷ ms ≡ n ∷ ns
same_notes m n ms ns e q = cc

same_texts : (v : List ℕ) (vs ws : List (List ℕ)) → vs ≡ ws → v ∷ vs ≡ v ∷ ws
same_texts v vs ws e = cc

pub placed : {P : Follows} (ns : List Note) (k : List ℕ) (us : List Token) (ps : List Piece)
    → AllNotes ns → NotesThen ns k P us ps → Placed ns k P us ps
placed [] k us ps h q = record {
  read_again = [];
  left = ps;
  behind = q;
  same = refl;
  noted = λ pre whole w l. refl;
  before = tt;
  from = tt;
}
placed (n ∷ ns) k us ps h (note_then {p = p} {ps = further} e s q) =
    let r = placed ns k us further h.1 q in
    let line = n.text ++ codes "\n" in
    let rest = 10 ∷ (notes_text ns ++ k) in
    let seam : (line ++ notes_text ns) ++ k ≡ n.text ++ rest =
    line_seam n.text (notes_text ns) k in
    let size : p.start + length (n.text ++ rest) ≡ ended us =
    ap (λ (x : List ℕ). p.start + length x) (sym seam) ∙ s in
    record {
      read_again = noted_at n.text p.start ∷ r.read_again;
      left = r.left;
      behind = r.behind;
      same = same_texts n.text (texts_of r.read_again) (texts_of ns) r.same;
      noted = λ pre whole w l.
          let at = w ∙ ap (λ (x : List ℕ). pre ++ x) seam in
          let on : whole ≡ (pre ++ line) ++ (notes_text ns ++ k) =
          w ∙ ap (λ (x : List ℕ). pre ++ x) (append_assoc line (notes_text ns) k)
          ∙ sym (append_assoc pre line (notes_text ns ++ k)) in
          same_notes (note whole p) (noted_at n.text p.start) (notes whole further)
          (r.read_again ++ notes whole r.left)
          (one_noted whole pre n.text rest p (ended us) at l size e h.0.same)
          (r.noted (pre ++ line) whole on l);
      before = (
        omega (arith, size, length-append n.text rest, length-append (notes_text ns) k),
        r.before,
      );
      from = (
        omega (arith, s),
        from_on (length (notes_text ns ++ k)) (length ((line ++ notes_text ns) ++ k)) (ended us)
            (ended us) r.read_again
            (omega (arith, ap length seam, length-append n.text rest)) r.from,
      );
    }

-- ---- which of them are laid out before a statement

count_seen : (e : ℕ) (es : List ℕ) (ms ls : List Note) → AllBefore 0 e ms → AllFrom 0 e ls
    → count_before (e ∷ es) (ms ++ ls) ≡ length ms
count_seen e es [] [] b f = refl
count_seen e es [] (l ∷ ls) b f =
    ap (λ (t : Bool). cond t (1 + prefix_len (λ n. nat_lt n.start e) ls) 0)
    (le-ltb l.start e (omega (arith, f.0)))
count_seen e es (m ∷ ms) ls b f =
    ap (λ (t : Bool). cond t (1 + prefix_len (λ n. nat_lt n.start e) (ms ++ ls)) 0)
    (lt-ltb m.start e (omega (arith, b.0)))
    ∙ ap (λ (n : ℕ). 1 + n) (count_seen e es ms ls b.1 f) ∙ one_more (length ms)

texts_lines : (ns : List Note) → flat_map (λ v. v ++ codes "\n") (texts_of ns) ≡ notes_text ns
texts_lines [] = refl
texts_lines (n ∷ ns) = ap (λ (t : List ℕ). (n.text ++ codes "\n") ++ t) (texts_lines ns)

pub notes_same : (ms ns : List Note) → texts_of ms ≡ texts_of ns → notes_text ms ≡ notes_text ns
notes_same ms ns e = sym (texts_lines ms)
    ∙ ap (λ (vs : List (List ℕ)). flat_map (λ v. v ++ codes "\n") vs) e ∙ texts_lines ns

-- those that start before an end, before what ends there, and the others behind it
pub laid_turn : (F : List ℕ → List ℕ) (e : ℕ) (es : List ℕ) (ms ls : List Note) (s : List ℕ)
    (ss : List (List ℕ)) (n w : List ℕ) → AllBefore 0 e ms → AllFrom 0 e ls → notes_text ms ≡ n
    → with_notes ss es ls ≡ w
    → (notes_text (take (count_before (e ∷ es) (ms ++ ls)) (ms ++ ls)) ++ s)
    ++ F (with_notes ss es (drop (count_before (e ∷ es) (ms ++ ls)) (ms ++ ls)))
    ≡ (n ++ s) ++ F w
laid_turn F e es ms ls s ss n w b f p q =
    ap (λ (i : ℕ). (notes_text (take i (ms ++ ls)) ++ s)
    ++ F (with_notes ss es (drop i (ms ++ ls)))) (count_seen e es ms ls b f)
    ∙ ap (λ (a : List Note). (notes_text a ++ s)
    ++ F (with_notes ss es (drop (length ms) (ms ++ ls)))) (take-append_seam ms ls)
    ∙ ap (λ (a : List Note). (notes_text ms ++ s) ++ F (with_notes ss es a))
    (drop-append_seam ms ls) ∙ ap (λ (t : List ℕ). (t ++ s) ++ F (with_notes ss es ls)) p
    ∙ ap (λ (t : List ℕ). (n ++ s) ++ F t) q
