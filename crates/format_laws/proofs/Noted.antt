-- The comments and annotations of a file are written in the layout as they will be read again.
use Rattle.std.proofs.Common.{◌≡◌, ◌∙◌, ℕ, suc, ◌+◌, ◌-◌, ◌<◌, Bool, true, false, cond, List, [], ◌∷◌, ◌++◌, length, take, drop, refl, sym, ap, subst, arith, append_assoc, length-append}
use Rattle.std.specs.List.{list_all}
use Rattle.std.specs.Str.{IsUtf8}
use Rattle.std.proofs.lemmas.Bool.Decides.{nat_tests}
use Rattle.std.proofs.lemmas.List.{append-nil, length-take-le, take-append-drop}
use Rattle.std.proofs.Math.Seq.{drop-append_seam, take-append_seam}
use Rattle.pan_ast.specs.declared.token.Token.{Token}
use Rattle.pan_lexer.specs.Bytes.{begins, is_blank, is_in_annotation, is_in_comment, is_tab, is_word_byte}
use Rattle.pan_lexer.specs.Lexed.{is_naming, place_after}
use Rattle.pan_lexer.specs.Parts.{Document, Int, Skip, Text, Written}
use Rattle.pan_lexer.specs.Skipped.{is_kept, kept}
use Rattle.pan_lexer.specs.Spelled.{Cuts, IsFront, IsRun, Piece as SpelledPiece, annotation, blanks, comment, counts, documents, no_more, quotes, run_ends, run_more, skips, writes}
use Rattle.pan_lexer.specs.declared.parts.At.{At}
use Rattle.pan_lexer.specs.declared.parts.Mode.{Mode}
use Rattle.pan_lexer.specs.declared.parts.SkipKind.{SkipKind}
use Rattle.pan_lexer.specs.declared.parts.SkipKind.TheVariants.{Annotation, Blank, Comment}
use Rattle.pan_lexer.specs.declared.pieces.Piece.{Piece}
use Rattle.pan_lexer.proofs.Ascii.{around, front_text}
use Rattle.pan_lexer.proofs.BothWays.{fronts}
use Rattle.pan_lexer.proofs.Clean.{LeavesText, front_leaves}
use Rattle.pan_lexer.proofs.CleanLines.{and_both}
use Rattle.pan_lexer.proofs.Cuts.{fits}
use Rattle.pan_lexer.proofs.Spans.{place_start}
use Rattle.pan_format.specs.Notes.{Note, ended_by, is_loose, note_text, notes, trimmed}
use Rattle.pan_format.proofs.Written.{one_more, run_all}

-- a text that is read as a comment or an annotation, before the end of its line
pub record IsNote (v : List ℕ) : Type 0 where
  pub kind : SkipKind
  pub stays : is_kept kind ≡ true
  pub front : (rest : List ℕ) → IsFront false (v ++ 10 ∷ rest) (Skip kind (length v))
  pub same : note_text v ≡ v
  pub utf8 : IsUtf8 v
  pub no_blank : (rest : List ℕ) → begins is_blank (v ++ rest) ≡ false

abbrev pub AllNotes : List Note → Type 0
AllNotes [] = Unit {0}
AllNotes (n ∷ ns) = IsNote n.text × AllNotes ns

-- ---- trimmed texts

ended_twice : (b : ℕ) (t : List ℕ) → trimmed t ≡ t → trimmed (ended_by b t) ≡ ended_by b t
ended_twice b [] e = by (is_loose b) refl where
  by : (x : Bool) → is_loose b ≡ x → trimmed (cond x [] (b ∷ [])) ≡ cond x [] (b ∷ [])
  by true h = refl
  by false h = ap (λ (x : Bool). cond x [] (b ∷ [])) h
ended_twice b (c ∷ cs) e = ap (ended_by b) e

trimmed_twice : (v : List ℕ) → trimmed (trimmed v) ≡ trimmed v
trimmed_twice [] = refl
trimmed_twice (b ∷ bs) = ended_twice b (trimmed bs) (trimmed_twice bs)

both_pass : (p : ℕ → Bool) (b : ℕ) (bs : List ℕ) → p b ≡ true → list_all p bs ≡ true
    → list_all p (b ∷ bs) ≡ true
both_pass p b bs e a = rw e a

ended_all : (p : ℕ → Bool) (b : ℕ) (t : List ℕ) → p b ≡ true → list_all p t ≡ true
    → list_all p (ended_by b t) ≡ true
ended_all p b [] e a = by (is_loose b) where
  by : (x : Bool) → list_all p (cond x [] (b ∷ [])) ≡ true
  by true = refl
  by false = both_pass p b [] e refl
ended_all p b (c ∷ cs) e a = both_pass p b (c ∷ cs) e a

trimmed_all : (p : ℕ → Bool) (v : List ℕ) → list_all p v ≡ true → list_all p (trimmed v) ≡ true
trimmed_all p [] a = refl
trimmed_all p (b ∷ bs) a = let both = and_both (p b) (list_all p bs) a in
    ended_all p b (trimmed bs) both.0 (trimmed_all p bs both.1)

low_loose : (b : ℕ) → is_loose b ≡ true → b < 128
low_loose b e = grind (arith, nat_tests)

ended_utf8 : (pre : List ℕ) (b : ℕ) (t : List ℕ) → IsUtf8 ((pre ++ b ∷ []) ++ t)
    → IsUtf8 (pre ++ ended_by b t)
ended_utf8 pre b [] u = by (is_loose b) refl where
  whole : IsUtf8 (pre ++ b ∷ [])
  whole = subst IsUtf8 (append_assoc pre (b ∷ []) []) u

  by : (x : Bool) → is_loose b ≡ x → IsUtf8 (pre ++ cond x [] (b ∷ []))
  by true e = subst IsUtf8 (sym (append-nil pre))
      (around pre b [] (low_loose b e) whole).0
  by false e = whole
ended_utf8 pre b (c ∷ cs) u = subst IsUtf8 (append_assoc pre (b ∷ []) (c ∷ cs)) u

trimmed_utf8 : (pre v : List ℕ) → IsUtf8 (pre ++ v) → IsUtf8 (pre ++ trimmed v)
trimmed_utf8 pre [] u = u
trimmed_utf8 pre (b ∷ bs) u = ended_utf8 pre b (trimmed bs) (trimmed_utf8 (pre ++ b ∷ []) bs
    (subst IsUtf8 (sym (append_assoc pre (b ∷ []) bs)) u))

-- ---- a comment

ended_sign : (t : List ℕ) → ended_by 35 t ≡ 35 ∷ t
ended_sign [] = refl
ended_sign (c ∷ cs) = refl

sign_note : (t : List ℕ) → trimmed t ≡ t → list_all is_in_comment t ≡ true → IsUtf8 (35 ∷ t)
    → IsNote (35 ∷ t)
sign_note t e a u = record {
  kind = Comment;
  stays = refl;
  front = λ rest. subst (λ (n : ℕ). IsFront false (35 ∷ (t ++ 10 ∷ rest)) (Skip Comment n))
      (one_more (length t)) (comment refl (run_all is_in_comment t (10 ∷ rest) a refl));
  same = ap (ended_by 35) e ∙ ended_sign t;
  utf8 = u;
  no_blank = λ rest. refl;
}

comment_note : (v : List ℕ) → list_all is_in_comment v ≡ true → IsUtf8 (35 ∷ v)
    → IsNote (note_text (35 ∷ v))
comment_note v a u = subst IsNote (sym (ended_sign (trimmed v))) (sign_note (trimmed v)
    (trimmed_twice v) (trimmed_all is_in_comment v a) (trimmed_utf8 (35 ∷ []) v u))

-- ---- an annotation

run_taken : {p : ℕ → Bool} {bs : List ℕ} {n : ℕ} → IsRun p bs n → list_all p (take n bs) ≡ true
run_taken (run_ends h) = refl
run_taken {p = p} (run_more {b = b} {n = n} {bs = bs} h r) =
    subst (λ (k : ℕ). list_all p (take k (b ∷ bs)) ≡ true) (sym (one_more n))
    (both_pass p b (take n bs) h (run_taken r))

run_length : {p : ℕ → Bool} {bs : List ℕ} {n : ℕ} → IsRun p bs n → length (take n bs) ≡ n
run_length (run_ends h) = refl
run_length (run_more {b = b} {n = n} {bs = bs} h r) =
    subst (λ (k : ℕ). length (take k (b ∷ bs)) ≡ k) (sym (one_more n)) (ap suc (run_length r))

run_stops : {p : ℕ → Bool} {bs : List ℕ} {n : ℕ} → IsRun p bs n → begins p (drop n bs) ≡ false
run_stops (run_ends h) = h
run_stops {p = p} (run_more {b = b} {n = n} {bs = bs} h r) =
    subst (λ (k : ℕ). begins p (drop k (b ∷ bs)) ≡ false) (sym (one_more n)) (run_stops r)

-- the bytes of an annotation
abbrev annotated : List ℕ → List ℕ → List ℕ → ℕ → List ℕ
annotated w t body c = 64 ∷ (w ++ (t ++ 123 ∷ (body ++ c ∷ [])))

abbrev annotated_on : List ℕ → List ℕ → List ℕ → ℕ → List ℕ → List ℕ
annotated_on w t body c rest = 64 ∷ (w ++ (t ++ 123 ∷ (body ++ c ∷ rest)))

on_seam : (w t body : List ℕ) (c : ℕ) (rest : List ℕ)
    → annotated w t body c ++ rest ≡ annotated_on w t body c rest
on_seam w t body c rest = ap (λ (x : List ℕ). 64 ∷ x)
    (append_assoc w (t ++ 123 ∷ (body ++ c ∷ [])) rest ∙ ap (λ (x : List ℕ). w ++ x)
    (append_assoc t (123 ∷ (body ++ c ∷ [])) rest ∙ ap (λ (x : List ℕ). t ++ 123 ∷ x)
    (append_assoc body (c ∷ []) rest)))

no_word_tab : (t rest : List ℕ) → list_all is_tab t ≡ true
    → begins is_word_byte (t ++ 123 ∷ rest) ≡ false
no_word_tab [] rest a = refl
no_word_tab (b ∷ bs) rest a = tab b (and_both (is_tab b) (list_all is_tab bs) a).0 where
  tab : (b : ℕ) → is_tab b ≡ true → is_word_byte b ≡ false
  tab b e = grind (arith, nat_tests)

annotated_length : (w t body : List ℕ) (c : ℕ)
    → length w + length t + length body + 3 ≡ length (annotated w t body c)
annotated_length w t body c = omega (
  arith,
  length-append w (t ++ 123 ∷ (body ++ c ∷ [])),
  length-append t (123 ∷ (body ++ c ∷ [])),
  length-append body (c ∷ []),
)

annotated_front : (w t body : List ℕ) (c : ℕ) (rest : List ℕ) → list_all is_word_byte w ≡ true
    → list_all is_tab t ≡ true → list_all is_in_annotation body ≡ true
    → is_in_annotation c ≡ false
    → IsFront false (annotated w t body c ++ rest) (Skip Annotation (length (annotated w t body c)))
annotated_front w t body c rest aw at ab nc =
    let inner = body ++ c ∷ rest in
    let gap = t ++ 123 ∷ inner in
    let tabs : IsRun is_tab (drop (length w) (w ++ gap)) (length t) =
    subst (λ (x : List ℕ). IsRun is_tab x (length t)) (sym (drop-append_seam w gap))
    (run_all is_tab t (123 ∷ inner) at refl) in
    let opened : drop (length t) (drop (length w) (w ++ gap)) ≡ 123 ∷ inner =
    ap (drop (length t)) (drop-append_seam w gap) ∙ drop-append_seam t (123 ∷ inner) in
    let front = annotation {c = c} refl
    (run_all is_word_byte w gap aw (no_word_tab t inner at)) tabs opened refl
    (run_all is_in_annotation body (c ∷ rest) ab nc) (drop-append_seam body (c ∷ rest)) in
    subst (λ (n : ℕ). IsFront false (annotated w t body c ++ rest) (Skip Annotation n))
    (annotated_length w t body c)
    (subst (λ (x : List ℕ). IsFront false x
    (Skip Annotation (length w + length t + length body + 3))) (sym (on_seam w t body c rest))
    front)

annotated_note : (w t body : List ℕ) (c : ℕ) → list_all is_word_byte w ≡ true
    → list_all is_tab t ≡ true → list_all is_in_annotation body ≡ true
    → is_in_annotation c ≡ false → IsUtf8 (annotated w t body c) → IsNote (annotated w t body c)
annotated_note w t body c aw at ab nc u = record {
  kind = Annotation;
  stays = refl;
  front = λ rest. annotated_front w t body c (10 ∷ rest) aw at ab nc;
  same = refl;
  utf8 = u;
  no_blank = λ rest. refl;
}

-- ---- each piece that is kept

abbrev MayBeNote : SkipKind → List ℕ → Type 0
MayBeNote Blank v = Unit {0}
MayBeNote Comment v = IsNote (note_text v)
MayBeNote Annotation v = IsNote (note_text v)

piece_note : {naming : Bool} {bs : List ℕ} {kind : SkipKind} {n : ℕ}
    → IsFront naming bs (Skip kind n) → IsUtf8 (take n bs) → MayBeNote kind (take n bs)
piece_note (blanks h r) u = tt
piece_note (comment {b = b} {n = n} {bs = bs} e r) u =
    let one : take (1 + n) (b ∷ bs) ≡ 35 ∷ take n bs =
    ap (λ (k : ℕ). take k (b ∷ bs)) (one_more n) ∙ ap (λ (x : ℕ). x ∷ take n bs) e in
    subst (λ (v : List ℕ). IsNote (note_text v)) (sym one)
    (comment_note (take n bs) (run_taken r) (subst IsUtf8 one u))
piece_note (annotation {a = a} {o = o} {c = c} {w = w} {t = t} {n = n} {bs = bs} {body = body}
    {rest = rest} ea rs rt e eo rb ec) u =
    let ws = take w bs in
    let tabs = take t (drop w bs) in
    let inner = take n body in
    let whole : a ∷ bs ≡ annotated ws tabs inner c ++ rest =
    parts a o c ws (drop w bs) tabs (drop t (drop w bs)) inner (drop n body) bs body rest ea e
    (sym (take-append-drop w bs)) (sym (take-append-drop t (drop w bs))) eo
    (sym (take-append-drop n body)) ec in
    let size : w + t + n + 3 ≡ length (annotated ws tabs inner c) =
    omega (
      arith,
      annotated_length ws tabs inner c,
      run_length rs,
      run_length rt,
      run_length rb,
    ) in
    let same : take (w + t + n + 3) (a ∷ bs) ≡ annotated ws tabs inner c =
    ap (λ (k : ℕ). take k (a ∷ bs)) size
    ∙ ap (take (length (annotated ws tabs inner c))) whole
    ∙ take-append_seam (annotated ws tabs inner c) rest in
    subst (λ (v : List ℕ). IsNote (note_text v)) (sym same)
    (annotated_note ws tabs inner c (run_taken rs) (run_taken rt) (run_taken rb)
    (closes c rest (drop n body) ec (run_stops rb)) (subst IsUtf8 same u)) where
      closes : (c : ℕ) (rest x : List ℕ) → x ≡ c ∷ rest → begins is_in_annotation x ≡ false
          → is_in_annotation c ≡ false
      closes c rest x e h = subst (λ (y : List ℕ). begins is_in_annotation y ≡ false) e h

      parts : (a o c : ℕ) (ws gap tabs opened inner behind bs body rest : List ℕ) → a ≡ 64
          → opened ≡ o ∷ body → bs ≡ ws ++ gap → gap ≡ tabs ++ opened → o ≡ 123
          → body ≡ inner ++ behind → behind ≡ c ∷ rest
          → a ∷ bs ≡ annotated ws tabs inner c ++ rest
      parts a o c ws gap tabs opened inner behind bs body rest e1 e2 e3 e4 e5 e6 e7 =
          let q : a ∷ bs ≡ annotated_on ws tabs inner c rest = cc in
          q ∙ sym (on_seam ws tabs inner c rest)

-- ---- the text of a piece

pub text_at : (whole pre v rest : List ℕ) (p : Piece) → whole ≡ pre ++ (v ++ rest)
    → p.start ≡ length pre → p.end ≡ p.start + length v
    → take (p.end - p.start) (drop p.start whole) ≡ v
text_at whole pre v rest p w s e =
    let n : p.end - p.start ≡ length v = omega (arith, e) in
    ap (λ (j : ℕ). take j (drop p.start whole)) n
    ∙ ap (λ (i : ℕ). take (length v) (drop i whole)) s
    ∙ ap (λ (x : List ℕ). take (length v) (drop (length pre) x)) w
    ∙ ap (take (length v)) (drop-append_seam pre (v ++ rest)) ∙ take-append_seam v rest

-- all of a file
further : (p : At) (pre bs whole : List ℕ) (n : ℕ) → length pre ≡ p.start → whole ≡ pre ++ bs
    → (length (pre ++ take n bs) ≡ (place_after p (take n bs)).start)
    × (whole ≡ (pre ++ take n bs) ++ drop n bs)
further p pre bs whole n l e = (
  omega (arith, length-append pre (take n bs), place_start (take n bs) p, l),
  e ∙ ap (λ (x : List ℕ). pre ++ x) (sym (take-append-drop n bs))
      ∙ sym (append_assoc pre (take n bs) (drop n bs)),
)

kept_notes : (kind : SkipKind) (whole pre v rest : List ℕ) (start n : ℕ) (ps : List SpelledPiece)
    → length pre ≡ start → length v ≡ n → whole ≡ pre ++ (v ++ rest) → MayBeNote kind v
    → AllNotes (notes whole (kept ps))
    → AllNotes (notes whole (kept (record { kind = kind; start = start; end = start + n } ∷ ps)))
kept_notes Blank whole pre v rest start n ps l k e h r = r
kept_notes Comment whole pre v rest start n ps l k e h r = (
  subst (λ (x : List ℕ). IsNote
      (note_text x)) (sym (text_at whole pre v rest (record { start = start; end = start + n }) e
      (sym l) (ap (λ (j : ℕ). start + j) (sym k)))) h,
  r,
)
kept_notes Annotation whole pre v rest start n ps l k e h r = (
  subst (λ (x : List ℕ). IsNote
      (note_text x)) (sym (text_at whole pre v rest (record { start = start; end = start + n }) e
      (sym l) (ap (λ (j : ℕ). start + j) (sym k)))) h,
  r,
)

pub file_notes : {file : List ℕ} {m : Mode} {p : At} {bs : List ℕ} {ts : List Token}
    {ps : List SpelledPiece} → Cuts file m p bs ts ps → IsUtf8 bs → (pre whole : List ℕ)
    → length pre ≡ p.start → whole ≡ pre ++ bs → AllNotes (notes whole (kept ps))
file_notes no_more u pre whole l e = tt
file_notes {m = m} {p = p} {bs = bs} (skips {ps = ps} {kind = kind} {n = n} h r) u pre whole l e =
    let after : IsUtf8 (drop n bs) = subst (LeavesText bs) (fronts.only (is_naming m) bs
    (Skip kind n) h) (front_leaves (is_naming m) bs u) in
    let fit = fits fronts (is_naming m) bs (Skip kind n) h in
    let on = further p pre bs whole n l e in
    kept_notes kind whole pre (take n bs) (drop n bs) p.start n ps l
    (length-take-le n bs fit.1)
    (e ∙ ap (λ (x : List ℕ). pre ++ x) (sym (take-append-drop n bs)))
    (piece_note h (front_text n bs fit.1 u after))
    (file_notes r after (pre ++ take n bs) whole on.0 on.1)
file_notes {m = m} {p = p} {bs = bs} (writes {n = n} {kind = kind} h r) u pre whole l e =
    let on = further p pre bs whole n l e in
    file_notes r (subst (LeavesText bs) (fronts.only (is_naming m) bs (Written kind n) h)
    (front_leaves (is_naming m) bs u)) (pre ++ take n bs) whole on.0 on.1
file_notes {m = m} {p = p} {bs = bs} (counts {v = v} {n = n} h r) u pre whole l e =
    let on = further p pre bs whole n l e in
    file_notes r (subst (LeavesText bs) (fronts.only (is_naming m) bs (Int v n) h)
    (front_leaves (is_naming m) bs u)) (pre ++ take n bs) whole on.0 on.1
file_notes {m = m} {p = p} {bs = bs} (quotes {v = v} {n = n} h r) u pre whole l e =
    let on = further p pre bs whole n l e in
    let left = subst (LeavesText bs) (fronts.only (is_naming m) bs (Text v n) h)
    (front_leaves (is_naming m) bs u) in
    file_notes r left.1 (pre ++ take n bs) whole on.0 on.1
file_notes {m = m} {p = p} {bs = bs} (documents {v = v} {n = n} {k = k} h r) u pre whole l e =
    let on = further p pre bs whole (n + 1 + k) l e in
    let left = subst (LeavesText bs) (fronts.only (is_naming m) bs (Document v n k) h)
    (front_leaves (is_naming m) bs u) in
    file_notes r left.1 (pre ++ take (n + 1 + k) bs) whole on.0 on.1
