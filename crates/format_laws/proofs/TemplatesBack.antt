-- What is laid out of a template with its notes is read and parsed back to the same template but
-- for
-- places, and the notes fall to the same statements again.
use Rattle.std.proofs.Common.{◌≡◌, ◌∙◌, ℕ, ◌≤◌, true, false, List, [], ◌∷◌, ◌++◌, Some, zero, suc, map, take, drop, length, refl, sym, ap, subst, arith, append_assoc, length-append}
use Rattle.std.specs.Prelude.{codes}
use Rattle.std.proofs.lemmas.List.{append-nil, map-append, take-append-drop}
use Rattle.std.proofs.lemmas.Bool.Decides.{nat_tests}
use Rattle.path_tree.specs.Grammar.{is_name}
use Rattle.pan_ast.specs.declared.place.Place.{Place}
use Rattle.pan_ast.specs.declared.sort.Sort.{Sort}
use Rattle.pan_ast.specs.declared.sort.Sort.TheVariants as sorts
use Rattle.pan_ast.specs.declared.template.TemplateKind.{TemplateKind}
use Rattle.pan_ast.specs.declared.template.TemplateKind.TheVariants as template_kinds
use Rattle.pan_ast.specs.declared.token.Token.{Token}
use Rattle.pan_ast.specs.declared.token.TokenKind.TheVariants as kinds
use Rattle.pan_ast.specs.Sorts.{is_word, sort}
use Rattle.pan_ast.specs.Templates.{Statement, Template}
use Rattle.pan_lexer.specs.Bytes.{begins, is_blank, is_name_byte}
use Rattle.pan_lexer.specs.Lexed.{advance, place_after, token}
use Rattle.pan_lexer.specs.Skipped.{kept}
use Rattle.pan_lexer.specs.Spelled.{blanks, no_more, piece, run_ends, skips, writes}
use Rattle.pan_lexer.specs.declared.parts.SkipKind.TheVariants.{Blank}
use Rattle.pan_lexer.specs.declared.pieces.Piece.{Piece}
use Rattle.pan_grammar.specs.Grammar.{Tokens}
use Rattle.pan_grammar.specs.Templates.{IsNamed, IsStatements, IsTemplate, a_statement, is_named, kind_of, no_statement, of_kind, ordinary, template}
use Rattle.pan_format.specs.Bare.{nowhere, bare, bare_statement}
use Rattle.pan_format.specs.Layout.{count_before, set_off, with_notes}
use Rattle.pan_format.specs.Notes.{Note, ends, notes, notes_text}
use Rattle.pan_format.specs.Statements.{form_text, header_text, kind_text, statement_text}
use Rattle.pan_format.proofs.Composed.{name_read}
use Rattle.pan_format.proofs.Written.{word_front}
use Rattle.format_laws.proofs.Reading.{Behind, Follows, Holding, Reads, ReadsFirst, Stop, behind, ended, holding, so, stop}
use Rattle.format_laws.proofs.Fronts.{blank, joins, mapped, stop_then}
use Rattle.format_laws.proofs.Balanced.{Ended, last, over, word_before}
use Rattle.format_laws.proofs.Noted.{AllNotes}
use Rattle.format_laws.proofs.Placed.{AllBefore, AllFrom, NotesThen, Placed, before_on, from_append, from_on, laid_turn, notes_again, notes_same, placed, texts_of}
use Rattle.format_laws.proofs.Spelt.{AreSpelt, IsNamed as IsNameText, left, name_in, statement_found}
use Rattle.format_laws.proofs.StatementsBack.{StatementThen, statement_again}

first_mapped : {file k : List ℕ} {P Q : Follows}
    → ((ts : List Token) (ps : List Piece) → P ts ps → Q ts ps) → ReadsFirst file k P
    → ReadsFirst file k Q
first_mapped f r = record { read = λ p. let a = r.read p in (a.0, a.1, a.2, f a.0 (kept a.1) a.3) }

-- the end of a file
end_then : {file : List ℕ} {P : Follows} → ((t : Token) → sort t ≡ sorts.End → P (t ∷ []) [])
    → Reads file [] P
end_then {file = file} f = record {
  read = λ p.
      (token file kinds.End p 0 [] ∷ [], [], no_more, f (token file kinds.End p 0 []) refl);
}

-- ---- headers

no_blank : (b : ℕ) → is_name_byte b ≡ true → is_blank b ≡ false
no_blank b h = grind (arith, nat_tests)

name_then : {file k : List ℕ} {P : Follows} (v : List ℕ) → IsNameText v
    → begins is_name_byte k ≡ false → Reads file k P
    → ReadsFirst file (codes "template" ++ 32 ∷ (v ++ k))
    (Behind sorts.Template (Holding sorts.Name v P))
name_then [] h e r = absurd h
name_then {file = file} {k = k} (b ∷ bs) h e r = record {
  read = λ p.
      let p1 = place_after p (codes "template") in
      let p2 = advance p1 32 in
      let a = r.read (place_after p2 (b ∷ bs)) in
      let named = name_read file p2 b bs k a.0 a.1 h.0 h.1 e a.2 in (
        token file kinds.Word p 8 (codes "template") ∷ token file kinds.Name p2 (length (b ∷ bs))
            (b ∷ bs) ∷ a.0,
        piece Blank p1 1 ∷ a.1,
        writes (word_front 116 (codes "emplate") (32 ∷ ((b ∷ bs) ++ k)) refl refl refl)
            (skips (blanks refl (run_ends (no_blank b h.0))) named),
        behind refl (holding refl refl a.3),
      );
}

object_then : {file k : List ℕ} {P : Follows} → begins is_blank k ≡ false → ReadsFirst file k P
    → ReadsFirst file (codes "object" ++ 32 ∷ k) (Behind sorts.Object P)
object_then {file = file} {k = k} e r = record {
  read = λ p.
      let p1 = place_after p (codes "object") in
      let a = r.read (advance p1 32) in (
        token file kinds.Word p 6 (codes "object") ∷ a.0,
        piece Blank p1 1 ∷ a.1,
        writes
            (word_front 111 (codes "bject") (32 ∷ k) refl refl refl)
            (skips (blanks refl (run_ends e)) a.2),
        behind refl a.3,
      );
}

structure_then : {file k : List ℕ} {P : Follows} → begins is_blank k ≡ false → ReadsFirst file k P
    → ReadsFirst file (codes "structure" ++ 32 ∷ k) (Behind sorts.Structure P)
structure_then {file = file} {k = k} e r = record {
  read = λ p.
      let p1 = place_after p (codes "structure") in
      let a = r.read (advance p1 32) in (
        token file kinds.Word p 9 (codes "structure") ∷ a.0,
        piece Blank p1 1 ∷ a.1,
        writes
            (word_front 115 (codes "tructure") (32 ∷ k) refl refl refl)
            (skips (blanks refl (run_ends e)) a.2),
        behind refl a.3,
      );
}

unique_then : {file k : List ℕ} {P : Follows} → begins is_blank k ≡ false → ReadsFirst file k P
    → ReadsFirst file (codes "unique" ++ 32 ∷ k) (Behind sorts.Unique P)
unique_then {file = file} {k = k} e r = record {
  read = λ p.
      let p1 = place_after p (codes "unique") in
      let a = r.read (advance p1 32) in (
        token file kinds.Word p 6 (codes "unique") ∷ a.0,
        piece Blank p1 1 ∷ a.1,
        writes
            (word_front 117 (codes "nique") (32 ∷ k) refl refl refl)
            (skips (blanks refl (run_ends e)) a.2),
        behind refl a.3,
      );
}

declaration_then : {file k : List ℕ} {P : Follows} → begins is_blank k ≡ false → ReadsFirst file k P
    → ReadsFirst file (codes "declaration" ++ 32 ∷ k) (Behind sorts.Declaration P)
declaration_then {file = file} {k = k} e r = record {
  read = λ p.
      let p1 = place_after p (codes "declaration") in
      let a = r.read (advance p1 32) in (
        token file kinds.Word p 11 (codes "declaration") ∷ a.0,
        piece Blank p1 1 ∷ a.1,
        writes
            (word_front 100 (codes "eclaration") (32 ∷ k) refl refl refl)
            (skips (blanks refl (run_ends e)) a.2),
        behind refl a.3,
      );
}

headed : {file k : List ℕ} {P : Follows} (v : List ℕ) → IsNameText v → Reads file k P
    → ReadsFirst file (codes "template " ++ v ++ codes ";\n" ++ k)
    (Behind sorts.Template (Holding sorts.Name v (Stop (suc (length k)) P)))
headed {file = file} {k = k} {P = P} v h r =
    subst (λ (t : List ℕ). ReadsFirst file t (Behind sorts.Template
    (Holding sorts.Name v (Stop (suc (length k)) P))))
    (sym (append_assoc (codes "template " ++ v) (codes ";\n") k
    ∙ append_assoc (codes "template ") v (59 ∷ 10 ∷ k)))
    (name_then {k = 59 ∷ 10 ∷ k} v h refl (stop_then r))

set_off_then : {file : List ℕ} {P : Follows} (k : List ℕ) → Reads file k P
    → Reads file (set_off k) P
set_off_then [] r = r
set_off_then (b ∷ bs) r = blank 10 refl r

abbrev bared : TemplateKind → List ℕ → List Statement → Template
bared kind v xs = record {
  kind = kind;
  name = v;
  name_place = nowhere;
  place =
      nowhere;
  statements = xs;
}

template_bare : (kind : TemplateKind) (v w : List ℕ) (xs ys : List Statement) → v ≡ w → xs ≡ ys
    → bared kind v xs ≡ bared kind w ys
template_bare kind v w xs ys e q = cc

statements_bare : (x y : Statement) (xs ys : List Statement) → bare_statement y ≡ bare_statement x
    → map bare_statement ys ≡ map bare_statement xs
    → bare_statement y ∷ map bare_statement ys ≡ bare_statement x ∷ map bare_statement xs
statements_bare x y xs ys e q = cc

-- ---- notes

pub both_texts : (ms ns ls xs : List Note) → texts_of ms ≡ texts_of ns → texts_of ls ≡ texts_of xs
    → texts_of (ms ++ ls) ≡ texts_of (ns ++ xs)
both_texts ms ns ls xs e q =
    let one = map-append (λ (n : Note). n.text) ms ls in
    let two = map-append (λ (n : Note). n.text) ns xs in
    one ∙ ap (λ (vs : List (List ℕ)). vs ++ texts_of ls) e
    ∙ ap (λ (vs : List (List ℕ)). texts_of ns ++ vs) q ∙ sym two

pub notes_taken : (c : ℕ) (ns : List Note) → AllNotes ns → AllNotes (take c ns)
notes_taken zero ns h = tt
notes_taken (suc c) [] h = tt
notes_taken (suc c) (n ∷ ns) h = (h.0, notes_taken c ns h.1)

pub notes_left : (c : ℕ) (ns : List Note) → AllNotes ns → AllNotes (drop c ns)
notes_left zero ns h = h
notes_left (suc c) [] h = tt
notes_left (suc c) (n ∷ ns) h = notes_left c ns h.1

module _ (May : ℕ → Tokens → Type 0) where
  -- What is known of tokens and pieces that w is read as, to the end of a file: they parse to these
  -- statements but for places, have the texts of these notes, and are laid out as w again.
  pub record Laid (xs : List Statement) (w : List ℕ) (ns : List Note) (us : Tokens)
      (ps : List Piece) : Type 0 where
    pub statements : List Statement
    pub parses : IsStatements May us statements
    pub alike : map bare_statement statements ≡ map bare_statement xs
    pub read_again : List Note
    pub same : texts_of read_again ≡ texts_of ns
    pub noted : (pre whole : List ℕ) → whole ≡ pre ++ w → length whole ≡ ended us
        → notes whole ps ≡ read_again
    pub from : AllFrom (length w) (ended us) read_again
    pub settled : with_notes (map statement_text xs) (ends us) read_again ≡ w

  -- the same behind a header, whose semicolon is the first that ends anything
  pub record Headed (xs : List Statement) (w : List ℕ) (ns : List Note) (us : Tokens)
      (ps : List Piece) : Type 0 where
    pub rest : Tokens
    pub end : Ended (suc (length (set_off w))) us rest
    pub laid : Laid xs w ns rest ps

  abbrev NamedSo : TemplateKind → Template → List ℕ → List Note → Follows
  NamedSo kind z w ns us ps = (p : Place) → (y : Template) × IsNamed May kind p us y
      × (bare y ≡ bare z) × Headed z.statements w ns us ps

  abbrev pub TemplateSo : Template → List ℕ → List Note → Follows
  TemplateSo z w ns us ps = (y : Template) × IsTemplate May us y × (bare y ≡ bare z)
      × Headed z.statements w ns us ps

  abbrev AtEnd : Follows
  AtEnd us ps = IsStatements May us [] × (ps ≡ [])

  end_laid : (ns : List Note) → AllNotes ns → (us : Tokens) (ps : List Piece)
      → NotesThen ns [] AtEnd us ps → Laid [] (notes_text ns) ns us ps
  end_laid ns h us ps q =
      let r = placed {P = AtEnd} ns [] us ps h q in
      record {
        statements = [];
        parses = r.behind.0;
        alike = refl;
        read_again = r.read_again;
        same = r.same;
        noted = λ pre whole w l.
            r.noted pre whole (w ∙ ap (λ (x : List ℕ). pre ++ x)
            (sym (append-nil (notes_text ns)))) l
            ∙ ap (λ (x : List Piece). r.read_again ++ notes whole x) r.behind.1
            ∙ append-nil r.read_again;
        from = subst (λ (x : List ℕ). AllFrom (length x) (ended us) r.read_again)
            (append-nil (notes_text ns)) r.from;
        settled = notes_same r.read_again ns r.same;
      }

  -- the notes before a statement start before its semicolon ends, and those behind it do not
  before_semicolon : (x : Statement) (w : List ℕ) (us rest : Tokens) (ms : List Note)
      → (h : Ended (suc (length w)) us rest)
      → AllBefore (length (statement_text x ++ w)) (ended us) ms
      → AllBefore 0 h.semicolon.end ms
  before_semicolon x w us rest ms h b =
      let last : ended us ≡ ended rest = ap (λ (f : List ℕ × ℕ). f.1) h.finds in
      before_on (length (statement_text x ++ w)) (ended us) h.semicolon.end ms
      (omega (
        arith,
        last,
        h.counts,
        length-append (statement_text x) w,
        length-append (form_text x.form) (59 ∷ 10 ∷ []),
      )) b

  behind_semicolon : (n : ℕ) (w : List ℕ) (us rest : Tokens) (ls : List Note)
      → length w ≤ n → (h : Ended n us rest) → AllFrom (length w) (ended rest) ls
      → AllFrom 0 h.semicolon.end ls
  behind_semicolon n w us rest ls le h f =
      from_on (length w) 0 (ended rest) h.semicolon.end ls (omega (arith, h.counts, le)) f

  statement_laid : (x : Statement) (xs : List Statement) (w : List ℕ) (front noted : List Note)
      → (us : Tokens) (ps : List Piece) → (r : Placed front (statement_text x ++ w)
      (StatementThen May (suc (length w)) x (Laid xs w noted)) us ps)
      → StatementThen May (suc (length w)) x (Laid xs w noted) us r.left
      → Laid (x ∷ xs) (notes_text front ++ statement_text x ++ w) (front ++ noted) us ps
  statement_laid x xs w front noted us ps r (so {rest = rest} {y = y} h b l) =
      let text = statement_text x in
      let whole_text = notes_text front ++ text ++ w in
      let seam = append_assoc (notes_text front) text w in
      let last : ended us ≡ ended rest = ap (λ (f : List ℕ × ℕ). f.1) h.end.finds in
      let first : ends us ≡ h.end.semicolon.end ∷ ends rest =
      ap (λ (f : List ℕ × ℕ). f.0) h.end.finds in
      record {
        statements = y ∷ l.statements;
        parses = a_statement h.is l.parses;
        alike = statements_bare x y xs l.statements b l.alike;
        read_again = r.read_again ++ l.read_again;
        same = both_texts r.read_again front l.read_again noted r.same l.same;
        noted = λ pre whole e q.
            let at = e ∙ ap (λ (t : List ℕ). pre ++ t) seam in
            r.noted pre whole at q
            ∙ ap (λ (ns : List Note). r.read_again ++ ns)
            (l.noted (pre ++ notes_text front ++ text) whole
            (at ∙ sym (append_assoc (pre ++ notes_text front) text w
            ∙ append_assoc pre (notes_text front) (text ++ w))) (q ∙ last));
        from = from_append (length whole_text) (ended us) r.read_again l.read_again
            (subst (λ (t : List ℕ). AllFrom (length t) (ended us) r.read_again) (sym seam) r.from)
            (from_on (length w) (length whole_text) (ended rest) (ended us) l.read_again
            (omega (arith, last, length-append (notes_text front ++ text) w)) l.from);
        settled = ap (λ (es : List ℕ). with_notes (map statement_text (x ∷ xs)) es
            (r.read_again ++ l.read_again)) first
            ∙ laid_turn (λ t. t) h.end.semicolon.end (ends rest) r.read_again l.read_again text
            (map statement_text xs) (notes_text front) w
            (before_semicolon x w us rest r.read_again h.end r.before)
            (behind_semicolon (suc (length w)) w us rest l.read_again (omega arith) h.end l.from)
            (notes_same r.read_again front r.same) l.settled;
      }

  statement_so : (x : Statement) (xs : List Statement) (w : List ℕ) (front noted : List Note)
      → AllNotes front → (us : Tokens) (ps : List Piece)
      → NotesThen front (statement_text x ++ w)
      (StatementThen May (suc (length w)) x (Laid xs w noted)) us ps
      → Laid (x ∷ xs) (notes_text front ++ statement_text x ++ w) (front ++ noted) us ps
  statement_so x xs w front noted h us ps q =
      let r = placed {P = StatementThen May (suc (length w)) x (Laid xs w noted)} front
      (statement_text x ++ w) us ps h q in
      statement_laid x xs w front noted us ps r r.behind

  named_so : (kind : TemplateKind) (n : Token) (q : Place) (xs : List Statement) (w : List ℕ)
      (ns : List Note) → is_name n.value ≡ true → (us : Tokens) (ps : List Piece)
      → Holding sorts.Name n.value (Stop (suc (length (set_off w))) (Laid xs w ns)) us ps
      → NamedSo kind (template (record { kind = kind; place = q; name = n }) xs) w ns us ps
  named_so kind n q xs w ns e us ps
      (holding {t = t} s v (stop {t = k} {ts = ts} z c r)) p = (
        template (record { kind = kind; place = p; name = t }) r.statements,
        is_named s (ap is_name v ∙ e) z r.parses,
        template_bare kind t.value n.value (map bare_statement r.statements)
            (map bare_statement xs) v r.alike,
        record {
          rest = ts;
          end = record {
            semicolon = k;
            finds = over sorts.Name (refl, refl, refl, refl) t (k ∷ ts) 0 s ∙ last k ts z;
            counts = c;
          };
          laid = r;
        },
      )

  headed_before : {xs : List Statement} {w : List ℕ} {ns : List Note} {us : Tokens}
      {ps : List Piece} (s : Sort) → is_word s ≡ true → {t : Token} → sort t ≡ s
      → Headed xs w ns us ps → Headed xs w ns (t ∷ us) ps
  headed_before s i e h = record { rest = h.rest; end = word_before s i e h.end; laid = h.laid }

  ordinary_so : (z : Template) (w : List ℕ) (ns : List Note) (us : Tokens) (ps : List Piece)
      → Behind sorts.Template (NamedSo template_kinds.Ordinary z w ns) us ps
      → TemplateSo z w ns us ps
  ordinary_so z w ns us ps (behind {t = t} e r) = let a = r t.place in
      (a.0, ordinary e a.1, a.2, headed_before sorts.Template refl e a.3)

  kind_word : (s : Sort) (kind : TemplateKind) → kind_of s ≡ Some kind → is_word s ≡ true
  kind_word sorts.Object kind e = refl
  kind_word sorts.Structure kind e = refl
  kind_word sorts.Unique kind e = refl
  kind_word sorts.Declaration kind e = refl
  kind_word _ kind e = absurd cc

  kind_so : (s : Sort) (kind : TemplateKind) (z : Template) (w : List ℕ) (ns : List Note)
      → kind_of s ≡ Some kind → (us : Tokens) (ps : List Piece)
      → Behind s (Behind sorts.Template (NamedSo kind z w ns)) us ps → TemplateSo z w ns us ps
  kind_so s kind z w ns k us ps (behind {t = q} e (behind {t = t} o r)) = let a = r q.place in (
    a.0,
    of_kind (ap kind_of e ∙ k) o a.1,
    a.2,
    headed_before s (kind_word s kind k) e (headed_before sorts.Template refl o a.3),
  )

module _ (file : List ℕ) (May : ℕ → Tokens → Type 0)
    (alike : (d : ℕ) (t : Token) (ts us : Tokens) → May d (t ∷ ts) → May d us) where
  at_end : Reads file [] (AtEnd May)
  at_end = end_then (λ t e. (no_statement e, refl))

  statements_again : {ts : Tokens} {xs : List Statement} → IsStatements May ts xs → AreSpelt ts
      → (es : List ℕ) (ns : List Note) → AllNotes ns
      → Reads file (with_notes (map statement_text xs) es ns)
      (Laid May xs (with_notes (map statement_text xs) es ns) ns)
  statements_again (no_statement e) s es ns h =
      mapped (end_laid May ns h) (subst (λ (t : List ℕ). Reads file t
      (NotesThen ns [] (AtEnd May))) (append-nil (notes_text ns)) (notes_again ns h at_end))
  statements_again (a_statement {x = x} {xs = xs} h k) s es ns all =
      let f = statement_found May h s in
      let c = count_before es ns in
      let front = take c ns in
      let noted = drop c ns in
      let w = with_notes (map statement_text xs) (drop 1 es) noted in
      let inner = statement_again file May alike h f.holds
      (statements_again k f.behind (drop 1 es) noted (notes_left c ns all)) in
      subst (λ (xs' : List Note). Reads file (notes_text front ++ statement_text x ++ w)
      (Laid May (x ∷ xs) (notes_text front ++ statement_text x ++ w) xs'))
      (take-append-drop c ns)
      (joins (notes_text front) (statement_text x) w
      (mapped (statement_so May x xs w front noted (notes_taken c ns all))
      (notes_again front (notes_taken c ns all) inner)))

  named_again : {kind : TemplateKind} {p : Place} {ts : Tokens} {z : Template}
      → IsNamed May kind p ts z → AreSpelt ts → (es : List ℕ) (ns : List Note) → AllNotes ns
      → let w = with_notes (map statement_text z.statements) es ns in
      ReadsFirst file (codes "template " ++ z.name ++ codes ";\n" ++ set_off w)
      (Behind sorts.Template (NamedSo May kind z w ns))
  named_again {kind = kind} {p = p} (is_named {n = n} {xs = xs} e q z h) s es ns all =
      let w = with_notes (map statement_text xs) es ns in
      first_mapped (named_behind kind n p xs w ns q)
      (headed n.value (name_in e s) (set_off_then w
      (statements_again h (left (left s)) es ns all))) where
        named_behind : (kind : TemplateKind) (n : Token) (p : Place) (xs : List Statement)
            (w : List ℕ) (ns : List Note) → is_name n.value ≡ true → (us : Tokens)
            (ps : List Piece) → Behind sorts.Template (Holding sorts.Name n.value
            (Stop (suc (length (set_off w))) (Laid May xs w ns))) us ps
            → Behind sorts.Template (NamedSo May kind
            (template (record { kind = kind; place = p; name = n }) xs) w ns) us ps
        named_behind kind n p xs w ns q us ps (behind e r) =
            behind e (named_so May kind n p xs w ns q _ ps r)

  of_kind_again : (s : Sort) (kind : TemplateKind) (z : Template) (w : List ℕ) (ns : List Note)
      → kind_of s ≡ Some kind → z.kind ≡ kind → {k : List ℕ} → begins is_blank k ≡ false
      → ReadsFirst file k (Behind sorts.Template (NamedSo May kind z w ns))
      → ReadsFirst file (kind_text kind ++ k) (TemplateSo May z w ns)
  of_kind_again sorts.Object template_kinds.Object z w ns e q b r =
      first_mapped (kind_so May sorts.Object template_kinds.Object z w ns refl) (object_then b r)
  of_kind_again sorts.Structure template_kinds.Structure z w ns e q b r =
      first_mapped (kind_so May sorts.Structure template_kinds.Structure z w ns refl)
      (structure_then b r)
  of_kind_again sorts.Unique template_kinds.Unique z w ns e q b r =
      first_mapped (kind_so May sorts.Unique template_kinds.Unique z w ns refl) (unique_then b r)
  of_kind_again sorts.Declaration template_kinds.Declaration z w ns e q b r =
      first_mapped (kind_so May sorts.Declaration template_kinds.Declaration z w ns refl)
      (declaration_then b r)
  of_kind_again _ _ z w ns e q b r = absurd cc

  named_kind : {kind : TemplateKind} {p : Place} {ts : Tokens} {z : Template}
      → IsNamed May kind p ts z → z.kind ≡ kind
  named_kind (is_named e q z h) = refl

  regroup : (kind : TemplateKind) (v k : List ℕ)
      → kind_text kind ++ (codes "template " ++ v ++ codes ";\n" ++ k) ≡
      (kind_text kind ++ codes "template " ++ v ++ codes ";\n") ++ k
  regroup template_kinds.Ordinary v k = refl
  regroup template_kinds.Object v k = refl
  regroup template_kinds.Structure v k = refl
  regroup template_kinds.Unique v k = refl
  regroup template_kinds.Declaration v k = refl

  pub template_again : {ts : Tokens} {z : Template} → IsTemplate May ts z → AreSpelt ts
      → (es : List ℕ) (ns : List Note) → AllNotes ns
      → let w = with_notes (map statement_text z.statements) es ns in
      ReadsFirst file (header_text z ++ set_off w) (TemplateSo May z w ns)
  template_again {z = z} (ordinary e h) s es ns all =
      let w = with_notes (map statement_text z.statements) es ns in
      subst (λ (kind : TemplateKind). ReadsFirst file
      ((kind_text kind ++ codes "template " ++ z.name ++ codes ";\n") ++ set_off w)
      (TemplateSo May z w ns)) (sym (named_kind h))
      (first_mapped (ordinary_so May z w ns) (named_again h (left s) es ns all))
  template_again {z = z} (of_kind {q = q} {kind = kind} e o h) s es ns all =
      let w = with_notes (map statement_text z.statements) es ns in
      let k = set_off w in
      subst (λ (kind : TemplateKind). ReadsFirst file
      ((kind_text kind ++ codes "template " ++ z.name ++ codes ";\n") ++ k)
      (TemplateSo May z w ns)) (sym (named_kind h))
      (subst (λ (t : List ℕ). ReadsFirst file t (TemplateSo May z w ns))
      (regroup kind z.name k) (of_kind_again (sort q) kind z w ns e (named_kind h)
      {k = codes "template " ++ z.name ++ codes ";\n" ++ k} refl
      (named_again h (left (left s)) es ns all)))
