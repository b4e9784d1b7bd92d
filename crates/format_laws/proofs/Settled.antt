-- The layout of a template with its notes is read back, and has itself as its layout.
use Rattle.std.proofs.Common.{◌≡◌, ◌∙◌, ℕ, suc, ◌+◌, ◌≤◌, false, List, [], ◌∷◌, ◌++◌, length, map, take, drop, refl, sym, ap, subst, arith, inl, inr, append_assoc, length-append}
use Rattle.std.specs.Prelude.{codes}
use Rattle.std.specs.List.{All, Contains}
use Rattle.std.specs.Str.{IsUtf8}
use Rattle.std.proofs.lemmas.List.{take-append-drop}
use Rattle.std.proofs.lemmas.List.Elements.{All-cons, All-contains, All-head, All-nil, All-tail, All-weaker}
use Rattle.std.proofs.lemmas.Str.{IsUtf8-append, IsUtf8-nil}
use Rattle.pan_ast.specs.declared.template.TemplateKind.{TemplateKind}
use Rattle.pan_ast.specs.declared.template.TemplateKind.TheVariants as template_kinds
use Rattle.pan_ast.specs.declared.token.Token.{Token}
use Rattle.pan_ast.specs.Templates.{Statement, Template}
use Rattle.pan_lexer.specs.Bytes.{begins, is_blank}
use Rattle.pan_lexer.specs.Lexed.{origin}
use Rattle.pan_lexer.specs.Skipped.{kept}
use Rattle.pan_lexer.specs.Spelled.{Cuts, Piece as SpelledPiece, Spelled, SpelledWith}
use Rattle.pan_lexer.specs.declared.parts.Mode.TheVariants.{Before}
use Rattle.pan_lexer.specs.declared.pieces.Piece.{Piece}
use Rattle.pan_grammar.specs.Faults.{DeepInLast, ParsesWhere}
use Rattle.pan_grammar.specs.Grammar.{Tokens}
use Rattle.pan_grammar.specs.Templates.{IsNamed, IsStatements, IsTemplate, a_statement, is_named, no_statement, of_kind, ordinary}
use Rattle.pan_format.specs.Bare.{bare, bare_statement}
use Rattle.pan_format.specs.Layout.{count_before, layout, set_off, with_notes}
use Rattle.pan_format.specs.Notes.{Note, ends, notes, notes_text}
use Rattle.pan_format.specs.Statements.{header_text, kind_text, statement_text}
use Rattle.pan_format.proofs.Bare.{statements_bare}
use Rattle.format_laws.specs.Again.{IsReadBack}
use Rattle.format_laws.proofs.Spelt.{AreSpelt, cuts_spelt, left, name_in, statement_found}
use Rattle.format_laws.proofs.TemplatesBack.{TemplateSo, both_texts, notes_left, notes_taken, template_again}
use Rattle.format_laws.proofs.Balanced.{Ended}
use Rattle.format_laws.proofs.Fronts.{cuts_ended}
use Rattle.format_laws.proofs.Noted.{AllNotes, IsNote, file_notes}
use Rattle.format_laws.proofs.Placed.{AllBefore, AllFrom, NotesThen, Placed, before_on, from_on, laid_turn, notes_first, notes_same, placed, texts_of}
use Rattle.format_laws.proofs.Reading.{ended}
use Rattle.format_laws.proofs.Utf8.{closed_text, header_utf8, statement_utf8}

within_limits : (d : ℕ) (t : Token) (ts us : Tokens) → DeepInLast 0 d (t ∷ ts) → DeepInLast 0 d us
within_limits d t ts us (inl h) = inl h
within_limits d t ts us (inr h) = absurd (omega (arith, h))

-- ---- places say nothing of the layout

pub layout_bare : (y z : Template) → bare y ≡ bare z → (es : List ℕ) (ns : List Note)
    → layout y es ns ≡ layout z es ns
layout_bare y z e es ns =
    let name : y.name ≡ z.name = ap (λ (x : Template). x.name) e in
    let kind : y.kind ≡ z.kind = ap (λ (x : Template). x.kind) e in
    let bodies : map bare_statement y.statements ≡ map bare_statement z.statements =
    ap (λ (x : Template). x.statements) e in
    let texts : map statement_text y.statements ≡ map statement_text z.statements =
    sym (statements_bare y.statements) ∙ ap (λ (xs : List Statement). map statement_text xs) bodies
    ∙ statements_bare z.statements in
    let header : header_text y ≡ header_text z = cc (name, kind) in
    cc (header, texts)

-- ---- UTF-8

feed_utf8 : IsUtf8 (codes "\n")
feed_utf8 = closed_text (codes "\n") refl

notes_utf8 : (ns : List Note) → AllNotes ns → IsUtf8 (notes_text ns)
notes_utf8 [] h = IsUtf8-nil
notes_utf8 (n ∷ ns) h = IsUtf8-append (n.text ++ codes "\n") (notes_text ns)
    (IsUtf8-append n.text (codes "\n") h.0.utf8 feed_utf8) (notes_utf8 ns h.1)

off_utf8 : (b : List ℕ) → IsUtf8 b → IsUtf8 (set_off b)
off_utf8 [] u = u
off_utf8 (b ∷ bs) u = IsUtf8-append (codes "\n") (b ∷ bs) feed_utf8 u

module _ (May : ℕ → Tokens → Type 0) where
  statements_utf8 : {ts : Tokens} {xs : List Statement} → IsStatements May ts xs → AreSpelt ts
      → (es : List ℕ) (ns : List Note) → AllNotes ns
      → IsUtf8 (with_notes (map statement_text xs) es ns)
  statements_utf8 (no_statement e) s es ns all = notes_utf8 ns all
  statements_utf8 (a_statement {x = x} {xs = xs} h k) s es ns all =
      let f = statement_found May h s in
      let c = count_before es ns in
      IsUtf8-append (notes_text (take c ns) ++ statement_text x)
      (with_notes (map statement_text xs) (drop 1 es) (drop c ns))
      (IsUtf8-append (notes_text (take c ns)) (statement_text x)
      (notes_utf8 (take c ns) (notes_taken c ns all)) (statement_utf8 May h f.holds))
      (statements_utf8 k f.behind (drop 1 es) (drop c ns) (notes_left c ns all))

  named_utf8 : {kind : _} {p : _} {ts : Tokens} {z : Template} → IsNamed May kind p ts z
      → AreSpelt ts → (es : List ℕ) (ns : List Note) → AllNotes ns
      → IsUtf8 (header_text z ++ set_off (with_notes (map statement_text z.statements) es ns))
  named_utf8 {kind = kind} (is_named {n = n} {xs = xs} e q z h) s es ns all =
      let w = with_notes (map statement_text xs) es ns in
      IsUtf8-append (kind_text kind ++ codes "template " ++ n.value ++ codes ";\n") (set_off w)
      (header_utf8 kind n.value (name_in e s))
      (off_utf8 w (statements_utf8 h (left (left s)) es ns all))

  template_utf8 : {ts : Tokens} {z : Template} → IsTemplate May ts z → AreSpelt ts
      → (es : List ℕ) (ns : List Note) → AllNotes ns
      → IsUtf8 (header_text z ++ set_off (with_notes (map statement_text z.statements) es ns))
  template_utf8 (ordinary e h) s es ns all = named_utf8 h (left s) es ns all
  template_utf8 (of_kind e o h) s es ns all = named_utf8 h (left (left s)) es ns all

-- ---- the whole

header_begins : (kind : TemplateKind) (v k : List ℕ)
    → begins is_blank ((kind_text kind ++ codes "template " ++ v ++ codes ";\n") ++ k) ≡ false
header_begins template_kinds.Ordinary v k = refl
header_begins template_kinds.Object v k = refl
header_begins template_kinds.Structure v k = refl
header_begins template_kinds.Unique v k = refl
header_begins template_kinds.Declaration v k = refl

-- the notes that start before the header's end are laid out before the header again
header_settles : (z : Template) (w : List ℕ) (us rest : Tokens) (ms ls : List Note) (n : List ℕ)
    → (h : Ended (suc (length (set_off w))) us rest)
    → AllBefore (length (header_text z ++ set_off w)) (ended us) ms
    → AllFrom (length w) (ended rest) ls → notes_text ms ≡ n
    → with_notes (map statement_text z.statements) (ends rest) ls ≡ w
    → layout z (ends us) (ms ++ ls) ≡ n ++ header_text z ++ set_off w
header_settles z w us rest ms ls n h b f p q =
    let first : ends us ≡ h.semicolon.end ∷ ends rest =
    ap (λ (f : List ℕ × ℕ). f.0) h.finds in
    let last : ended us ≡ ended rest = ap (λ (f : List ℕ × ℕ). f.1) h.finds in
    let front = kind_text z.kind ++ codes "template " ++ z.name in
    ap (λ (es : List ℕ). layout z es (ms ++ ls)) first
    ∙ laid_turn set_off h.semicolon.end (ends rest) ms ls (header_text z)
    (map statement_text z.statements) n w
    (before_on (length (header_text z ++ set_off w)) (ended us) h.semicolon.end ms
    (omega (
      arith,
      last,
      h.counts,
      length-append (header_text z) (set_off w),
      length-append front (59 ∷ 10 ∷ []),
    )) b)
    (from_on (length w) 0 (ended rest) h.semicolon.end ls
    (omega (arith, h.counts, off_longer w)) f) p q where
      off_longer : (w : List ℕ) → length w ≤ length (set_off w)
      off_longer [] = omega arith
      off_longer (b ∷ bs) = omega arith

-- what is known of the whole text
record Whole (z : Template) (ns : List Note) (text : List ℕ) (us : Tokens) (ps : List Piece)
    : Type 0 where
  again : Template
  parses : IsTemplate (DeepInLast 0) us again
  bared : bare again ≡ bare z
  read_again : List Note
  same : texts_of read_again ≡ texts_of ns
  noted : length text ≡ ended us → notes text ps ≡ read_again
  settled : layout z (ends us) read_again ≡ text

whole_of : (z : Template) (w : List ℕ) (front noted : List Note) → (us : Tokens) (ps : List Piece)
    → (r : Placed front (header_text z ++ set_off w) (TemplateSo (DeepInLast 0) z w noted) us ps)
    → TemplateSo (DeepInLast 0) z w noted us r.left
    → Whole z (front ++ noted) (notes_text front ++ header_text z ++ set_off w) us ps
whole_of z w front noted us ps r t =
    let headed = t.3 in
    let l = headed.laid in
    let header = header_text z in
    let seam = append_assoc (notes_text front) header (set_off w) in
    let last : ended us ≡ ended headed.rest = ap (λ (f : List ℕ × ℕ). f.1) headed.end.finds in
    record {
      again = t.0;
      parses = t.1;
      bared = t.2;
      read_again = r.read_again ++ l.read_again;
      same = both_texts r.read_again front l.read_again noted r.same l.same;
      noted = λ q. r.noted [] (notes_text front ++ header ++ set_off w) seam q
          ∙ ap (λ (ns : List Note). r.read_again ++ ns)
          (off_noted w (notes_text front ++ header) headed.rest r.left l.read_again l.noted
          (q ∙ last));
      settled = header_settles z w us headed.rest r.read_again l.read_again (notes_text front)
          headed.end r.before l.from (notes_same r.read_again front r.same) l.settled;
    } where
      off_noted : (w pre : List ℕ) (rest : Tokens) (ps : List Piece) (ms : List Note)
          → ((pre' whole : List ℕ) → whole ≡ pre' ++ w → length whole ≡ ended rest
          → notes whole ps ≡ ms)
          → length (pre ++ set_off w) ≡ ended rest → notes (pre ++ set_off w) ps ≡ ms
      off_noted [] pre rest ps ms f q = f pre (pre ++ []) refl q
      off_noted (b ∷ bs) pre rest ps ms f q = f (pre ++ codes "\n")
          (pre ++ (codes "\n" ++ b ∷ bs)) (sym (append_assoc pre (codes "\n") (b ∷ bs))) q

-- what is said of the whole by what is read of its parts
whole_so : (z : Template) (w : List ℕ) (front noted : List Note) → AllNotes front → (us : Tokens)
    (ps : List Piece) → NotesThen front (header_text z ++ set_off w)
    (TemplateSo (DeepInLast 0) z w noted) us ps
    → Whole z (front ++ noted) (notes_text front ++ header_text z ++ set_off w) us ps
whole_so z w front noted h us ps q =
    let r = placed {P = TemplateSo (DeepInLast 0) z w noted} front (header_text z ++ set_off w)
    us ps h q in
    whole_of z w front noted us ps r r.behind

read_back_of : (file : List ℕ) (z : Template) (ns : List Note) (text : List ℕ) (us : Tokens)
    (ps : List SpelledPiece) → IsUtf8 text → Cuts file Before origin text us ps
    → Whole z ns text us (kept ps) → IsReadBack file text z (texts_of ns)
read_back_of file z ns text us ps u cut h =
    let same = h.noted (sym (cuts_ended cut ∙ none_before (length text))) in
    record {
      tokens = us;
      pieces = ps;
      template = h.again;
      spelled = (u, cut);
      parses = h.parses;
      same = h.bared;
      notes_kept = ap texts_of same ∙ h.same;
      settled = ap (λ (ms : List Note). layout h.again (ends us) ms) same
          ∙ layout_bare h.again z h.bared (ends us) h.read_again ∙ h.settled;
    } where
      none_before : (n : ℕ) → 0 + n ≡ n
      none_before n = omega arith

-- with any ends, and any notes of a file
read_back : (file bytes : List ℕ) (ts : List Token) (z : Template) (es : List ℕ)
    (ns : List Note) → Spelled file bytes ts → ParsesWhere (DeepInLast 0) ts z → AllNotes ns
    → IsReadBack file (layout z es ns) z (texts_of ns)
read_back file bytes ts z es ns sp h all =
    let s = cuts_spelt sp.1.1 sp.1.0 in
    let c = count_before es ns in
    let front = take c ns in
    let noted = drop c ns in
    let first = notes_taken c ns all in
    let later = notes_left c ns all in
    let w = with_notes (map statement_text z.statements) (drop 1 es) noted in
    let k = header_text z ++ set_off w in
    let inner = template_again file (DeepInLast 0) within_limits h s (drop 1 es) noted later in
    let r = (notes_first {k = k} {P = TemplateSo (DeepInLast 0) z w noted} front first
    (header_begins z.kind z.name (set_off w)) inner).read origin in
    let seam = append_assoc (notes_text front) (header_text z) (set_off w) in
    let utf8 : IsUtf8 (layout z es ns) = subst IsUtf8 (sym seam)
    (IsUtf8-append (notes_text front) k (notes_utf8 front first)
    (template_utf8 (DeepInLast 0) h s (drop 1 es) noted later)) in
    read_back_of file z ns (layout z es ns) r.0 r.1 utf8
    (subst (λ (t : List ℕ). Cuts file Before origin t r.0 r.1) (sym seam) r.2)
    (subst (λ (xs : List Note). Whole z xs (layout z es ns) r.0 (kept r.1)) (take-append-drop c ns)
    (whole_so z w front noted first r.0 (kept r.1) r.3))

-- with any of the notes of the file
abbrev IsNoted : Note → Type 0
IsNoted n = IsNote n.text

each_noted : (ns : List Note) → AllNotes ns → All IsNoted ns
each_noted [] h = All-nil IsNoted
each_noted (n ∷ ns) h = All-cons IsNoted n ns h.0 (each_noted ns h.1)

all_noted : (ns : List Note) → All IsNoted ns → AllNotes ns
all_noted [] h = tt
all_noted (n ∷ ns) h = (All-head IsNoted n ns h, all_noted ns (All-tail IsNoted n ns h))

pub chosen_read_back : (file bytes : List ℕ) (ts : List Token) (ps : List SpelledPiece)
    (z : Template) (es : List ℕ) (ns : List Note) → SpelledWith file bytes ts ps
    → ParsesWhere (DeepInLast 0) ts z → All (Contains (notes bytes (kept ps))) ns
    → IsReadBack file (layout z es ns) z (map (λ n. n.text) ns)
chosen_read_back file bytes ts ps z es ns sp h chosen =
    let every = each_noted (notes bytes (kept ps)) (file_notes sp.1 sp.0 [] bytes refl refl) in
    read_back file bytes ts z es ns (ps, sp) h (all_noted ns
    (All-weaker (Contains (notes bytes (kept ps))) IsNoted
    (λ n c. All-contains IsNoted (notes bytes (kept ps)) n every c) ns chosen))
