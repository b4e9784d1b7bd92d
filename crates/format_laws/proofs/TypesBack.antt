-- What is laid out of a type is read and parsed back to the same type but for places.
use Rattle.std.proofs.Common.{◌≡◌, ◌∙◌, ℕ, suc, Bool, true, false, List, [], ◌∷◌, ◌++◌, map, Option, Some, None, option_map, refl, sym, ap, subst}
use Rattle.std.specs.Prelude.{codes, flat_map}
use Rattle.path_tree.specs.Grammar.{is_key}
use Rattle.pan_ast.specs.declared.place.Place.{Place}
use Rattle.pan_ast.specs.declared.sort.Sort.{Sort}
use Rattle.pan_ast.specs.declared.sort.Sort.TheVariants as sorts
use Rattle.pan_ast.specs.declared.token.Token.{Token}
use Rattle.pan_ast.specs.declared.token.TokenKind.TheVariants as kinds
use Rattle.pan_ast.specs.declared.types.Bounds.{Bounds}
use Rattle.pan_ast.specs.declared.types.Suffix.{Suffix}
use Rattle.pan_ast.specs.Sorts.{at, is_type_name, is_word, sort, sort_of}
use Rattle.pan_ast.specs.Syntax.{Item}
use Rattle.pan_ast.specs.Types.{FullType, Full, TypeForm, Formed, Head, Field, Fields, fields_of}
use Rattle.pan_ast.specs.Types as types
use Rattle.pan_lexer.specs.declared.pieces.Piece.{Piece}
use Rattle.pan_lexer.proofs.CleanLines.{and_both}
use Rattle.pan_grammar.specs.Grammar.{Tokens, NotElse}
use Rattle.pan_grammar.specs.Types.{IsFields, IsFull, IsOption, IsType, a_choice, a_dict, a_full, a_link, a_list, a_named, a_record, absent, an_extensible, include_field, is_mark, no_field, no_suffix, own_field, present, recorded}
use Rattle.pan_format.specs.Bare.{nowhere, bare_bounds, bare_field, bare_fields, bare_full, bare_head, bare_item, bare_suffix, bare_type}
use Rattle.pan_format.specs.Types.{default_text, field_lines, field_text, form_text, full_text, further_texts, head_text, mark_text, named_bounds, suffix_text, test_text}
use Rattle.pan_format.specs.Items.{item_text}
use Rattle.pan_format.specs.Words.{braced, indent, quoted}
use Rattle.format_laws.proofs.Reading.{Apart, Behind, Follows, Holding, Reads, Then, behind, holding, so}
use Rattle.format_laws.proofs.Worded.{fields_words, full_words, option_words, type_words}
use Rattle.format_laws.proofs.Fronts.{apart_space, blank, final_word, joins, keyword, mapped, sign_then, text_then, without_then, word_sort, word_then}
use Rattle.format_laws.proofs.Items.{ItemThen}
use Rattle.format_laws.proofs.Ranges.{BoundedThen, First, NoSuffix, Other, SuffixesThen, TextsThen, bounded_again, bounded_apart, suffixes_again, suffixes_apart, texts_again, texts_apart}
use Rattle.format_laws.proofs.ReadBack.{indent_then, item_again}
use Rattle.format_laws.proofs.Seams.{seam3, seam4}

pub apart_feed : {k : List ℕ} → Apart (10 ∷ k)
apart_feed = record {
  no_word = refl;
  no_quote = refl;
  no_digit = refl;
  no_start = refl;
  no_double =
      refl;
  no_x = refl;
}

apart_open : {k : List ℕ} → Apart (40 ∷ k)
apart_open = record {
  no_word = refl;
  no_quote = refl;
  no_digit = refl;
  no_start = refl;
  no_double =
      refl;
  no_x = refl;
}

type_again_word : (t : Token) → is_type_name (sort t) ≡ true
    → is_type_name (sort_of kinds.Word t.value) ≡ true
type_again_word t e = ap is_type_name (sym (word_sort t (and_both (is_word (sort t)) _ e).0)) ∙ e

-- ---- what may stand behind a type

-- whatever is read so begins with a token of such a sort
abbrev pub Starts : (Sort → Type 0) → Follows → Type 0
Starts F P = (us : Tokens) (ps : List Piece) → P us ps → First F us

abbrev BehindType : Sort → Type 0
BehindType s = NoSuffix s × Other sorts.Open s

abbrev BehindDefault : Sort → Type 0
BehindDefault s = Other sorts.Else s × Other sorts.Assign s

abbrev BehindTest : Sort → Type 0
BehindTest s = Other sorts.Else s × Other sorts.With s

abbrev pub BehindFull : Sort → Type 0
BehindFull s = BehindType s × BehindDefault s × BehindTest s

pub semicolon_ends : BehindFull sorts.Semicolon
semicolon_ends = ((refl, λ h. cc), (λ h. cc, λ h. cc), (λ h. cc, λ h. cc))

brace_ends : BehindFull sorts.CloseBrace
brace_ends = ((refl, λ h. cc), (λ h. cc, λ h. cc), (λ h. cc, λ h. cc))

text_ends : BehindFull sorts.Text
text_ends = ((refl, λ h. cc), (λ h. cc, λ h. cc), (λ h. cc, λ h. cc))

include_ends : BehindFull sorts.Include
include_ends = ((refl, λ h. cc), (λ h. cc, λ h. cc), (λ h. cc, λ h. cc))

assign_behind_type : BehindType sorts.Assign
assign_behind_type = (refl, λ h. cc)

with_behind_type : BehindType sorts.With
with_behind_type = (refl, λ h. cc)

with_behind_default : BehindDefault sorts.With
with_behind_default = (λ h. cc, λ h. cc)

first_not_else : (us : Tokens) → First (Other sorts.Else) us → NotElse us
first_not_else [] n = tt
first_not_else (u ∷ us) n = n

first_of : (F G : Sort → Type 0) → ((s : Sort) → F s → G s) → (us : Tokens) → First F us
    → First G us
first_of F G f [] h = h
first_of F G f (u ∷ us) h = f (sort u) h

suffixes_start : (ss : List Suffix) {P : Follows} → Starts BehindType P
    → Starts (Other sorts.Open) (SuffixesThen ss P)
suffixes_start ss n us ps (so (no_suffix {t = t} {ts = ts} e) b r) = (n (t ∷ ts) ps r).1
suffixes_start ss n us ps (so (a_list o h k) b r) = subst (Other sorts.Open) (sym o) (λ h. cc)
suffixes_start ss n us ps (so (a_dict o h k) b r) = subst (Other sorts.Open) (sym o) (λ h. cc)
suffixes_start ss n us ps (so (a_link o k) b r) = subst (Other sorts.Open) (sym o) (λ h. cc)

-- ---- the sign after a key

abbrev mark_of : Bool → Sort
mark_of true = sorts.Colon
mark_of false = sorts.Question

mark_again : (b : Bool) → is_mark (mark_of b) ≡ true
mark_again true = refl
mark_again false = refl

mark_required : (b : Bool) → at sorts.Colon (mark_of b) ≡ b
mark_required true = refl
mark_required false = refl

mark_then : {file t : List ℕ} {P : Follows} (b : Bool) → Reads file t P
    → Reads file (mark_text b ++ t) (Behind (mark_of b) P)
mark_then true r = blank 32 refl (sign_then 58 refl refl (blank 32 refl r))
mark_then {t = t} false r = blank 32 refl (without_then {k = 32 ∷ t} 63 refl refl refl refl
    (blank 32 refl r))

mark_apart : (b : Bool) (t : List ℕ) → Apart (mark_text b ++ t)
mark_apart true t = apart_space
mark_apart false t = apart_space

module _ (May : ℕ → Tokens → Type 0) where
  abbrev pub OptionThen : Sort → ℕ → Option Item → Follows → Follows
  OptionThen w d e P = Then (Option Item) (IsOption May w d)
      (λ y. option_map bare_item y ≡ option_map bare_item e) P

  abbrev pub FullThen : ℕ → FullType → Follows → Follows
  FullThen d f P = Then FullType (IsFull May d) (λ y. bare_full y ≡ bare_full f) P

  abbrev TypeThen : ℕ → TypeForm → Follows → Follows
  TypeThen d f P = Then TypeForm (IsType May d) (λ y. bare_type y ≡ bare_type f) P

  abbrev FieldsThen : ℕ → List Field → Follows → Follows
  FieldsThen d fs P = Then (List Field) (IsFields May d)
      (λ ys. bare_fields (fields_of ys) ≡ bare_fields (fields_of fs)) P

  -- ---- a default and a test

  absent_so : (w : Sort) {d : ℕ} {P : Follows} → Starts (Other w) P
      → (us : Tokens) (ps : List Piece) → P us ps → OptionThen w d None P us ps
  absent_so w n [] ps r = absurd (n [] ps r)
  absent_so w n (u ∷ us) ps r = so (absent (n (u ∷ us) ps r)) refl r

  present_so : (w : Sort) {d : ℕ} (i : Item) {P : Follows} (us : Tokens) (ps : List Piece)
      → Behind w (ItemThen May d i P) us ps → OptionThen w d (Some i) P us ps
  present_so w i us ps (behind e (so h b r)) = so (present e h) (ap Some b) r

  test_starts : {d : ℕ} (w : Option Item) {P : Follows} → Starts BehindFull P
      → Starts BehindDefault (OptionThen sorts.With d w P)
  test_starts w n us ps (so (absent {t = t} {ts = ts} e) b r) = (n (t ∷ ts) ps r).1
  test_starts w n us ps (so (present e h) b r) = subst BehindDefault (sym e) with_behind_default

  default_starts : {d : ℕ} (e w : Option Item) {P : Follows} → Starts BehindFull P
      → Starts BehindType (OptionThen sorts.Assign d e (OptionThen sorts.With d w P))
  default_starts e0 w0 n us ps (so (present e h) b r) = subst BehindType (sym e) assign_behind_type
  default_starts e0 w0 n us ps (so (absent e) b (so (present q h) c r)) =
      subst BehindType (sym q) with_behind_type
  default_starts e0 w0 n us ps (so (absent e) b (so (absent {t = t} {ts = ts} q) c r)) =
      (n (t ∷ ts) ps r).0

  full_so : {d : ℕ} (f : TypeForm) (e w : Option Item) {P : Follows} (us : Tokens) (ps : List Piece)
      → TypeThen d f (OptionThen sorts.Assign d e (OptionThen sorts.With d w P)) us ps
      → FullThen d (Full f e w) P us ps
  unfolding bare_full
  full_so f0 e0 w0 us ps (so h a (so k b (so l c r))) = so (a_full h k l) (cc (a, b, c)) r

  -- ---- types

  formed_bare : (g h : Head) (ss rr : List Suffix) → bare_head g ≡ bare_head h
      → map bare_suffix ss ≡ map bare_suffix rr
      → Formed (bare_head g) (map bare_suffix ss) ≡ Formed (bare_head h) (map bare_suffix rr)
  formed_bare g h ss rr e q = cc

  named_so : {d : ℕ} (p : Place) {v : List ℕ} (b : Option Bounds) (ss : List Suffix) {P : Follows}
      → ((us : Tokens) → May (suc d) us) → is_type_name (sort_of kinds.Word v) ≡ true
      → (us : Tokens) (ps : List Piece)
      → Holding (sort_of kinds.Word v) v (BoundedThen b (SuffixesThen ss P)) us ps
      → TypeThen d (Formed (types.Named v p b) ss) P us ps
  unfolding bare_type bare_head
  named_so p0 b0 ss0 m n us ps (holding s q (so h b (so k c r))) =
      so (a_named (m _) (ap is_type_name s ∙ n) h k) (same _ _ _ _ _ _ q b c) r where
        same : (v w : List ℕ) (a b : Option Bounds) (ss rr : List Suffix) → v ≡ w
            → option_map bare_bounds a ≡ option_map bare_bounds b
            → map bare_suffix ss ≡ map bare_suffix rr
            → Formed (types.Named v nowhere (option_map bare_bounds a)) (map bare_suffix ss)
            ≡ Formed
            (types.Named w nowhere (option_map bare_bounds b)) (map bare_suffix rr)
        same v w a b ss rr e1 e2 e3 = cc

  record_so : {d : ℕ} (fs : List Field) (ss : List Suffix) {P : Follows}
      → ((us : Tokens) → May (suc d) us) → ((us : Tokens) → May (suc (suc d)) us)
      → (us : Tokens) (ps : List Piece)
      → Behind sorts.OpenBrace (FieldsThen (suc (suc d)) fs (SuffixesThen ss P)) us ps
      → TypeThen d (Formed (recorded false fs) ss) P us ps
  unfolding bare_type bare_head
  record_so fs0 ss0 m n us ps (behind e (so h b (so k c r))) =
      so (a_record (m _) (n _) e h k) (cc (b, c)) r

  extensible_so : {d : ℕ} (fs : List Field) (ss : List Suffix) {P : Follows}
      → ((us : Tokens) → May (suc d) us) → ((us : Tokens) → May (suc (suc d)) us)
      → (us : Tokens) (ps : List Piece)
      → Behind sorts.Extensible (Behind sorts.OpenBrace
      (FieldsThen (suc (suc d)) fs (SuffixesThen ss P))) us ps
      → TypeThen d (Formed (recorded true fs) ss) P us ps
  unfolding bare_type bare_head
  extensible_so fs0 ss0 m n us ps (behind e (behind o (so h b (so k c r)))) =
      so (an_extensible (m _) (n _) e o h k) (cc (b, c)) r

  choice_so : {d : ℕ} (x : List ℕ) (xs : List (List ℕ)) (ss : List Suffix) {P : Follows}
      → ((us : Tokens) → May (suc d) us) → (us : Tokens) (ps : List Piece)
      → Behind sorts.Choice (Behind sorts.Open
      (Holding sorts.Text x (TextsThen xs (SuffixesThen ss P)))) us ps
      → TypeThen d (Formed (types.Choice (x ∷ xs)) ss) P us ps
  unfolding bare_type bare_head
  choice_so x0 xs0 ss0 m us ps (behind e (behind o (holding s q (so h b (so k c r))))) =
      so (a_choice (m _) e o s h k) (same _ _ _ _ _ _ q b c) r where
        same : (v w : List ℕ) (xs ys : List (List ℕ)) (ss rr : List Suffix) → v ≡ w → xs ≡ ys
            → map bare_suffix ss ≡ map bare_suffix rr
            → Formed (types.Choice (v ∷ xs)) (map bare_suffix ss) ≡ Formed (types.Choice (w ∷ ys))
            (map bare_suffix rr)
        same v w xs ys ss rr e1 e2 e3 = cc

  -- ---- fields

  no_field_so : {d : ℕ} {P : Follows} (us : Tokens) (ps : List Piece)
      → Behind sorts.CloseBrace P us ps → FieldsThen d [] P us ps
  no_field_so us ps (behind e r) = so (no_field e) refl r

  own_so : {d : ℕ} (p : Place) (key : List ℕ) (b : Bool) (f : FullType) (fs : List Field)
      {P : Follows} → is_key key ≡ true → (us : Tokens) (ps : List Piece)
      → Holding sorts.Text key (Behind (mark_of b) (FullThen d f (FieldsThen d fs P))) us ps
      → FieldsThen d (types.Own key p b f ∷ fs) P us ps
  unfolding bare_fields bare_field
  own_so p0 key0 b0 f0 fs0 n us ps (holding {t = t} s q (behind e (so h c (so k a r)))) =
      so (own_field s (ap is_key q ∙ n) (ap is_mark e ∙ mark_again b0) h k)
      (same _ _ _ _ _ _ _ _ q (ap (at sorts.Colon) e ∙ mark_required b0) c a) r where
        same : (v w : List ℕ) (a b : Bool) (f g : FullType) (fs gs : Fields) → v ≡ w → a ≡ b
            → bare_full f ≡ bare_full g → bare_fields fs ≡ bare_fields gs
            → types.more (types.Own v nowhere a (bare_full f)) (bare_fields fs) ≡ types.more
            (types.Own w nowhere b (bare_full g)) (bare_fields gs)
        same v w a b f g fs gs e1 e2 e3 e4 = cc

  include_so : {d : ℕ} (p : Place) {v : List ℕ} (q : Place) (fs : List Field) {P : Follows}
      → is_type_name (sort_of kinds.Word v) ≡ true → (us : Tokens) (ps : List Piece)
      → Behind sorts.Include (Holding (sort_of kinds.Word v) v (FieldsThen d fs P)) us ps
      → FieldsThen d (types.Include p v q ∷ fs) P us ps
  unfolding bare_fields bare_field
  include_so p0 q0 fs0 n us ps (behind e (holding s q (so k a r))) =
      so (include_field e (ap is_type_name s ∙ n) k) (same _ _ _ _ q a) r where
        same : (v w : List ℕ) (fs gs : Fields) → v ≡ w → bare_fields fs ≡ bare_fields gs
            → types.more (types.Include nowhere v nowhere) (bare_fields fs) ≡ types.more
            (types.Include nowhere w nowhere) (bare_fields gs)
        same v w fs gs e1 e2 = cc

  fields_start : {d : ℕ} (fs : List Field) {P : Follows} → Starts BehindFull (FieldsThen d fs P)
  fields_start fs us ps (so (no_field e) b r) = subst BehindFull (sym e) brace_ends
  fields_start fs us ps (so (own_field s n m h k) b r) = subst BehindFull (sym s) text_ends
  fields_start fs us ps (so (include_field e n k) b r) = subst BehindFull (sym e) include_ends

module _ (file : List ℕ) (May : ℕ → Tokens → Type 0)
    (alike : (d : ℕ) (t : Token) (ts us : Tokens) → May d (t ∷ ts) → May d us) where
  default_again : {d : ℕ} {ts rest : Tokens} {e : Option Item} {t : List ℕ} {P : Follows}
      → IsOption May sorts.Assign d ts e rest → (k : ℕ) → option_words e → Apart t
      → Starts BehindDefault P → Reads file t P
      → Reads file (default_text k e ++ t) (OptionThen May sorts.Assign d e P)
  default_again (absent q) k w apart n r = mapped
      (absent_so May sorts.Assign (λ us ps p. first_of BehindDefault (Other sorts.Assign)
      (λ s f. f.1) us (n us ps p))) r
  default_again {t = t} (present {i = i} q h) k w apart n r =
      mapped (present_so May sorts.Assign i) (joins (codes " = ") (item_text k i) t
      (blank 32 refl (without_then {k = 32 ∷ (item_text k i ++ t)} 61 refl refl refl refl
      (blank 32 refl
      (item_again file May alike h k w apart (λ us ps p y. first_not_else us
      (first_of BehindDefault (Other sorts.Else) (λ s f. f.0) us (n us ps p))) r)))))

  test_again : {d : ℕ} {ts rest : Tokens} {e : Option Item} {t : List ℕ} {P : Follows}
      → IsOption May sorts.With d ts e rest → (k : ℕ) → option_words e → Apart t
      → Starts BehindTest P → Reads file t P → Reads file (test_text k e ++ t)
      (OptionThen May sorts.With d e P)
  test_again (absent q) k w apart n r = mapped
      (absent_so May sorts.With (λ us ps p. first_of BehindTest (Other sorts.With) (λ s f. f.1) us
      (n us ps p))) r
  test_again {t = t} (present {i = i} q h) k w apart n r =
      mapped (present_so May sorts.With i) (joins (codes " with ") (item_text k i) t
      (blank 32 refl (keyword (codes "with") (refl, refl) refl
      (item_again file May alike h k w apart (λ us ps p y. first_not_else us
      (first_of BehindTest (Other sorts.Else) (λ s f. f.0) us (n us ps p))) r))))

  default_apart : (k : ℕ) (e : Option Item) {t : List ℕ} → Apart t → Apart (default_text k e ++ t)
  default_apart k None a = a
  default_apart k (Some i) a = apart_space

  test_apart : (k : ℕ) (e : Option Item) {t : List ℕ} → Apart t → Apart (test_text k e ++ t)
  test_apart k None a = a
  test_apart k (Some i) a = apart_space

  -- a record, from its lines
  record_from : {d : ℕ} {ts rest : Tokens} {fs : List Field} {t : List ℕ} {P : Follows}
      → IsFields May d ts fs rest → (k : ℕ) → Reads file t P
      → Reads file (field_lines (suc k) (fields_of fs) ++ (indent k ++ 125 ∷ t))
      (FieldsThen May d fs P) → Reads file (braced k (field_lines (suc k) (fields_of fs)) ++ t)
      (Behind sorts.OpenBrace (FieldsThen May d fs P))
  unfolding field_lines
  record_from (no_field e) k r lines = sign_then 123 refl refl
      (blank 32 refl (mapped (no_field_so May) (sign_then 125 refl refl r)))
  record_from {t = t} (own_field {k = v} {c = c} {f = f} {fs = fs} s n m hf h) k r lines =
      seam4 (codes "{\n") (field_lines (suc k)
      (types.more (types.Own v.value v.place (at sorts.Colon (sort c)) f) (fields_of fs)))
      (indent k) (codes "}") t
      (sign_then 123 refl refl (blank 10 refl lines))
  record_from {t = t} (include_field {i = i} {n = x} {fs = fs} e n h) k r lines =
      seam4 (codes "{\n") (field_lines (suc k)
      (types.more (types.Include i.place x.value x.place) (fields_of fs))) (indent k)
      (codes "}") t
      (sign_then 123 refl refl (blank 10 refl lines))

  mutual
    unfolding full_text form_text head_text field_lines field_text

    pub full_again : {d : ℕ} {ts rest : Tokens} {f : FullType} {t : List ℕ} {P : Follows}
        → IsFull May d ts f rest → (k : ℕ) → full_words f → Apart t → Starts BehindFull P
        → Reads file t P → Reads file (full_text k f ++ t) (FullThen May d f P)
    full_again {t = t} (a_full {f = f} {e = e} {w = w} hf he hw) k ws apart n r =
        mapped (full_so May f e w) (seam3 (form_text k f) (default_text k e) (test_text k w) t
        (type_again hf k ws.0 (default_apart k e (test_apart k w apart)) (default_starts May e w n)
        (default_again he k ws.1 (test_apart k w apart) (test_starts May w n)
        (test_again hw k ws.2 apart (λ us ps p. first_of BehindFull BehindTest (λ s f. f.2) us
        (n us ps p)) r))))

    type_again : {d : ℕ} {ts rest : Tokens} {f : TypeForm} {t : List ℕ} {P : Follows}
        → IsType May d ts f rest → (k : ℕ) → type_words f → Apart t → Starts BehindType P
        → Reads file t P → Reads file (form_text k f ++ t) (TypeThen May d f P)
    type_again {t = t} (a_named {d = d} {t = v} {ts = ts} {b = b}
        {ss = ss} m e hb hs) k ws apart n r =
        mapped (named_so May v.place b ss (λ us. alike (suc d) v ts us m) (type_again_word v e))
        (seam3 v.value (named_bounds b) (flat_map suffix_text ss) t
        (word_then v.value ws (bounded_apart b (suffixes_apart ss apart)).no_word
        (bounded_again hb (suffixes_start ss n)
        (suffixes_again hs (λ us ps p. first_of BehindType NoSuffix (λ s f. f.0) us
        (n us ps p)) r))))
    type_again {t = t} (a_record {d = d} {t = o} {ts = ts} {fs = fs}
        {ss = ss} m m2 e hf hs) k ws apart n r =
        let last = suffixes_again hs (λ us ps p. first_of BehindType NoSuffix (λ s f. f.0) us
        (n us ps p)) r in
        mapped (record_so May fs ss (λ us. alike (suc d) o ts us m)
        (λ us. alike (suc (suc d)) o ts us m2))
        (joins (braced k (field_lines (suc k) (fields_of fs))) (flat_map suffix_text ss) t
        (record_from hf k last (lines_again hf k ws last)))
    type_again {t = t} (an_extensible {d = d} {t = x} {o = o} {ts = ts} {fs = fs}
        {ss = ss} m m2 e q hf hs) k ws apart n r =
        let last = suffixes_again hs (λ us ps p. first_of BehindType NoSuffix (λ s f. f.0) us
        (n us ps p)) r in
        mapped (extensible_so May fs ss (λ us. alike (suc d) x (o ∷ ts) us m)
        (λ us. alike (suc (suc d)) x (o ∷ ts) us m2))
        (seam3 (codes "extensible ") (braced k (field_lines (suc k) (fields_of fs)))
        (flat_map suffix_text ss) t
        (keyword (codes "extensible") (refl, refl) refl
        (record_from hf k last (lines_again hf k ws last))))
    type_again {t = t} (a_choice {d = d} {t = c} {o = o} {x = x} {ts = ts} {xs = xs}
        {ss = ss} m e q s hx hs) k ws apart n r =
        mapped (choice_so May x.value xs ss (λ us. alike (suc d) c (o ∷ x ∷ ts) us m))
        (seam4 (codes "choice(") (quoted x.value ++ further_texts xs) (codes ")")
        (flat_map suffix_text ss) t
        (final_word (codes "choice") (refl, refl) refl apart_open (sign_then 40 refl refl
        (joins (quoted x.value) (further_texts xs) (41 ∷ (flat_map suffix_text ss ++ t))
        (text_then x.value (texts_apart xs (flat_map suffix_text ss ++ t))
        (texts_again hx (suffixes_again hs (λ us ps p. first_of BehindType NoSuffix (λ s f. f.0) us
        (n us ps p)) r)))))))

    lines_again : {d : ℕ} {ts rest : Tokens} {fs : List Field} {t : List ℕ} {P : Follows}
        → IsFields May d ts fs rest → (k : ℕ) → fields_words (fields_of fs) → Reads file t P
        → Reads file (field_lines (suc k) (fields_of fs) ++ (indent k ++ 125 ∷ t))
        (FieldsThen May d fs P)
    lines_again (no_field e) k ws r = mapped (no_field_so May)
        (indent_then k (sign_then 125 refl refl r))
    lines_again {t = t} (own_field {k = v} {c = c} {f = f} {fs = fs} s n m hf h) k ws r =
        let b = at sorts.Colon (sort c) in
        mapped (own_so May v.place v.value b f fs n)
        (seam4 (indent (suc k)) (field_text (suc k) (types.Own v.value v.place b f)) (codes "\n")
        (field_lines (suc k) (fields_of fs)) (indent k ++ 125 ∷ t)
        (indent_then (suc k) (seam3 (quoted v.value) (mark_text b) (full_text (suc k) f)
        (10 ∷ (field_lines (suc k) (fields_of fs) ++ (indent k ++ 125 ∷ t)))
        (text_then v.value (mark_apart b _) (mark_then b
        (full_again hf (suc k) ws.0.1 apart_feed (fields_start May fs)
        (blank 10 refl (lines_again h k ws.1 r))))))))
    lines_again {t = t} (include_field {i = i} {n = x} {fs = fs} e n h) k ws r =
        mapped (include_so May i.place x.place fs (type_again_word x n))
        (seam4 (indent (suc k)) (field_text (suc k) (types.Include i.place x.value x.place))
        (codes "\n") (field_lines (suc k) (fields_of fs)) (indent k ++ 125 ∷ t)
        (indent_then (suc k) (joins (codes "include ") x.value
        (10 ∷ (field_lines (suc k) (fields_of fs) ++ (indent k ++ 125 ∷ t)))
        (keyword (codes "include") (refl, refl) refl
        (word_then x.value ws.0 refl (blank 10 refl (lines_again h k ws.1 r)))))))
