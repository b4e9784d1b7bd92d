-- What is laid out of a statement is read and parsed back to the same statement but for places.
use Rattle.std.proofs.Common.{◌≡◌, ◌∙◌, ℕ, suc, ◌+◌, Bool, true, false, List, [], ◌∷◌, ◌++◌, length, refl, sym, ap, subst}
use Rattle.std.specs.Prelude.{codes}
use Rattle.pan_ast.specs.declared.place.Place.{Place}
use Rattle.pan_ast.specs.declared.sort.Sort.{Sort}
use Rattle.pan_ast.specs.declared.sort.Sort.TheVariants as sorts
use Rattle.pan_ast.specs.declared.token.Token.{Token}
use Rattle.pan_ast.specs.declared.token.TokenKind.TheVariants as kinds
use Rattle.pan_ast.specs.Sorts.{at, is_word, sort, sort_of}
use Rattle.pan_ast.specs.Syntax.{Item, items_of}
use Rattle.pan_ast.specs.Syntax as nodes
use Rattle.pan_ast.specs.Types.{FullType}
use Rattle.pan_ast.specs.Templates.{StatementForm, Statement}
use Rattle.pan_ast.specs.Templates as statements
use Rattle.pan_lexer.specs.declared.pieces.Piece.{Piece}
use Rattle.pan_grammar.specs.Grammar.{Tokens, IsItem, NotElse, block, plain}
use Rattle.pan_grammar.specs.Types.{IsFull}
use Rattle.pan_grammar.specs.Templates.{IsIncluded, IsSetting, IsStatement, a_bind, a_final, a_function, a_prefix, a_setting, a_type, a_valid, an_include, block_included, conditional, is_setting, of_path, of_variable, stated, text_included}
use Rattle.pan_format.specs.Bare.{nowhere, bare_full, bare_item, bare_node, bare_statement}
use Rattle.pan_format.specs.Items.{item_text, node_text}
use Rattle.pan_format.specs.Types.{full_text}
use Rattle.pan_format.specs.Statements.{setting_text, statement_text}
use Rattle.pan_format.specs.Words.{quoted}
use Rattle.format_laws.proofs.Reading.{Apart, Behind, Follows, Holding, IsWord, Reads, Stop, Then, behind, ended, holding, so, stop}
use Rattle.format_laws.proofs.Worded.{form_words, full_words, item_words}
use Rattle.format_laws.proofs.Fronts.{apart_semicolon, apart_space, blank, keyword, mapped, stop_then, text_then, with_equals_then, without_then, word_then}
use Rattle.format_laws.proofs.Items.{ItemThen, ItemsThen, not_else}
use Rattle.format_laws.proofs.ReadBack.{item_again, items_again, word_again}
use Rattle.format_laws.proofs.TypesBack.{BehindFull, FullThen, Starts, full_again, semicolon_ends}
use Rattle.format_laws.proofs.Balanced.{Ended, bind_ends, ending, found, function_ends, include_ends, path_ends, prefix_ends, type_ends, valid_ends, variable_ends, word_before}
use Rattle.format_laws.proofs.Seams.{seam3, seam4, seam5}

-- ---- the sign of a setting

abbrev setting_of : Bool → Sort
setting_of true = sorts.ConditionalAssign
setting_of false = sorts.Assign

setting_again : (b : Bool) → is_setting (setting_of b) ≡ true
setting_again true = refl
setting_again false = refl

setting_kept : (b : Bool) → at sorts.ConditionalAssign (setting_of b) ≡ b
setting_kept true = refl
setting_kept false = refl

setting_then : {file t : List ℕ} {P : Follows} (b : Bool) → Reads file t P
    → Reads file (setting_text b ++ t) (Behind (setting_of b) P)
setting_then true r = blank 32 refl (with_equals_then 63 refl refl (blank 32 refl r))
setting_then {t = t} false r = blank 32 refl (without_then {k = 32 ∷ t} 61 refl refl refl refl
    (blank 32 refl r))

setting_apart : (b : Bool) (t : List ℕ) → Apart (setting_text b ++ t)
setting_apart true t = apart_space
setting_apart false t = apart_space

-- ---- what begins with a semicolon

stop_not_else : {n : ℕ} {P : Follows} {X : Type 0} (us : Tokens) (ps : List Piece) → Stop n P us ps
    → X → NotElse us
stop_not_else us ps (stop {t = t} {ts = ts} z w r) x = not_else sorts.Semicolon t ts refl z

stop_starts : {n : ℕ} {P : Follows} → Starts BehindFull (Stop n P)
stop_starts us ps (stop z w r) = subst BehindFull (sym z) semicolon_ends

-- ---- that forms are the same but for places

assign_bare : (l : Bool) (v w : List ℕ) (a b : Bool) (i j : Item) → v ≡ w → a ≡ b
    → bare_item i ≡ bare_item j → statements.Assign l v a (bare_item i) ≡ statements.Assign l w b
    (bare_item j)
assign_bare l v w a b i j e1 e2 e3 = cc

variable_bare : (l : Bool) (v w : List ℕ) (a b : Bool) (i j : Item) → v ≡ w → a ≡ b
    → bare_item i ≡ bare_item j → statements.Variable l v a (bare_item i)
    ≡ statements.Variable l w b (bare_item j)
variable_bare l v w a b i j e1 e2 e3 = cc

function_bare : (v w : List ℕ) (i j : Item) → v ≡ w → bare_item i ≡ bare_item j
    → statements.Function v (bare_item i) ≡ statements.Function w (bare_item j)
function_bare v w i j e1 e2 = cc

valid_bare : (v w : List ℕ) (i j : Item) → v ≡ w → bare_item i ≡ bare_item j
    → statements.Valid v (bare_item i) ≡ statements.Valid w (bare_item j)
valid_bare v w i j e1 e2 = cc

define_bare : (v w : List ℕ) (f g : FullType) → v ≡ w → bare_full f ≡ bare_full g
    → statements.Define v (bare_full f) ≡ statements.Define w (bare_full g)
define_bare v w f g e1 e2 = cc

bind_bare : (v w : List ℕ) (f g : FullType) → v ≡ w → bare_full f ≡ bare_full g
    → statements.Bind v (bare_full f) ≡ statements.Bind w (bare_full g)
bind_bare v w f g e1 e2 = cc

module _ (May : ℕ → Tokens → Type 0) where
  -- a statement whose semicolon has so many bytes behind it
  pub record Stands (n : ℕ) (ts : Tokens) (x : Statement) (rest : Tokens) : Type 0 where
    pub is : IsStatement May ts x rest
    pub end : Ended n ts rest

  abbrev pub StatementThen : ℕ → Statement → Follows → Follows
  StatementThen n x P =
      Then Statement (Stands n) (λ y. bare_statement y ≡ bare_statement x) P

  record Sets (p : Place) (last : Bool) (n : ℕ) (ts : Tokens) (x : Statement) (rest : Tokens)
      : Type 0 where
    is : IsSetting May p last ts x rest
    end : Ended n ts rest

  stands : {n : ℕ} {ts rest : Tokens} {x : Statement} (s : Token) → IsStatement May ts x rest
      → found 0 ts ≡ ending s rest → s.end + n ≡ ended rest → Stands n ts x rest
  stands s h f c =
      record { is = h; end = record { semicolon = s; finds = f; counts = c } }

  sets : {p : Place} {last : Bool} {n : ℕ} {ts rest : Tokens} {x : Statement} (s : Token)
      → IsSetting May p last ts x rest → found 0 ts ≡ ending s rest → s.end + n ≡ ended rest
      → Sets p last n ts x rest
  sets s h f c =
      record { is = h; end = record { semicolon = s; finds = f; counts = c } }

  -- wherever the statement begins
  abbrev SettingThen : ℕ → Bool → StatementForm → Follows → Follows
  SettingThen n last f P us ps = (p : Place) → Then Statement (Sets p last n)
      (λ y. bare_statement y ≡ bare_statement (stated nowhere f)) P us ps

  abbrev IncludedThen : Item → Follows → Follows
  IncludedThen i P = Then Item (IsIncluded May) (λ y. bare_item y ≡ bare_item i) P

  path_so : (last : Bool) (v : List ℕ) (b : Bool) (i : Item) {P : Follows} {n : ℕ} (us : Tokens)
      (ps : List Piece) → Holding sorts.Text v
      (Behind (setting_of b) (ItemThen May 0 i (Stop n P))) us ps
      → SettingThen n last (statements.Assign last v b i) P us ps
  path_so last v b i us ps (holding {t = x} s q (behind {t = a} e (so h c (stop {t = k} z w r)))) p
      =
      let m = ap is_setting e ∙ setting_again b in
      so (sets k (of_path s m h z) (path_ends May x a s m h z) w)
      (ap (stated nowhere) (assign_bare last _ _ _ _ _ _ q
      (ap (at sorts.ConditionalAssign) e ∙ setting_kept b) c)) r

  variable_so : (last : Bool) (v : List ℕ) (b : Bool) (i : Item) {P : Follows} {n : ℕ}
      → is_word (sort_of kinds.Word v) ≡ true → (us : Tokens) (ps : List Piece)
      → Behind sorts.Variable (Holding (sort_of kinds.Word v) v
      (Behind (setting_of b) (ItemThen May 0 i (Stop n P)))) us ps
      → SettingThen n last (statements.Variable last v b i) P us ps
  variable_so last v b i g us ps (behind {t = l} o (holding {t = x} s q
      (behind {t = a} e (so h c (stop {t = k} z w r))))) p =
      let m = ap is_setting e ∙ setting_again b in
      let u = ap is_word s ∙ g in
      so (sets k (of_variable o u m h z) (variable_ends May l x a o u m h z) w)
      (ap (stated nowhere) (variable_bare last _ _ _ _ _ _ q
      (ap (at sorts.ConditionalAssign) e ∙ setting_kept b) c)) r

  setting_some : {p : Place} {last : Bool} {ts rest : Tokens} {x : Statement}
      → IsSetting May p last ts x rest → ts ≡ [] → ⊥
  setting_some (of_path s e h z) q = cc
  setting_some (of_variable o s e h z) q = cc

  no_setting : {p : Place} {last : Bool} {n : ℕ} {ps : List Piece} {P : Follows} {X : Type 0}
      (f : StatementForm) → Then Statement (Sets p last n)
      (λ y. bare_statement y ≡ bare_statement (stated nowhere f)) P [] ps → X
  no_setting f (so h b r) = absurd (setting_some h.is refl)

  setting_from : {t : Token} {us : Tokens} {ps : List Piece} (q : Place) (f : StatementForm)
      {P : Follows} {n : ℕ} → Then Statement (Sets t.place false n)
      (λ y. bare_statement y ≡ bare_statement (stated nowhere f)) P (t ∷ us) ps
      → StatementThen n (stated q f) P (t ∷ us) ps
  setting_from q f (so h b r) = so (record { is = a_setting h.is; end = h.end }) b r

  setting_so : (q : Place) (f : StatementForm) {P : Follows} {n : ℕ} (us : Tokens) (ps : List Piece)
      → SettingThen n false f P us ps → StatementThen n (stated q f) P us ps
  setting_so q f {P = P} [] ps h = no_setting {P = P} f (h nowhere)
  setting_so q f (u ∷ us) ps h = setting_from q f (h u.place)

  final_from : {t : Token} {us : Tokens} {ps : List Piece} (q : Place) (f : StatementForm)
      {P : Follows} {n : ℕ} → sort t ≡ sorts.Final → Then Statement (Sets t.place true n)
      (λ y. bare_statement y ≡ bare_statement (stated nowhere f)) P us ps
      → StatementThen n (stated q f) P (t ∷ us) ps
  final_from q f e (so h b r) =
      so (record { is = a_final e h.is; end = word_before sorts.Final refl e h.end }) b r

  final_so : (q : Place) (f : StatementForm) {P : Follows} {n : ℕ} (us : Tokens) (ps : List Piece)
      → Behind sorts.Final (SettingThen n true f P) us ps → StatementThen n (stated q f) P us ps
  final_so q f us ps (behind {t = t} e h) = final_from q f e (h t.place)

  function_so : (q : Place) (v : List ℕ) (i : Item) {P : Follows} {n : ℕ}
      → is_word (sort_of kinds.Word v) ≡ true → (us : Tokens) (ps : List Piece)
      → Behind sorts.Function (Holding (sort_of kinds.Word v) v
      (Behind sorts.Assign (ItemThen May 0 i (Stop n P)))) us ps
      → StatementThen n (stated q (statements.Function v i)) P us ps
  function_so p0 v i g us ps (behind {t = l} o (holding {t = x} s q
      (behind {t = a} e (so h c (stop {t = k} z w r))))) =
      let u = ap is_word s ∙ g in
      so (stands k (a_function o u e h z) (function_ends May l x a o u e h z) w)
      (ap (stated nowhere) (function_bare _ _ _ _ q c)) r

  type_so : (q : Place) (v : List ℕ) (f : FullType) {P : Follows} {n : ℕ}
      → is_word (sort_of kinds.Word v) ≡ true → (us : Tokens) (ps : List Piece)
      → Behind sorts.«Type» (Holding (sort_of kinds.Word v) v
      (Behind sorts.Assign (FullThen May 0 f (Stop n P)))) us ps
      → StatementThen n (stated q (statements.Define v f)) P us ps
  type_so p0 v f g us ps (behind {t = l} o (holding {t = x} s q
      (behind {t = a} e (so h c (stop {t = k} z w r))))) =
      let u = ap is_word s ∙ g in
      so (stands k (a_type o u e h z) (type_ends May l x a o u e h z) w)
      (ap (stated nowhere) (define_bare _ _ _ _ q c)) r

  bind_so : (q : Place) (v : List ℕ) (f : FullType) {P : Follows} {n : ℕ} (us : Tokens)
      (ps : List Piece)
      → Behind sorts.Bind (Holding sorts.Text v
      (Behind sorts.Assign (FullThen May 0 f (Stop n P)))) us ps
      → StatementThen n (stated q (statements.Bind v f)) P us ps
  bind_so p0 v f us ps (behind {t = l} o (holding {t = x} s q
      (behind {t = a} e (so h c (stop {t = k} z w r))))) =
      so (stands k (a_bind o s e h z) (bind_ends May l x a o s e h z) w)
      (ap (stated nowhere) (bind_bare _ _ _ _ q c)) r

  valid_so : (q : Place) (v : List ℕ) (i : Item) {P : Follows} {n : ℕ} (us : Tokens)
      (ps : List Piece)
      → Behind sorts.Valid (Holding sorts.Text v
      (Behind sorts.Assign (ItemThen May 0 i (Stop n P)))) us ps
      → StatementThen n (stated q (statements.Valid v i)) P us ps
  valid_so p0 v i us ps (behind {t = l} o (holding {t = x} s q
      (behind {t = a} e (so h c (stop {t = k} z w r))))) =
      so (stands k (a_valid o s e h z) (valid_ends May l x a o s e h z) w)
      (ap (stated nowhere) (valid_bare _ _ _ _ q c)) r

  prefix_so : (q : Place) (v : List ℕ) {P : Follows} {n : ℕ} (us : Tokens) (ps : List Piece)
      → Behind sorts.Prefix (Holding sorts.Text v (Stop n P)) us ps
      → StatementThen n (stated q (statements.Prefix v)) P us ps
  prefix_so p0 v us ps (behind {t = l} o (holding {t = x} s q (stop {t = k} {ts = ts} z w r))) =
      so (stands k (a_prefix o s z) (prefix_ends l x k ts o s z) w)
      (ap (stated nowhere) (ap statements.Prefix q)) r

  include_so : (q : Place) (i : Item) {P : Follows} {n : ℕ} (us : Tokens) (ps : List Piece)
      → Behind sorts.Include (IncludedThen i (Stop n P)) us ps
      → StatementThen n (stated q (statements.Include i)) P us ps
  include_so p0 i us ps (behind {t = l} o (so h c (stop {t = k} z w r))) =
      so (stands k (an_include o h z) (include_ends May l o h z) w)
      (ap (stated nowhere) (ap statements.Include c)) r

  text_included_so : (p : Place) (v : List ℕ) {P : Follows} → ((us : Tokens) → May 1 us)
      → (us : Tokens) (ps : List Piece) → Holding sorts.Text v P us ps
      → IncludedThen (plain (nodes.Text p v)) P us ps
  unfolding bare_item bare_node
  text_included_so p0 v m us ps (holding s q r) =
      so (text_included (m _) s) (ap (λ (w : List ℕ). nodes.Plain nowhere
      (nodes.Text nowhere w)) q) r

  block_included_so : (p : Place) (is : List Item) {P : Follows} → ((us : Tokens) → May 1 us)
      → (us : Tokens) (ps : List Piece) → Behind sorts.OpenBrace (ItemsThen May 1 is P) us ps
      → IncludedThen (block p is) P us ps
  unfolding bare_item
  block_included_so p0 is0 m us ps (behind e (so h b r)) =
      so (block_included (m _) e h) (ap (nodes.Block nowhere) b) r

module _ (file : List ℕ) (May : ℕ → Tokens → Type 0)
    (alike : (d : ℕ) (t : Token) (ts us : Tokens) → May d (t ∷ ts) → May d us) where
  item_ended : {ts rest : Tokens} {i : Item} {t : List ℕ} {P : Follows} → IsItem May 0 ts i rest
      → item_words i → Reads file t P → Reads file (item_text 0 i ++ 59 ∷ 10 ∷ t)
      (ItemThen May 0 i (Stop (suc (length t)) P))
  item_ended h w r = item_again file May alike h 0 w apart_semicolon
      stop_not_else (stop_then r)

  full_ended : {ts rest : Tokens} {f : FullType} {t : List ℕ} {P : Follows} → IsFull May 0 ts f rest
      → full_words f → Reads file t P → Reads file (full_text 0 f ++ 59 ∷ 10 ∷ t)
      (FullThen May 0 f (Stop (suc (length t)) P))
  full_ended h w r = full_again file May alike h 0 w apart_semicolon
      stop_starts (stop_then r)

  path_again : {ts rest : Tokens} {i : Item} {t : List ℕ} {P : Follows} (v : List ℕ) (b : Bool)
      → IsItem May 0 ts i rest → item_words i → Reads file t P
      → Reads file (quoted v ++ setting_text b ++ item_text 0 i ++ codes ";\n" ++ t)
      (Holding sorts.Text v (Behind (setting_of b) (ItemThen May 0 i (Stop (suc (length t)) P))))
  path_again {i = i} {t = t} v b h w r = seam4 (quoted v) (setting_text b) (item_text 0 i)
      (codes ";\n") t (text_then v (setting_apart b _) (setting_then b (item_ended h w r)))

  variable_again : {ts rest : Tokens} {i : Item} {t : List ℕ} {P : Follows} (v : List ℕ) (b : Bool)
      → IsWord v → IsItem May 0 ts i rest → item_words i → Reads file t P
      → Reads file (codes "variable " ++ v ++ setting_text b ++ item_text 0 i ++ codes ";\n" ++ t)
      (Behind sorts.Variable (Holding (sort_of kinds.Word v) v
      (Behind (setting_of b) (ItemThen May 0 i (Stop (suc (length t)) P)))))
  variable_again {i = i} {t = t} v b wv h w r =
      seam5 (codes "variable ") v (setting_text b) (item_text 0 i) (codes ";\n") t
      (keyword (codes "variable") (refl, refl) refl
      (word_then v wv (setting_apart b (item_text 0 i ++ 59 ∷ 10 ∷ t)).no_word
      (setting_then b (item_ended h w r))))

  included_again : {ts rest : Tokens} {i : Item} {t : List ℕ} {P : Follows}
      → IsIncluded May ts i rest → item_words i → Reads file t P
      → Reads file (item_text 0 i ++ 59 ∷ 10 ∷ t) (IncludedThen May i (Stop (suc (length t)) P))
  unfolding item_text node_text
  included_again (text_included {t = v} {rest = rest} m e) w r =
      mapped (text_included_so May v.place v.value (λ us. alike 1 v rest us m))
      (text_then v.value apart_semicolon (stop_then r))
  included_again (block_included {t = o} {ts = ts} {is = is} m e h) w r =
      mapped (block_included_so May o.place is (λ us. alike 1 o ts us m))
      (items_again file May alike h 0 w (stop_then r))

  pub statement_again : {ts rest : Tokens} {x : Statement} {t : List ℕ} {P : Follows}
      → IsStatement May ts x rest → form_words x.form → Reads file t P
      → Reads file (statement_text x ++ t) (StatementThen May (suc (length t)) x P)
  statement_again (a_setting {t = o} (of_path {t = v} {a = a} {i = i} s e h z)) w r =
      let f = statements.Assign false v.value (conditional a) i in
      mapped (setting_so May o.place f) (mapped (path_so May false v.value (conditional a) i)
      (path_again v.value (conditional a) h w.1 r))
  statement_again (a_setting {t = o} (of_variable {w = v} {a = a} {i = i} q s e h z)) w r =
      let f = statements.Variable false v.value (conditional a) i in
      mapped (setting_so May o.place f) (mapped
      (variable_so May false v.value (conditional a) i (word_again v s))
      (variable_again v.value (conditional a) w.0 h w.1 r))
  statement_again (a_final {t = o} q (of_path {t = v} {a = a} {i = i} s e h z)) w r =
      let f = statements.Assign true v.value (conditional a) i in
      mapped (final_so May o.place f) (keyword (codes "final") (refl, refl) refl
      (mapped (path_so May true v.value (conditional a) i)
      (path_again v.value (conditional a) h w.1 r)))
  statement_again (a_final {t = o} q (of_variable {w = v} {a = a} {i = i} q2 s e h z)) w r =
      let f = statements.Variable true v.value (conditional a) i in
      mapped (final_so May o.place f) (keyword (codes "final") (refl, refl) refl
      (mapped (variable_so May true v.value (conditional a) i (word_again v s))
      (variable_again v.value (conditional a) w.0 h w.1 r)))
  statement_again {t = t} (a_function {t = o} {w = v} {i = i} q s e h z) w r =
      mapped (function_so May o.place v.value i (word_again v s))
      (seam5 (codes "function ") v.value (codes " = ") (item_text 0 i) (codes ";\n") t
      (keyword (codes "function") (refl, refl) refl
      (word_then {k = 32 ∷ 61 ∷ 32 ∷ (item_text 0 i ++ 59 ∷ 10 ∷ t)} v.value w.0 refl
      (setting_then false (item_ended h w.1 r)))))
  statement_again {t = t} (a_type {t = o} {w = v} {f = f} q s e h z) w r =
      mapped (type_so May o.place v.value f (word_again v s))
      (seam5 (codes "type ") v.value (codes " = ") (full_text 0 f) (codes ";\n") t
      (keyword (codes "type") (refl, refl) refl
      (word_then {k = 32 ∷ 61 ∷ 32 ∷ (full_text 0 f ++ 59 ∷ 10 ∷ t)} v.value w.0 refl
      (setting_then false (full_ended h w.1 r)))))
  statement_again {t = t} (a_bind {t = o} {x = v} {f = f} q s e h z) w r =
      mapped (bind_so May o.place v.value f) (seam5 (codes "bind ") (quoted v.value) (codes " = ")
      (full_text 0 f) (codes ";\n") t
      (keyword (codes "bind") (refl, refl) refl
      (text_then v.value apart_space (setting_then false (full_ended h w.1 r)))))
  statement_again {t = t} (a_valid {t = o} {x = v} {i = i} q s e h z) w r =
      mapped (valid_so May o.place v.value i)
      (seam5 (codes "valid ") (quoted v.value) (codes " = ") (item_text 0 i) (codes ";\n") t
      (keyword (codes "valid") (refl, refl) refl
      (text_then v.value apart_space (setting_then false (item_ended h w.1 r)))))
  statement_again {t = t} (an_include {t = o} {i = i} q h z) w r =
      mapped (include_so May o.place i) (seam3 (codes "include ") (item_text 0 i) (codes ";\n") t
      (keyword (codes "include") (refl, refl) refl (included_again h w r)))
  statement_again {t = t} (a_prefix {t = o} {x = v} q s z) w r =
      mapped (prefix_so May o.place v.value) (seam3 (codes "prefix ") (quoted v.value)
      (codes ";\n") t
      (keyword (codes "prefix") (refl, refl) refl
      (text_then v.value apart_semicolon (stop_then r))))
