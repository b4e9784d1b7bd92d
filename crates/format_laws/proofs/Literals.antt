-- Literals are read and parsed back: texts, numbers and the four words that are values.
use Rattle.std.proofs.Common.{◌≡◌, ◌∙◌, ℕ, ◌-◌, ◌^◌, ◌<◌, true, false, List, ◌++◌, Some, refl, sym, ap, subst, arith}
use Rattle.std.specs.Prelude.{codes, decimal, min, pos, ℤ}
use Rattle.path_tree.specs.Grammar.{number_of}
use Rattle.pan_ast.specs.declared.place.Place.{Place}
use Rattle.pan_ast.specs.declared.sort.Sort.{Sort}
use Rattle.pan_ast.specs.declared.sort.Sort.TheVariants as sorts
use Rattle.pan_ast.specs.declared.token.Token.{Token}
use Rattle.pan_ast.specs.Sorts.{sort}
use Rattle.pan_ast.specs.Syntax.{Node, Long, Text, Boolean, Undef, Null}
use Rattle.pan_lexer.specs.declared.pieces.Piece.{Piece}
use Rattle.pan_grammar.specs.Grammar.{Tokens, a_literal, literal, number}
use Rattle.pan_format.specs.Bare.{nowhere, bare_node}
use Rattle.pan_format.specs.Items.{node_text}
use Rattle.format_laws.proofs.Reading.{Apart, Behind, Follows, Holding, Reads, behind, holding, so}
use Rattle.format_laws.proofs.Worded.{node_words}
use Rattle.format_laws.proofs.Fronts.{final_word, mapped, number_again, number_then, text_then}
use Rattle.format_laws.proofs.Items.{PrimaryThen}

least : (n : ℕ) → n < 2 ^ 63 → min n (2 ^ 63 - 1) ≡ n
least n h = omega (arith, h)

-- a token of this value is this number
pub same_number : (t : Token) (n : ℕ) → n < 2 ^ 63 → t.value ≡ decimal n → number t ≡ pos n
same_number t n h q = ap (λ (m : ℕ). pos (min m (2 ^ 63 - 1))) (ap number_of q ∙ number_again n h)
    ∙ ap pos (least n h)

same_some : (x y : Node) → Some x ≡ Some y → x ≡ y
same_some x y e = cc

module _ (May : ℕ → Tokens → Type 0) where
  long_so : {d : ℕ} (p : Place) (n : ℕ) {P : Follows} → n < 2 ^ 63 → (us : Tokens) (ps : List Piece)
      → Holding sorts.Int (decimal n) P us ps → PrimaryThen May d (Long p (pos n)) P us ps
  unfolding bare_node
  long_so p0 n h us ps (holding {t = u} e q r) =
      so (a_literal (ap (λ (s : Sort). literal s u) e)) (ap (Long nowhere) (same_number u n h q)) r

  text_so : {d : ℕ} (p : Place) (v : List ℕ) {P : Follows} (us : Tokens) (ps : List Piece)
      → Holding sorts.Text v P us ps → PrimaryThen May d (Text p v) P us ps
  unfolding bare_node
  text_so p0 v us ps (holding {t = u} e q r) =
      so (a_literal (ap (λ (s : Sort). literal s u) e)) (ap (Text nowhere) q) r

  true_so : {d : ℕ} (p : Place) {P : Follows} (us : Tokens) (ps : List Piece)
      → Behind sorts.True P us ps → PrimaryThen May d (Boolean p true) P us ps
  unfolding bare_node
  true_so p0 us ps (behind {t = u} e r) = so (a_literal (ap (λ (s : Sort). literal s u) e)) refl r

  false_so : {d : ℕ} (p : Place) {P : Follows} (us : Tokens) (ps : List Piece)
      → Behind sorts.False P us ps → PrimaryThen May d (Boolean p false) P us ps
  unfolding bare_node
  false_so p0 us ps (behind {t = u} e r) = so (a_literal (ap (λ (s : Sort). literal s u) e)) refl r

  undef_so : {d : ℕ} (p : Place) {P : Follows} (us : Tokens) (ps : List Piece)
      → Behind sorts.Undef P us ps → PrimaryThen May d (Undef p) P us ps
  unfolding bare_node
  undef_so p0 us ps (behind {t = u} e r) = so (a_literal (ap (λ (s : Sort). literal s u) e)) refl r

  null_so : {d : ℕ} (p : Place) {P : Follows} (us : Tokens) (ps : List Piece)
      → Behind sorts.Null P us ps → PrimaryThen May d (Null p) P us ps
  unfolding bare_node
  null_so p0 us ps (behind {t = u} e r) = so (a_literal (ap (λ (s : Sort). literal s u) e)) refl r

  -- what is claimed of a literal
  abbrev Again : List ℕ → ℕ → ℕ → List ℕ → Follows → Node → Type 0
  Again file d k t P x = node_words x → Reads file (node_text k x ++ t) (PrimaryThen May d x P)

  long_again : {file t : List ℕ} {P : Follows} (d k : ℕ) (v : Token) → Apart t → Reads file t P
      → Again file d k t P (Long v.place (number v))
  unfolding node_text
  long_again {file = file} {t = t} {P = P} d k v apart r w =
      subst (λ (n : ℤ). Reads file (node_text k (Long v.place n) ++ t)
      (PrimaryThen May d (Long v.place n) P)) (sym w.1)
      (mapped (long_so v.place w.0 w.2) (number_then w.0 w.2 apart r))

  literal_by : {file t : List ℕ} {P : Follows} (d k : ℕ) (v : Token) (s : Sort) (x : Node)
      → literal s v ≡ Some x → Apart t → Reads file t P → Again file d k t P x
  unfolding node_text
  literal_by {file = file} {t = t} {P = P} d k v sorts.Int x e apart r =
      subst (Again file d k t P) (same_some (Long v.place (number v)) x e)
      (long_again d k v apart r)
  literal_by {file = file} {t = t} {P = P} d k v sorts.Text x e apart r =
      subst (Again file d k t P) (same_some (Text v.place v.value) x e)
      (λ w. mapped (text_so v.place v.value) (text_then v.value apart r))
  literal_by {file = file} {t = t} {P = P} d k v sorts.True x e apart r =
      subst (Again file d k t P) (same_some (Boolean v.place true) x e)
      (λ w. mapped (true_so v.place) (final_word (codes "true") (refl, refl) refl apart r))
  literal_by {file = file} {t = t} {P = P} d k v sorts.False x e apart r =
      subst (Again file d k t P) (same_some (Boolean v.place false) x e)
      (λ w. mapped (false_so v.place) (final_word (codes "false") (refl, refl) refl apart r))
  literal_by {file = file} {t = t} {P = P} d k v sorts.Undef x e apart r =
      subst (Again file d k t P) (same_some (Undef v.place) x e)
      (λ w. mapped (undef_so v.place) (final_word (codes "undef") (refl, refl) refl apart r))
  literal_by {file = file} {t = t} {P = P} d k v sorts.Null x e apart r =
      subst (Again file d k t P) (same_some (Null v.place) x e)
      (λ w. mapped (null_so v.place) (final_word (codes "null") (refl, refl) refl apart r))
  literal_by d k v _ x e apart r = absurd cc

  pub literal_again : {file t : List ℕ} {P : Follows} (d k : ℕ) (v : Token) (x : Node)
      → literal (sort v) v ≡ Some x → node_words x → Apart t → Reads file t P
      → Reads file (node_text k x ++ t) (PrimaryThen May d x P)
  literal_again d k v x e w apart r = literal_by d k v (sort v) x e apart r w
