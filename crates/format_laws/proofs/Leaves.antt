-- No text of a node begins with an equals sign.
use Rattle.std.proofs.Common.{◌≡◌, ℕ, ◌<◌, true, false, List, [], ◌∷◌, ◌++◌, length, refl, sym, subst, arith, append_assoc, eqb}
use Rattle.std.specs.Prelude.{codes, decimal, ℤ}
use Rattle.std.specs.Fmt.{signed_decimal}
use Rattle.std.specs.Char.{digit_value}
use Rattle.std.specs.Str.Parse.{AllDigits}
use Rattle.std.proofs.lemmas.Bool.Decides.{nat_tests}
use Rattle.std.proofs.lemmas.Fmt.{decimal_is_IsNumeral}
use Rattle.path_tree.specs.declared.operators.UnaryOp.TheVariants as unary
use Rattle.pan_ast.specs.Syntax.{Node, Long, Text, Boolean, Undef, Null, Name, Call, Inside, Index, Unary, Binary, And, Or}
use Rattle.pan_lexer.specs.Bytes.{is_word_start, starts}
use Rattle.pan_format.specs.Items.{arguments_text, item_text, node_text}
use Rattle.pan_format.specs.Words.{binary_sign}
use Rattle.format_laws.proofs.Reading.{IsWord}
use Rattle.format_laws.proofs.Worded.{node_words}

digit_apart : (c : ℕ) → digit_value c < 10 → eqb c 61 ≡ false
digit_apart c h = grind (arith, nat_tests)

letter_apart : (c : ℕ) → is_word_start c ≡ true → eqb c 61 ≡ false
letter_apart c h = grind (arith, nat_tests)

digits_front : (ds t : List ℕ) → AllDigits 10 ds → 0 < length ds → starts 61 (ds ++ t) ≡ false
digits_front [] t a h = absurd (omega (arith, h))
digits_front (c ∷ cs) t a h = digit_apart c a.0

word_front : (w t : List ℕ) → IsWord w → starts 61 (w ++ t) ≡ false
word_front [] t h = let q : false ≡ true = h.0 in absurd cc
word_front (c ∷ cs) t h = letter_apart c h.0

joined_front : (a b t : List ℕ) → starts 61 (a ++ (b ++ t)) ≡ false
    → starts 61 (a ++ b ++ t) ≡ false
joined_front a b t h = subst (λ (u : List ℕ). starts 61 u ≡ false) (sym (append_assoc a b t)) h

mutual
  unfolding node_text

  pub front : (k : ℕ) (x : Node) → node_words x → (t : List ℕ)
      → starts 61 (node_text k x ++ t) ≡ false
  front k (Long p n) w t =
      let numeral = decimal_is_IsNumeral w.0 (omega (arith, w.2)) in
      subst (λ (y : ℤ). starts 61 (signed_decimal y ++ t) ≡ false) (sym w.1)
      (digits_front (decimal w.0) t numeral.0.1 numeral.0.0)
  front k (Text p x) w t = refl
  front k (Boolean p true) w t = refl
  front k (Boolean p false) w t = refl
  front k (Undef p) w t = refl
  front k (Null p) w t = refl
  front k (Name p x) w t = word_front x t w
  front k (Call p f is) w t = joined_front (f ++ codes "(" ++ arguments_text k is) (codes ")") t
      (joined_front (f ++ codes "(") (arguments_text k is) (41 ∷ t)
      (joined_front f (codes "(") (arguments_text k is ++ 41 ∷ t) (word_front f _ w.0)))
  front k (Inside p i) w t = refl
  front k (Index p x i) w t = joined_front (node_text k x ++ codes "[" ++ item_text k i)
      (codes "]") t (joined_front (node_text k x ++ codes "[") (item_text k i) (93 ∷ t)
      (joined_front (node_text k x) (codes "[") (item_text k i ++ 93 ∷ t) (front k x w.0 _)))
  front k (Unary p unary.Plus x) w t = refl
  front k (Unary p unary.Minus x) w t = refl
  front k (Unary p unary.Not x) w t = refl
  front k (Unary p unary.Flip x) w t = refl
  front k (Binary p op a b) w t = joined_front (node_text k a ++ binary_sign op) (node_text k b) t
      (joined_front (node_text k a) (binary_sign op) (node_text k b ++ t) (front k a w.0 _))
  front k (And p a b) w t = joined_front (node_text k a ++ codes " && ") (node_text k b) t
      (joined_front (node_text k a) (codes " && ") (node_text k b ++ t) (front k a w.0 _))
  front k (Or p a b) w t = joined_front (node_text k a ++ codes " || ") (node_text k b) t
      (joined_front (node_text k a) (codes " || ") (node_text k b ++ t) (front k a w.0 _))
