-- The layout of what a file says is UTF-8.
use Rattle.std.proofs.Common.{◌≡◌, ℕ, zero, suc, ◌<◌, Bool, true, false, cond, eqb, List, [], ◌∷◌, ◌++◌, get_or, Option, Some, None, refl, sym, subst, arith, append_assoc}
use Rattle.std.specs.Prelude.{codes, decimal, flat_map, nat_lt, ℤ, pos, negsuc}
use Rattle.std.specs.Fmt.{signed_decimal}
use Rattle.std.specs.List.{list_all}
use Rattle.std.specs.Ordering.{int_eq}
use Rattle.std.specs.Str.{IsUtf8}
use Rattle.std.proofs.lemmas.Bool.{eqb-true, ltb-true}
use Rattle.std.proofs.lemmas.Fmt.{IsAscii-decimal}
use Rattle.std.proofs.lemmas.Str.{IsUtf8-append, IsUtf8-from_ascii, IsUtf8-nil}
use Rattle.path_tree.specs.declared.operators.UnaryOp.{UnaryOp}
use Rattle.path_tree.specs.declared.operators.UnaryOp.TheVariants as unary
use Rattle.path_tree.specs.declared.operators.BinaryOp.{BinaryOp}
use Rattle.path_tree.specs.declared.operators.BinaryOp.TheVariants as binary
use Rattle.pan_ast.specs.declared.template.TemplateKind.{TemplateKind}
use Rattle.pan_ast.specs.declared.template.TemplateKind.TheVariants as template_kinds
use Rattle.pan_ast.specs.declared.types.Bounds.{Bounds}
use Rattle.pan_ast.specs.declared.types.Suffix.{Suffix}
use Rattle.pan_ast.specs.declared.types.Suffix.TheVariants as suffixes
use Rattle.pan_ast.specs.Syntax.{Item, Node, Reference, Items, none, more, Block, If, IfElse, While, For, Foreach, Assign, Plain, Refer, Long, Text, Boolean, Undef, Null, Name, Call, Inside, Index, Unary, Binary, And, Or}
use Rattle.pan_ast.specs.Types.{FullType, TypeForm, Field, fields_of}
use Rattle.pan_ast.specs.Templates.{Statement}
use Rattle.pan_lexer.specs.Bytes.{is_name_byte, is_word_byte}
use Rattle.pan_lexer.proofs.Ascii.{around, low_name, low_word, tail}
use Rattle.pan_lexer.proofs.CleanLines.{and_both}
use Rattle.pan_grammar.specs.Grammar.{Tokens}
use Rattle.pan_grammar.specs.Types.{IsBounded, IsBounds, IsFields, IsFull, IsRange, IsSuffixes, IsType, a_choice, a_dict, a_full, a_link, a_list, a_named, a_range, a_record, an_extensible, at_least, at_most, bounded, exactly, from_low, from_to, include_field, no_field, no_range, no_suffix, own_field, unbounded}
use Rattle.pan_grammar.specs.Templates.{IsSetting, IsStatement, a_bind, a_final, a_function, a_prefix, a_setting, a_type, a_valid, an_include, of_path, of_variable}
use Rattle.pan_format.specs.Items.{item_text, block_lines, reference_text, indexes_text, node_text, arguments_text, further_arguments}
use Rattle.pan_format.specs.Types.{beside, bounds_text, default_text, field_lines, field_text, form_text, full_text, further_texts, head_text, mark_text, named_bounds, range_text, suffix_text, test_text}
use Rattle.pan_format.specs.Statements.{final_text, kind_text, setting_text, statement_text}
use Rattle.pan_format.specs.Words.{binary_sign, braced, doubled, indent, quoted, unary_sign}
use Rattle.format_laws.proofs.Reading.{IsWord}
use Rattle.format_laws.proofs.Ranges.{IsWithin, within}
use Rattle.format_laws.proofs.Spelt.{IsNamed}
use Rattle.format_laws.proofs.Worded.{are_texts, fields_words, form_words, full_words, item_words, items_words, node_words, option_words, reference_words, type_words}

join : {a b : List ℕ} → IsUtf8 a → IsUtf8 b → IsUtf8 (a ++ b)
join {a = a} {b = b} u v = IsUtf8-append a b u v

low : (b : ℕ) → b < 128 → IsUtf8 (b ∷ [])
low b h = IsUtf8-from_ascii (b ∷ []) (λ i. at i) where
  at : (i : ℕ) → get_or (b ∷ []) i 0 < 128
  at zero = h
  at (suc i) = omega arith

lows : (p : ℕ → Bool) → ((b : ℕ) → p b ≡ true → b < 128) → (bs : List ℕ) → list_all p bs ≡ true
    → IsUtf8 bs
lows p f [] a = IsUtf8-nil
lows p f (b ∷ bs) a = let both = and_both (p b) (list_all p bs) a in join {a = b ∷ []}
    (low b (f b both.0)) (lows p f bs both.1)

word_text : (w : List ℕ) → IsWord w → IsUtf8 w
word_text w h = lows is_word_byte low_word w h.1

pub name_text : (w : List ℕ) → IsNamed w → IsUtf8 w
name_text [] h = IsUtf8-nil
name_text (b ∷ bs) h = join {a = b ∷ []} (low b (low_name b h.0))
    (lows is_name_byte low_name bs h.1)

pub closed_text : (bs : List ℕ) → list_all (λ b. nat_lt b 128) bs ≡ true → IsUtf8 bs
closed_text bs e = lows (λ b. nat_lt b 128) (λ b h. ltb-true b 128 h) bs e

number_text : (n : ℤ) → IsWithin n → IsUtf8 (signed_decimal n)
number_text (pos n) h = IsUtf8-from_ascii (decimal n) (IsAscii-decimal n (omega (arith, h)))
number_text (negsuc n) h = join {a = 45 ∷ []} (low 45 (omega arith))
    (IsUtf8-from_ascii (decimal (suc n)) (IsAscii-decimal (suc n) (omega (arith, h))))

doubled_text : (pre v : List ℕ) → IsUtf8 (pre ++ v) → IsUtf8 (pre ++ flat_map doubled v)
doubled_text pre [] u = u
doubled_text pre (b ∷ bs) u = by (eqb b 39) refl (doubled_text [] bs)
    (doubled_text (pre ++ b ∷ []) bs) where
      by : (t : Bool) → eqb b 39 ≡ t → (IsUtf8 bs → IsUtf8 (flat_map doubled bs))
          → (IsUtf8 ((pre ++ b ∷ []) ++ bs) → IsUtf8 ((pre ++ b ∷ []) ++ flat_map doubled bs))
          → IsUtf8 (pre ++ (cond t (b ∷ b ∷ []) (b ∷ []) ++ flat_map doubled bs))
      by true e f g =
          let q : b ≡ 39 = eqb-true b 39 e in
          let h : b < 128 = omega (arith, q) in
          let parts = around pre b bs h u in
          join parts.0 (join {a = b ∷ []} (low b h)
          (join {a = b ∷ []} (low b h) (f (tail b bs h parts.1))))
      by false e f g = subst IsUtf8 (append_assoc pre (b ∷ []) (flat_map doubled bs))
          (g (subst IsUtf8 (sym (append_assoc pre (b ∷ []) bs)) u))

quoted_text : (v : List ℕ) → IsUtf8 v → IsUtf8 (quoted v)
quoted_text v u = join (join (closed_text (codes "'") refl) (doubled_text [] v u))
    (closed_text (codes "'") refl)

indent_text : (k : ℕ) → IsUtf8 (indent k)
indent_text zero = IsUtf8-nil
indent_text (suc k) = join (closed_text (codes "    ") refl) (indent_text k)

braced_text : (k : ℕ) (b : List ℕ) → IsUtf8 b → IsUtf8 (braced k b)
braced_text k [] u = closed_text (codes "{ }") refl
braced_text k (b ∷ bs) u = join (join (join (closed_text (codes "{\n") refl) u) (indent_text k))
    (closed_text (codes "}") refl)

unary_text : (op : UnaryOp) → IsUtf8 (unary_sign op)
unary_text unary.Plus = closed_text (codes "+") refl
unary_text unary.Minus = closed_text (codes "-") refl
unary_text unary.Not = closed_text (codes "!") refl
unary_text unary.Flip = closed_text (codes "~") refl

binary_text : (op : BinaryOp) → IsUtf8 (binary_sign op)
binary_text binary.Add = closed_text (codes " + ") refl
binary_text binary.Subtract = closed_text (codes " - ") refl
binary_text binary.Multiply = closed_text (codes " * ") refl
binary_text binary.Divide = closed_text (codes " / ") refl
binary_text binary.Rest = closed_text (codes " % ") refl
binary_text binary.BitAnd = closed_text (codes " & ") refl
binary_text binary.BitOr = closed_text (codes " | ") refl
binary_text binary.BitXor = closed_text (codes " ^ ") refl
binary_text binary.Equal = closed_text (codes " == ") refl
binary_text binary.NotEqual = closed_text (codes " != ") refl
binary_text binary.Less = closed_text (codes " < ") refl
binary_text binary.LessEqual = closed_text (codes " <= ") refl
binary_text binary.More = closed_text (codes " > ") refl
binary_text binary.MoreEqual = closed_text (codes " >= ") refl

mutual
  unfolding item_text block_lines reference_text indexes_text node_text arguments_text
      further_arguments

  pub item_utf8 : (k : ℕ) (x : Item) → item_words x → IsUtf8 (item_text k x)
  item_utf8 k (Block p is) w = braced_text k (block_lines (suc k) is) (lines_utf8 (suc k) is w)
  item_utf8 k (If p c a) w = join (join (join (closed_text (codes "if (") refl) (item_utf8 k c w.0))
      (closed_text (codes ") ") refl)) (item_utf8 k a w.1)
  item_utf8 k (IfElse p c a b) w = join (join
      (join (join (join (closed_text (codes "if (") refl) (item_utf8 k c w.0))
      (closed_text (codes ") ") refl)) (item_utf8 k a w.1)) (closed_text (codes " else ") refl))
      (item_utf8 k b w.2)
  item_utf8 k (While p c b) w = join (join (join (closed_text (codes "while (") refl)
      (item_utf8 k c w.0)) (closed_text (codes ") ") refl)) (item_utf8 k b w.1)
  item_utf8 k (For p a c n b) w =
      join (join (join (join (join (join (join (closed_text (codes "for (") refl)
      (item_utf8 k a w.0)) (closed_text (codes "; ") refl)) (item_utf8 k c w.1))
      (closed_text (codes "; ") refl)) (item_utf8 k n w.2)) (closed_text (codes ") ") refl))
      (item_utf8 k b w.3)
  item_utf8 k (Foreach p x y r b) w =
      join (join (join (join (join (join (join (closed_text (codes "foreach (") refl)
      (word_text x w.0)) (closed_text (codes "; ") refl)) (word_text y w.1))
      (closed_text (codes "; ") refl)) (item_utf8 k r w.2)) (closed_text (codes ") ") refl))
      (item_utf8 k b w.3)
  item_utf8 k (Assign p r i) w = join (join (reference_utf8 k r w.0)
      (closed_text (codes " = ") refl)) (item_utf8 k i w.1)
  item_utf8 k (Plain p x) w = node_utf8 k x w

  lines_utf8 : (k : ℕ) (is : Items) → items_words is → IsUtf8 (block_lines k is)
  lines_utf8 k none w = IsUtf8-nil
  lines_utf8 k (more i is) w = join (join (join (indent_text k) (item_utf8 k i w.0))
      (closed_text (codes ";\n") refl)) (lines_utf8 k is w.1)

  reference_utf8 : (k : ℕ) (r : Reference) → reference_words r → IsUtf8 (reference_text k r)
  reference_utf8 k (Refer p x is) w = join (word_text x w.0) (indexes_utf8 k is w.1)

  indexes_utf8 : (k : ℕ) (is : Items) → items_words is → IsUtf8 (indexes_text k is)
  indexes_utf8 k none w = IsUtf8-nil
  indexes_utf8 k (more i is) w = join (join (join (closed_text (codes "[") refl)
      (item_utf8 k i w.0)) (closed_text (codes "]") refl)) (indexes_utf8 k is w.1)

  node_utf8 : (k : ℕ) (x : Node) → node_words x → IsUtf8 (node_text k x)
  node_utf8 k (Long p n) w = subst (λ (m : ℤ). IsUtf8 (signed_decimal m)) (sym w.1)
      (number_text (pos w.0) w.2)
  node_utf8 k (Text p x) w = quoted_text x w
  node_utf8 k (Boolean p true) w = closed_text (codes "true") refl
  node_utf8 k (Boolean p false) w = closed_text (codes "false") refl
  node_utf8 k (Undef p) w = closed_text (codes "undef") refl
  node_utf8 k (Null p) w = closed_text (codes "null") refl
  node_utf8 k (Name p x) w = word_text x w
  node_utf8 k (Call p f is) w = join (join (join (word_text f w.0) (closed_text (codes "(") refl))
      (arguments_utf8 k is w.1)) (closed_text (codes ")") refl)
  node_utf8 k (Inside p i) w = join (join (closed_text (codes "(") refl) (item_utf8 k i w))
      (closed_text (codes ")") refl)
  node_utf8 k (Index p x i) w = join (join (join (node_utf8 k x w.0) (closed_text (codes "[") refl))
      (item_utf8 k i w.1)) (closed_text (codes "]") refl)
  node_utf8 k (Unary p op x) w = join (unary_text op) (node_utf8 k x w)
  node_utf8 k (Binary p op a b) w = join (join (node_utf8 k a w.0) (binary_text op))
      (node_utf8 k b w.1)
  node_utf8 k (And p a b) w = join (join (node_utf8 k a w.0) (closed_text (codes " && ") refl))
      (node_utf8 k b w.1)
  node_utf8 k (Or p a b) w = join (join (node_utf8 k a w.0) (closed_text (codes " || ") refl))
      (node_utf8 k b w.1)

  arguments_utf8 : (k : ℕ) (is : Items) → items_words is → IsUtf8 (arguments_text k is)
  arguments_utf8 k none w = IsUtf8-nil
  arguments_utf8 k (more i is) w = join (item_utf8 k i w.0) (further_utf8 k is w.1)

  further_utf8 : (k : ℕ) (is : Items) → items_words is → IsUtf8 (further_arguments k is)
  further_utf8 k none w = IsUtf8-nil
  further_utf8 k (more i is) w = join (join (closed_text (codes ", ") refl) (item_utf8 k i w.0))
      (further_utf8 k is w.1)

-- ---- types

range_utf8 : (n m : ℤ) → IsWithin n → IsWithin m → IsUtf8 (range_text (Some n) (Some m))
range_utf8 n m v w = by (int_eq n m) where
  by : (b : Bool) → IsUtf8 (cond b (signed_decimal n)
      (signed_decimal n ++ codes ".." ++ signed_decimal m))
  by true = number_text n v
  by false = join (join (number_text n v) (closed_text (codes "..") refl)) (number_text m w)

bounds_utf8 : {ts rest : Tokens} {b : Bounds} → IsBounds ts b rest → IsUtf8 (bounds_text b)
bounds_utf8 (from_low {n = n} h exactly) = range_utf8 n n (within h) (within h)
bounds_utf8 (from_low {n = n} h (at_least e)) =
    join (number_text n (within h)) (closed_text (codes "..") refl)
bounds_utf8 (from_low {n = n} h (from_to {m = m} e g)) = range_utf8 n m (within h) (within g)
bounds_utf8 (at_most {n = m} e h) = join (closed_text (codes "..") refl) (number_text m (within h))

beside_text : (o : Option ℤ) → IsUtf8 (beside o)
beside_text None = IsUtf8-nil
beside_text (Some n) = closed_text (codes " ") refl

list_utf8 : {last : _} {ts rest : Tokens} {b : Option Bounds} → IsRange last ts b rest
    → IsUtf8 (suffix_text (suffixes.List b))
list_utf8 (no_range e) = closed_text (codes "[]") refl
list_utf8 (a_range h e) = join (join (closed_text (codes "[") refl) (bounds_utf8 h))
    (closed_text (codes "]") refl)

dict_utf8 : {last : _} {ts rest : Tokens} {b : Option Bounds} → IsRange last ts b rest
    → IsUtf8 (suffix_text (suffixes.Dict b))
dict_utf8 (no_range e) = closed_text (codes " { }") refl
dict_utf8 (a_range {b = b} h e) = join (join (join (join (closed_text (codes " {") refl)
    (beside_text b.low)) (bounds_utf8 h)) (beside_text b.high)) (closed_text (codes "}") refl)

suffixes_utf8 : {ts rest : Tokens} {ss : List Suffix} → IsSuffixes ts ss rest
    → IsUtf8 (flat_map suffix_text ss)
suffixes_utf8 (no_suffix e) = IsUtf8-nil
suffixes_utf8 (a_list {b = b} o h k) = join {a = suffix_text (suffixes.List b)} (list_utf8 h)
    (suffixes_utf8 k)
suffixes_utf8 (a_dict {b = b} o h k) = join {a = suffix_text (suffixes.Dict b)} (dict_utf8 h)
    (suffixes_utf8 k)
suffixes_utf8 (a_link o k) = join (closed_text (codes " *") refl) (suffixes_utf8 k)

bounded_utf8 : {ts rest : Tokens} {b : Option Bounds} → IsBounded ts b rest
    → IsUtf8 (named_bounds b)
bounded_utf8 (unbounded e) = IsUtf8-nil
bounded_utf8 (bounded o h e) = join (join (closed_text (codes "(") refl) (bounds_utf8 h))
    (closed_text (codes ")") refl)

further_texts_utf8 : (xs : List (List ℕ)) → are_texts xs → IsUtf8 (further_texts xs)
further_texts_utf8 [] w = IsUtf8-nil
further_texts_utf8 (x ∷ xs) w = join (join (closed_text (codes ", ") refl) (quoted_text x w.0))
    (further_texts_utf8 xs w.1)

default_utf8 : (k : ℕ) (e : Option Item) → option_words e → IsUtf8 (default_text k e)
default_utf8 k None w = IsUtf8-nil
default_utf8 k (Some i) w = join (closed_text (codes " = ") refl) (item_utf8 k i w)

test_utf8 : (k : ℕ) (e : Option Item) → option_words e → IsUtf8 (test_text k e)
test_utf8 k None w = IsUtf8-nil
test_utf8 k (Some i) w = join (closed_text (codes " with ") refl) (item_utf8 k i w)

mark_utf8 : (b : Bool) → IsUtf8 (mark_text b)
mark_utf8 true = closed_text (codes " : ") refl
mark_utf8 false = closed_text (codes " ? ") refl

module _ (May : ℕ → Tokens → Type 0) where
  mutual
    unfolding full_text form_text head_text field_lines field_text

    full_utf8 : {d : ℕ} {ts rest : Tokens} {f : FullType} → IsFull May d ts f rest → (k : ℕ)
        → full_words f → IsUtf8 (full_text k f)
    full_utf8 (a_full {e = e} {w = t} h g l) k w =
        join (join (type_utf8 h k w.0) (default_utf8 k e w.1)) (test_utf8 k t w.2)

    type_utf8 : {d : ℕ} {ts rest : Tokens} {f : TypeForm} → IsType May d ts f rest → (k : ℕ)
        → type_words f → IsUtf8 (form_text k f)
    type_utf8 (a_named {t = v} m e b s) k w =
        join (join (word_text v.value w) (bounded_utf8 b)) (suffixes_utf8 s)
    type_utf8 (a_record {fs = fs} m n e h s) k w =
        join (braced_text k (field_lines (suc k) (fields_of fs)) (fields_utf8 h (suc k) w))
        (suffixes_utf8 s)
    type_utf8 (an_extensible {fs = fs} m n e o h s) k w =
        join (join (closed_text (codes "extensible ") refl)
        (braced_text k (field_lines (suc k) (fields_of fs)) (fields_utf8 h (suc k) w)))
        (suffixes_utf8 s)
    type_utf8 (a_choice {x = x} {xs = xs} m e o q h s) k w =
        join (join (join (closed_text (codes "choice(") refl)
        (join (quoted_text x.value w.0) (further_texts_utf8 xs w.1)))
        (closed_text (codes ")") refl)) (suffixes_utf8 s)

    fields_utf8 : {d : ℕ} {ts rest : Tokens} {fs : List Field} → IsFields May d ts fs rest → (k : ℕ)
        → fields_words (fields_of fs) → IsUtf8 (field_lines k (fields_of fs))
    fields_utf8 (no_field e) k w = IsUtf8-nil
    fields_utf8 (own_field {k = v} {c = c} e q m h g) k w =
        join (join (join (indent_text k) (join (join (quoted_text v.value w.0.0) (mark_utf8 _))
        (full_utf8 h k w.0.1))) (closed_text (codes "\n") refl)) (fields_utf8 g k w.1)
    fields_utf8 (include_field {n = x} e q g) k w =
        join (join (join (indent_text k) (join (closed_text (codes "include ") refl)
        (word_text x.value w.0))) (closed_text (codes "\n") refl)) (fields_utf8 g k w.1)

  setting_utf8 : (b : Bool) → IsUtf8 (setting_text b)
  setting_utf8 true = closed_text (codes " ?= ") refl
  setting_utf8 false = closed_text (codes " = ") refl

  final_utf8 : (b : Bool) → IsUtf8 (final_text b)
  final_utf8 true = closed_text (codes "final ") refl
  final_utf8 false = IsUtf8-nil

  set_utf8 : {p : _} {last : Bool} {ts rest : Tokens} {x : Statement}
      → IsSetting May p last ts x rest → form_words x.form → IsUtf8 (statement_text x)
  set_utf8 {last = last} (of_path {t = v} {i = i} e q h z) w =
      join (join (join (join (final_utf8 last) (quoted_text v.value w.0)) (setting_utf8 _))
      (item_utf8 0 i w.1)) (closed_text (codes ";\n") refl)
  set_utf8 {last = last} (of_variable {w = v} {i = i} o e q h z) w =
      join (join (join (join (join (final_utf8 last) (closed_text (codes "variable ") refl))
      (word_text v.value w.0)) (setting_utf8 _)) (item_utf8 0 i w.1))
      (closed_text (codes ";\n") refl)

  pub statement_utf8 : {ts rest : Tokens} {x : Statement} → IsStatement May ts x rest
      → form_words x.form → IsUtf8 (statement_text x)
  statement_utf8 (a_setting h) w = set_utf8 h w
  statement_utf8 (a_final e h) w = set_utf8 h w
  statement_utf8 (a_function {w = v} {i = i} o e q h z) w =
      join (join (join (join (closed_text (codes "function ") refl) (word_text v.value w.0))
      (closed_text (codes " = ") refl)) (item_utf8 0 i w.1)) (closed_text (codes ";\n") refl)
  statement_utf8 (a_type {w = v} o e q h z) w =
      join (join (join (join (closed_text (codes "type ") refl) (word_text v.value w.0))
      (closed_text (codes " = ") refl)) (full_utf8 h 0 w.1)) (closed_text (codes ";\n") refl)
  statement_utf8 (a_bind {x = v} o e q h z) w =
      join (join (join (join (closed_text (codes "bind ") refl) (quoted_text v.value w.0))
      (closed_text (codes " = ") refl)) (full_utf8 h 0 w.1)) (closed_text (codes ";\n") refl)
  statement_utf8 (a_valid {x = v} {i = i} o e q h z) w =
      join (join (join (join (closed_text (codes "valid ") refl) (quoted_text v.value w.0))
      (closed_text (codes " = ") refl)) (item_utf8 0 i w.1)) (closed_text (codes ";\n") refl)
  statement_utf8 (an_include {i = i} o h z) w =
      join (join (closed_text (codes "include ") refl) (item_utf8 0 i w))
      (closed_text (codes ";\n") refl)
  statement_utf8 (a_prefix {x = v} o e z) w =
      join (join (closed_text (codes "prefix ") refl) (quoted_text v.value w))
      (closed_text (codes ";\n") refl)

pub kind_utf8 : (kind : TemplateKind) → IsUtf8 (kind_text kind)
kind_utf8 template_kinds.Ordinary = IsUtf8-nil
kind_utf8 template_kinds.Object = closed_text (codes "object ") refl
kind_utf8 template_kinds.Structure = closed_text (codes "structure ") refl
kind_utf8 template_kinds.Unique = closed_text (codes "unique ") refl
kind_utf8 template_kinds.Declaration = closed_text (codes "declaration ") refl

pub header_utf8 : (kind : TemplateKind) (v : List ℕ) → IsNamed v
    → IsUtf8 (kind_text kind ++ codes "template " ++ v ++ codes ";\n")
header_utf8 kind v h = join (join (join (kind_utf8 kind) (closed_text (codes "template ") refl))
    (name_text v h)) (closed_text (codes ";\n") refl)
