-- The words of what tokens of a file parse to are words, and its texts are UTF-8.
use Rattle.std.proofs.Common.{◌≡◌, ℕ, suc, ◌+◌, ◌-◌, ◌^◌, ◌<◌, Bool, true, false, cond, not, eqb, List, [], ◌∷◌, take, Option, Some, refl, ap, subst, arith}
use Rattle.std.specs.Prelude.{min}
use Rattle.std.specs.Cmp.Lexicographic.{pointwise}
use Rattle.std.specs.List.{list_all}
use Rattle.std.specs.Str.{IsUtf8}
use Rattle.path_tree.specs.Grammar.{number_of}
use Rattle.pan_ast.specs.declared.sort.Sort.{Sort}
use Rattle.pan_ast.specs.declared.sort.Sort.TheVariants as sorts
use Rattle.pan_ast.specs.declared.token.Token.{Token}
use Rattle.pan_ast.specs.declared.token.TokenKind.{TokenKind}
use Rattle.pan_ast.specs.declared.token.TokenKind.TheVariants as kinds
use Rattle.pan_ast.specs.Sorts.{at, is_plain, is_type_name, is_word, look_up, signs, sort, sort_of, words}
use Rattle.pan_ast.specs.Syntax.{Item, Node, Reference, Items, items_of}
use Rattle.pan_ast.specs.Syntax as nodes
use Rattle.pan_ast.specs.Types.{FullType, TypeForm, Field, fields_of}
use Rattle.pan_ast.specs.Templates.{Statement}
use Rattle.pan_lexer.specs.Bytes.{is_name_byte, is_word_byte, is_word_start}
use Rattle.pan_lexer.specs.Lexed.{is_naming}
use Rattle.pan_lexer.specs.Parts.{Document, Int, Skip, Text, Written}
use Rattle.pan_lexer.specs.Spelled.{Cuts, IsFront, IsRun, Piece, counts, documents, name, no_more, quotes, run_ends, run_more, sign, skips, word, writes}
use Rattle.pan_lexer.specs.declared.parts.At.{At}
use Rattle.pan_lexer.specs.declared.parts.Mode.{Mode}
use Rattle.pan_lexer.proofs.BothWays.{fronts}
use Rattle.pan_lexer.proofs.Clean.{LeavesText, front_leaves}
use Rattle.pan_lexer.proofs.CleanLines.{and_both}
use Rattle.pan_grammar.specs.Grammar.{Tokens, number, literal, Operator, Of, Both, Either, joined, IsItem, a_block, an_if, an_if_else, a_while, a_for, a_foreach, an_assign, a_chain, IsItems, no_item, items_from, IsMore, closed, closed_late, more, IsReference, a_reference, IsIndexes, no_index, one_index, IsChain, a_unary, a_line, IsTail, tail_ends, tail_more, IsUnary, a_sign, a_primary, IsSuffix, suffix_ends, an_index, IsPrimary, a_literal, a_name, a_call, parens, IsArgs, no_arg, args_from, IsMoreArgs, args_end, more_args}
use Rattle.pan_grammar.specs.Types.{IsBounded, IsBounds, IsFields, IsFull, IsOption, IsRange, IsSigned, IsSuffixes, IsTexts, IsType, a_choice, a_dict, a_full, a_link, a_list, a_named, a_negative, a_number, a_range, a_record, a_text, absent, an_extensible, at_least, at_most, bounded, exactly, from_low, from_to, include_field, no_field, no_range, no_suffix, no_text, own_field, present, unbounded}
use Rattle.pan_grammar.specs.Templates.{IsIncluded, IsSetting, IsStatement, a_bind, a_final, a_function, a_prefix, a_setting, a_type, a_valid, an_include, block_included, of_path, of_variable, text_included}
use Rattle.format_laws.proofs.Reading.{IsWord}
use Rattle.format_laws.proofs.Worded.{are_texts, fields_words, form_words, full_words, item_words, items_words, node_words, option_words, reference_words, type_words}

-- ---- tokens of a file

-- one byte at least, and each of them may stand in a Name
abbrev pub IsNamed : List ℕ → Type 0
IsNamed [] = ⊥
IsNamed (b ∷ bs) = (is_name_byte b ≡ true) × (list_all is_name_byte bs ≡ true)

abbrev pub IsSpelt : TokenKind → List ℕ → Type 0
IsSpelt kinds.Word v = IsWord v
IsSpelt kinds.Name v = IsNamed v
IsSpelt kinds.Int v = Unit {0}
IsSpelt kinds.Text v = IsUtf8 v
IsSpelt kinds.Sign v = Unit {0}
IsSpelt kinds.End v = Unit {0}

pub data AreSpelt : Tokens → Type 0 where
  all_spelt : AreSpelt []
  spelt : {t : Token} {ts : Tokens} → IsSpelt t.kind t.value → AreSpelt ts → AreSpelt (t ∷ ts)

run_is : {p : ℕ → Bool} {bs : List ℕ} {n : ℕ} → IsRun p bs n → list_all p (take n bs) ≡ true
run_is (run_ends h) = refl
run_is {p = p} (run_more {b = b} {n = n} {bs = bs} h r) =
    let one : suc n ≡ 1 + n = omega arith in
    subst (λ (k : ℕ). list_all p (take k (b ∷ bs)) ≡ true) one (rw h (run_is r))

one_more : (n : ℕ) → suc n ≡ 1 + n
one_more n = omega arith

written_spelt : {naming : Bool} {bs : List ℕ} {kind : TokenKind} {n : ℕ}
    → IsFront naming bs (Written kind n) → IsSpelt kind (take n bs)
written_spelt (name {b = b} {n = n} {bs = bs} m h r) =
    subst (λ (k : ℕ). IsNamed (take k (b ∷ bs))) (one_more n) (h, run_is r)
written_spelt (word {b = b} {n = n} {bs = bs} m h r) =
    subst (λ (k : ℕ). IsWord (take k (b ∷ bs))) (one_more n)
    (h, all b (take n bs) h (run_is r)) where
      start_byte : (b : ℕ) → is_word_start b ≡ true → is_word_byte b ≡ true
      start_byte b h = rw h refl

      all : (b : ℕ) (bs : List ℕ) → is_word_start b ≡ true → list_all is_word_byte bs ≡ true
          → list_all is_word_byte (b ∷ bs) ≡ true
      all b bs h a = rw (start_byte b h) a
written_spelt (sign m h) = tt

pub cuts_spelt : {file : List ℕ} {m : Mode} {p : At} {bs : List ℕ} {ts : Tokens} {ps : List Piece}
    → Cuts file m p bs ts ps → IsUtf8 bs → AreSpelt ts
cuts_spelt no_more u = spelt tt all_spelt
cuts_spelt {m = m} {bs = bs} (skips {kind = kind} {n = n} h r) u =
    cuts_spelt r (subst (LeavesText bs) (fronts.only (is_naming m) bs (Skip kind n) h)
    (front_leaves (is_naming m) bs u))
cuts_spelt {m = m} {bs = bs} (writes {n = n} {kind = kind} h r) u =
    spelt (written_spelt h) (cuts_spelt r (subst (LeavesText bs) (fronts.only (is_naming m) bs
    (Written kind n) h) (front_leaves (is_naming m) bs u)))
cuts_spelt {m = m} {bs = bs} (counts {v = v} {n = n} h r) u =
    spelt tt (cuts_spelt r (subst (LeavesText bs) (fronts.only (is_naming m) bs (Int v n) h)
    (front_leaves (is_naming m) bs u)))
cuts_spelt {m = m} {bs = bs} (quotes {v = v} {n = n} h r) u =
    let l = subst (LeavesText bs) (fronts.only (is_naming m) bs (Text v n) h)
    (front_leaves (is_naming m) bs u) in
    spelt l.0 (cuts_spelt r l.1)
cuts_spelt {m = m} {bs = bs} (documents {v = v} {n = n} {k = k} h r) u =
    let l = subst (LeavesText bs) (fronts.only (is_naming m) bs (Document v n k) h)
    (front_leaves (is_naming m) bs u) in
    spelt l.0 (spelt tt (cuts_spelt r l.1))

-- ---- kinds by sorts

pub none_in : (p : Sort → Bool) (v : List ℕ) (other : Sort) (table : List (List ℕ × Sort))
    → p other ≡ false → list_all (λ e. not (p e.1)) table ≡ true → p (look_up other v table) ≡ false
none_in p v other [] o a = o
none_in p v other (e ∷ es) o a =
    let both = and_both (not (p e.1)) (list_all (λ e. not (p e.1)) es) a in
    by (pointwise eqb v e.0) (p e.1) refl both.0 (none_in p v other es o both.1) where
      by : (b w : Bool) → p e.1 ≡ w → not w ≡ true → p (look_up other v es) ≡ false
          → p (cond b e.1 (look_up other v es)) ≡ false
      by true true q n h = absurd cc
      by true false q n h = q
      by false w q n h = h

word_value : (k : TokenKind) (v : List ℕ) → is_word (sort_of k v) ≡ true → IsSpelt k v → IsWord v
word_value kinds.Word v h s = s
word_value kinds.Name v h s = absurd cc
word_value kinds.Int v h s = absurd cc
word_value kinds.Text v h s = absurd cc
word_value kinds.End v h s = absurd cc
word_value kinds.Sign v h s = let q = none_in is_word v sorts.NoSign signs refl refl in absurd cc

text_value : (k : TokenKind) (v : List ℕ) → at sorts.Text (sort_of k v) ≡ true → IsSpelt k v
    → IsUtf8 v
text_value kinds.Text v h s = s
text_value kinds.Name v h s = absurd cc
text_value kinds.Int v h s = absurd cc
text_value kinds.End v h s = absurd cc
text_value kinds.Word v h s = let q = none_in
    (at sorts.Text) v sorts.Word words refl refl in absurd cc
text_value kinds.Sign v h s = let q = none_in
    (at sorts.Text) v sorts.NoSign signs refl refl in absurd cc

name_value : (k : TokenKind) (v : List ℕ) → at sorts.Name (sort_of k v) ≡ true → IsSpelt k v
    → IsNamed v
name_value kinds.Name v h s = s
name_value kinds.Text v h s = absurd cc
name_value kinds.Int v h s = absurd cc
name_value kinds.End v h s = absurd cc
name_value kinds.Word v h s = let q = none_in
    (at sorts.Name) v sorts.Word words refl refl in absurd cc
name_value kinds.Sign v h s = let q = none_in
    (at sorts.Name) v sorts.NoSign signs refl refl in absurd cc

pub left : {t : Token} {ts : Tokens} → AreSpelt (t ∷ ts) → AreSpelt ts
left (spelt h s) = s

word_in : {t : Token} {ts : Tokens} → is_word (sort t) ≡ true → AreSpelt (t ∷ ts) → IsWord t.value
word_in {t = t} e (spelt h s) = word_value t.kind t.value e h

plain_in : {t : Token} {ts : Tokens} → is_plain (sort t) ≡ true → AreSpelt (t ∷ ts) → IsWord t.value
plain_in {t = t} e s = word_in (and_both (is_word (sort t)) _ e).0 s

type_in : {t : Token} {ts : Tokens} → is_type_name (sort t) ≡ true → AreSpelt (t ∷ ts)
    → IsWord t.value
type_in {t = t} e s = word_in (and_both (is_word (sort t)) _ e).0 s

text_in : {t : Token} {ts : Tokens} → sort t ≡ sorts.Text → AreSpelt (t ∷ ts) → IsUtf8 t.value
text_in {t = t} e (spelt h s) = text_value t.kind t.value (ap (at sorts.Text) e) h

pub name_in : {t : Token} {ts : Tokens} → sort t ≡ sorts.Name → AreSpelt (t ∷ ts) → IsNamed t.value
name_in {t = t} e (spelt h s) = name_value t.kind t.value (ap (at sorts.Name) e) h

-- ---- trees

-- what was read is so, and the tokens left are as before
pub record Found (W : Type 0) (rest : Tokens) : Type 0 where
  pub holds : W
  pub behind : AreSpelt rest

found : {W : Type 0} {rest : Tokens} → W → AreSpelt rest → Found W rest
found w s = record { holds = w; behind = s }

least : (n : ℕ) → min n (2 ^ 63 - 1) < 2 ^ 63
least n = omega arith

same_some : (x y : Node) → Some x ≡ Some y → x ≡ y
same_some x y e = cc

literal_words : {t : Token} {ts : Tokens} (s : Sort) (x : Node) → literal s t ≡ Some x → sort t ≡ s
    → AreSpelt (t ∷ ts) → node_words x
literal_words {t = t} sorts.Int x e q s = subst node_words
    (same_some (nodes.Long t.place (number t)) x e)
    (min (number_of t.value) (2 ^ 63 - 1), refl, least (number_of t.value))
literal_words {t = t} sorts.Text x e q s = subst node_words
    (same_some (nodes.Text t.place t.value) x e) (text_in q s)
literal_words {t = t} sorts.True x e q s = subst node_words
    (same_some (nodes.Boolean t.place true) x e) tt
literal_words {t = t} sorts.False x e q s = subst node_words
    (same_some (nodes.Boolean t.place false) x e) tt
literal_words {t = t} sorts.Undef x e q s = subst node_words
    (same_some (nodes.Undef t.place) x e) tt
literal_words {t = t} sorts.Null x e q s = subst node_words (same_some (nodes.Null t.place) x e) tt
literal_words {t = t} _ x e q s = absurd cc

both_words : (op : Operator) (a b : Node) → node_words a → node_words b → node_words (joined op a b)
both_words (Of op) a b v w = (v, w)
both_words Both a b v w = (v, w)
both_words Either a b v w = (v, w)

module _ (May : ℕ → Tokens → Type 0) where
  mutual
    pub item_found : {d : ℕ} {ts rest : Tokens} {x : Item} → IsItem May d ts x rest → AreSpelt ts
        → Found (item_words x) rest
    item_found (a_block m e h) s = items_found h (left s)
    item_found (an_if m e q hc z ha n) s =
        let c = item_found hc (left (left s)) in
        let a = item_found ha (left c.behind) in
        found (c.holds, a.holds) a.behind
    item_found (an_if_else m e q hc z ha l hb) s =
        let c = item_found hc (left (left s)) in
        let a = item_found ha (left c.behind) in
        let b = item_found hb (left a.behind) in
        found (c.holds, a.holds, b.holds) b.behind
    item_found (a_while m e q hc z hb) s =
        let c = item_found hc (left (left s)) in
        let b = item_found hb (left c.behind) in
        found (c.holds, b.holds) b.behind
    item_found (a_for m e q ha z1 hc z2 hn z3 hb) s =
        let a = item_found ha (left (left s)) in
        let c = item_found hc (left a.behind) in
        let n = item_found hn (left c.behind) in
        let b = item_found hb (left n.behind) in
        found (a.holds, c.holds, n.holds, b.holds) b.behind
    item_found (a_foreach m e q ek z1 ev z2 hr z3 hb) s =
        let k = left (left s) in
        let v = left (left k) in
        let r = item_found hr (left (left v)) in
        let b = item_found hb (left r.behind) in
        found (word_in ek k, word_in ev v, r.holds, b.holds) b.behind
    item_found (an_assign m hr e hy) s =
        let r = reference_found hr s in
        let y = item_found hy (left r.behind) in
        found (r.holds, y.holds) y.behind
    item_found (a_chain m h) s = chain_found h s

    pub items_found : {d : ℕ} {ts rest : Tokens} {is : List Item} → IsItems May d ts is rest
        → AreSpelt ts → Found (items_words (items_of is)) rest
    items_found (no_item e) s = found tt (left s)
    items_found (items_from h k) s =
        let i = item_found h s in
        let is = more_found k i.behind in
        found (i.holds, is.holds) is.behind

    more_found : {d : ℕ} {ts rest : Tokens} {is : List Item} → IsMore May d ts is rest → AreSpelt ts
        → Found (items_words (items_of is)) rest
    more_found (closed e) s = found tt (left s)
    more_found (closed_late e q) s = found tt (left (left s))
    more_found (more e h k) s =
        let i = item_found h (left s) in
        let is = more_found k i.behind in
        found (i.holds, is.holds) is.behind

    reference_found : {d : ℕ} {ts rest : Tokens} {x : Reference} → IsReference May d ts x rest
        → AreSpelt ts → Found (reference_words x) rest
    reference_found (a_reference e h) s =
        let is = indexes_found h (left s) in
        found (plain_in e s, is.holds) is.behind

    indexes_found : {d : ℕ} {ts rest : Tokens} {is : List Item} → IsIndexes May d ts is rest
        → AreSpelt ts → Found (items_words (items_of is)) rest
    indexes_found no_index s = found tt s
    indexes_found (one_index e h q k) s =
        let i = item_found h (left s) in
        let is = indexes_found k (left i.behind) in
        found (i.holds, is.holds) is.behind

    chain_found : {d l : ℕ} {ts rest : Tokens} {x : Node} → IsChain May d l ts x rest → AreSpelt ts
        → Found (node_words x) rest
    chain_found (a_unary h) s = unary_found h s
    chain_found (a_line h k) s = let a = chain_found h s in tail_found k a.holds a.behind

    tail_found : {d l : ℕ} {a : Node} {ts rest : Tokens} {x : Node} → IsTail May d l a ts x rest
        → node_words a → AreSpelt ts → Found (node_words x) rest
    tail_found tail_ends w s = found w s
    tail_found (tail_more {op = op} {a = a} {b = b} e h k) w s =
        let r = chain_found h (left s) in
        tail_found k (both_words op a b w r.holds) r.behind

    unary_found : {d : ℕ} {ts rest : Tokens} {x : Node} → IsUnary May d ts x rest → AreSpelt ts
        → Found (node_words x) rest
    unary_found (a_sign m e h) s = unary_found h (left s)
    unary_found (a_primary h k) s = let a = primary_found h s in suffix_found k a.holds a.behind

    suffix_found : {d : ℕ} {a : Node} {ts rest : Tokens} {x : Node} → IsSuffix May d a ts x rest
        → node_words a → AreSpelt ts → Found (node_words x) rest
    suffix_found suffix_ends w s = found w s
    suffix_found (an_index e h q k) w s =
        let i = item_found h (left s) in
        suffix_found k (w, i.holds) (left i.behind)

    primary_found : {d : ℕ} {ts rest : Tokens} {x : Node} → IsPrimary May d ts x rest → AreSpelt ts
        → Found (node_words x) rest
    primary_found (a_literal {t = t} {x = x} e) s =
        found (literal_words (sort t) x e refl s) (left s)
    primary_found (a_name e) s = found (plain_in e s) (left s)
    primary_found (a_call e o h) s =
        let is = args_found h (left (left s)) in
        found (plain_in e s, is.holds) is.behind
    primary_found (parens e h q) s = let i = item_found h (left s) in found i.holds (left i.behind)

    args_found : {d : ℕ} {ts rest : Tokens} {is : List Item} → IsArgs May d ts is rest → AreSpelt ts
        → Found (items_words (items_of is)) rest
    args_found (no_arg e) s = found tt (left s)
    args_found (args_from h k) s =
        let i = item_found h s in
        let is = more_args_found k i.behind in
        found (i.holds, is.holds) is.behind

    more_args_found : {d : ℕ} {ts rest : Tokens} {is : List Item} → IsMoreArgs May d ts is rest
        → AreSpelt ts → Found (items_words (items_of is)) rest
    more_args_found (args_end e) s = found tt (left s)
    more_args_found (more_args e h k) s =
        let i = item_found h (left s) in
        let is = more_args_found k i.behind in
        found (i.holds, is.holds) is.behind

  -- ---- types

  signed_left : {ts rest : Tokens} {n : _} → IsSigned ts n rest → AreSpelt ts → AreSpelt rest
  signed_left (a_number e) s = left s
  signed_left (a_negative e q) s = left (left s)

  bounds_left : {ts rest : Tokens} {b : _} → IsBounds ts b rest → AreSpelt ts → AreSpelt rest
  bounds_left (from_low h exactly) s = signed_left h s
  bounds_left (from_low h (at_least e)) s = left (signed_left h s)
  bounds_left (from_low h (from_to e k)) s = signed_left k (left (signed_left h s))
  bounds_left (at_most e h) s = signed_left h (left s)

  range_left : {last : Sort} {ts rest : Tokens} {b : _} → IsRange last ts b rest → AreSpelt ts
      → AreSpelt rest
  range_left (no_range e) s = left s
  range_left (a_range h e) s = left (bounds_left h s)

  bounded_left : {ts rest : Tokens} {b : _} → IsBounded ts b rest → AreSpelt ts → AreSpelt rest
  bounded_left (unbounded e) s = s
  bounded_left (bounded o h e) s = left (bounds_left h (left s))

  suffixes_left : {ts rest : Tokens} {ss : _} → IsSuffixes ts ss rest → AreSpelt ts → AreSpelt rest
  suffixes_left (no_suffix e) s = s
  suffixes_left (a_list o h k) s = suffixes_left k (range_left h (left s))
  suffixes_left (a_dict o h k) s = suffixes_left k (range_left h (left s))
  suffixes_left (a_link o k) s = suffixes_left k (left s)

  texts_found : {ts rest : Tokens} {xs : List (List ℕ)} → IsTexts ts xs rest → AreSpelt ts
      → Found (are_texts xs) rest
  texts_found (no_text e) s = found tt (left s)
  texts_found (a_text e q k) s =
      let xs = texts_found k (left (left s)) in
      found (text_in q (left s), xs.holds) xs.behind

  option_found : {w : Sort} {d : ℕ} {ts rest : Tokens} {x : Option Item}
      → IsOption May w d ts x rest → AreSpelt ts → Found (option_words x) rest
  option_found (absent e) s = found tt s
  option_found (present e h) s = let i = item_found h (left s) in found i.holds i.behind

  mutual
    pub full_found : {d : ℕ} {ts rest : Tokens} {x : FullType} → IsFull May d ts x rest
        → AreSpelt ts → Found (full_words x) rest
    full_found (a_full h k l) s =
        let f = type_found h s in
        let e = option_found k f.behind in
        let w = option_found l e.behind in
        found (f.holds, e.holds, w.holds) w.behind

    type_found : {d : ℕ} {ts rest : Tokens} {x : TypeForm} → IsType May d ts x rest → AreSpelt ts
        → Found (type_words x) rest
    type_found (a_named m e h k) s = found (type_in e s) (suffixes_left k (bounded_left h (left s)))
    type_found (a_record m n e h k) s = let fs =
        fields_found h (left s) in found fs.holds (suffixes_left k fs.behind)
    type_found (an_extensible m n e q h k) s = let fs =
        fields_found h (left (left s)) in found fs.holds (suffixes_left k fs.behind)
    type_found (a_choice m e q x h k) s =
        let xs = texts_found h (left (left (left s))) in
        found (text_in x (left (left s)), xs.holds) (suffixes_left k xs.behind)

    fields_found : {d : ℕ} {ts rest : Tokens} {fs : List Field} → IsFields May d ts fs rest
        → AreSpelt ts → Found (fields_words (fields_of fs)) rest
    fields_found (no_field e) s = found tt (left s)
    fields_found (own_field q n m h k) s =
        let f = full_found h (left (left s)) in
        let fs = fields_found k f.behind in
        found ((text_in q s, f.holds), fs.holds) fs.behind
    fields_found (include_field e n k) s =
        let fs = fields_found k (left (left s)) in
        found (type_in n (left s), fs.holds) fs.behind

  -- ---- statements

  setting_found : {p : _} {last : Bool} {ts rest : Tokens} {x : Statement}
      → IsSetting May p last ts x rest → AreSpelt ts → Found (form_words x.form) rest
  setting_found (of_path q e h z) s = let i =
      item_found h (left (left s)) in found (text_in q s, i.holds) (left i.behind)
  setting_found (of_variable o q e h z) s = let i =
      item_found h (left (left (left s))) in found (word_in q (left s), i.holds) (left i.behind)

  included_found : {ts rest : Tokens} {i : Item} → IsIncluded May ts i rest → AreSpelt ts
      → Found (item_words i) rest
  included_found (text_included m q) s = found (text_in q s) (left s)
  included_found (block_included m e h) s = items_found h (left s)

  pub statement_found : {ts rest : Tokens} {x : Statement} → IsStatement May ts x rest → AreSpelt ts
      → Found (form_words x.form) rest
  statement_found (a_setting h) s = setting_found h s
  statement_found (a_final e h) s = setting_found h (left s)
  statement_found (a_function o q e h z) s = let i =
      item_found h (left (left (left s))) in found (word_in q (left s), i.holds) (left i.behind)
  statement_found (a_type o q e h z) s = let f =
      full_found h (left (left (left s))) in found (word_in q (left s), f.holds) (left f.behind)
  statement_found (a_bind o q e h z) s = let f =
      full_found h (left (left (left s))) in found (text_in q (left s), f.holds) (left f.behind)
  statement_found (a_valid o q e h z) s = let i =
      item_found h (left (left (left s))) in found (text_in q (left s), i.holds) (left i.behind)
  statement_found (an_include o h z) s = let i =
      included_found h (left s) in found i.holds (left i.behind)
  statement_found (a_prefix o q z) s = found (text_in q (left s)) (left (left (left s)))
