-- What is laid out of an item is read and parsed back: statements of code, blocks, arguments and
-- indexes.
use Rattle.std.proofs.Common.{◌≡◌, ◌∙◌, ℕ, zero, suc, true, false, List, [], ◌∷◌, ◌++◌, refl, sym, ap, subst, append_assoc}
use Rattle.std.specs.Prelude.{codes}
use Rattle.pan_ast.specs.declared.sort.Sort.TheVariants as sorts
use Rattle.pan_ast.specs.declared.token.Token.{Token}
use Rattle.pan_ast.specs.declared.token.TokenKind.TheVariants as kinds
use Rattle.pan_ast.specs.Sorts.{is_plain, is_word, sort, sort_of}
use Rattle.pan_ast.specs.Syntax.{Item, Node, Reference, Items, none, more as cons, items_of}
use Rattle.pan_lexer.specs.declared.pieces.Piece.{Piece}
use Rattle.pan_lexer.proofs.CleanLines.{and_both}
use Rattle.pan_grammar.specs.Grammar.{Tokens, NotElse, IsItem, a_block, an_if, an_if_else, a_while, a_for, a_foreach, an_assign, a_chain, IsItems, no_item, items_from, IsMore, closed, closed_late, more, IsReference, a_reference, IsIndexes, no_index, one_index, IsChain, a_unary, a_line, IsTail, tail_ends, tail_more, IsUnary, a_sign, a_primary, IsSuffix, suffix_ends, an_index, IsPrimary, a_literal, a_name, a_call, parens, Operator, Of, Both, Either, joined, IsArgs, no_arg, args_from, IsMoreArgs, args_end, more_args}
use Rattle.pan_ast.specs.Syntax as nodes
use Rattle.pan_format.specs.Bare.{nowhere}
use Rattle.pan_format.specs.Items.{item_text, block_lines, reference_text, indexes_text, node_text, arguments_text, further_arguments}
use Rattle.pan_format.specs.Words.{indent, unary_sign}
use Rattle.pan_lexer.specs.Bytes.{starts}
use Rattle.path_tree.specs.declared.operators.UnaryOp.{UnaryOp}
use Rattle.path_tree.specs.declared.operators.UnaryOp.TheVariants as unary
use Rattle.format_laws.proofs.Reading.{Apart, Behind, Follows, Reads}
use Rattle.format_laws.proofs.Worded.{item_words, items_words, node_words, reference_words}
use Rattle.format_laws.proofs.Fronts.{apart_close, apart_close_bracket, apart_comma, apart_open_bracket, apart_semicolon, apart_space, blank, joins, keyword, mapped, sign_then, without_then, word_semicolon, word_sort, word_then}
use Rattle.format_laws.proofs.Leaves.{front}
use Rattle.format_laws.proofs.Literals.{literal_again}
use Rattle.format_laws.proofs.Seams.{seam3, seam4, seam5, seam6, seam7}
use Rattle.format_laws.proofs.Operators.{operator_apart, operator_text, operator_then}
use Rattle.std.proofs.lemmas.List.{append-nil}
use Rattle.format_laws.proofs.Items.{ItemThen, ItemsThen, MoreThen, ArgsThen, MoreArgsThen, IndexesThen, ReferenceThen, ChainThen, TailThen, UnaryThen, PrimaryThen, SuffixThen, call_so, name_so, parens_so, primary_so, sign_before, sign_so, suffix_ends_so, suffix_more_so, line_so, tail_ends_so, tail_more_so, unary_so, args_end_so, args_not_else, args_so, assign_so, behind_not_else, block_so, for_so, foreach_so, if_else_so, if_so, index_so, items_so, last_so, more_args_so, more_not_else, more_so, no_arg_so, no_index_so, none_so, plain_so, reference_so, while_so}

pub indent_then : {file t : List ℕ} {P : Follows} (k : ℕ) → Reads file t P
    → Reads file (indent k ++ t) P
indent_then zero r = r
indent_then (suc k) r = blank 32 refl (blank 32 refl
    (blank 32 refl (blank 32 refl (indent_then k r))))

indexes_apart : (k : ℕ) (is : Items) {t : List ℕ} → Apart t → Apart (indexes_text k is ++ t)
unfolding indexes_text
indexes_apart k none a = a
indexes_apart k (cons i is) a = apart_open_bracket

further_apart : (k : ℕ) (is : Items) (t : List ℕ) → Apart (further_arguments k is ++ 41 ∷ t)
unfolding further_arguments
further_apart k none t = apart_close
further_apart k (cons i is) t = apart_comma

pub word_again : (t : Token) → is_word (sort t) ≡ true → is_word (sort_of kinds.Word t.value) ≡ true
word_again t e = ap is_word (sym (word_sort t e)) ∙ e

pub plain_again : (t : Token) → is_plain (sort t) ≡ true
    → is_plain (sort_of kinds.Word t.value) ≡ true
plain_again t e = ap is_plain (sym (word_sort t (and_both (is_word (sort t)) _ e).0)) ∙ e

joined_text : (k : ℕ) (op : Operator) (a b : Node)
    → node_text k (joined op a b) ≡ node_text k a ++ operator_text op ++ node_text k b
unfolding node_text
joined_text k (Of op) a b = refl
joined_text k Both a b = refl
joined_text k Either a b = refl

joined_words : (op : Operator) (a b : Node) → node_words (joined op a b)
    → node_words a × node_words b
joined_words (Of op) a b w = w
joined_words Both a b w = w
joined_words Either a b w = w

-- x is a with a text behind it, and that text is read so
abbrev pub Continued : List ℕ → ℕ → Node → Node → List ℕ → Follows → Type 0
Continued file k a x t Q = (s : List ℕ) × (node_text k x ≡ node_text k a ++ s) × Apart (s ++ t)
    × node_words a × Reads file (s ++ t) Q

unary_then : {file k : List ℕ} {P : Follows} (op : UnaryOp) → starts 61 k ≡ false → Reads file k P
    → Reads file (unary_sign op ++ k) (Behind (sign_before op) P)
unary_then unary.Plus e r = sign_then 43 refl refl r
unary_then unary.Minus e r = sign_then 45 refl refl r
unary_then unary.Not e r = without_then 33 refl e refl refl r
unary_then unary.Flip e r = sign_then 126 refl refl r

module _ (file : List ℕ) (May : ℕ → Tokens → Type 0)
    (alike : (d : ℕ) (t : Token) (ts us : Tokens) → May d (t ∷ ts) → May d us) where
  -- what begins with a token may begin anywhere at that depth
  some_may : {d : ℕ} (ts : Tokens) → (ts ≡ [] → ⊥) → May d ts → (us : Tokens) → May d us
  some_may [] n m us = absurd (n refl)
  some_may {d = d} (t ∷ ts) n m us = alike d t ts us m

  mutual
    primary_some : {d : ℕ} {ts rest : Tokens} {x : Node} → IsPrimary May d ts x rest → ts ≡ [] → ⊥
    primary_some (a_literal e) q = cc
    primary_some (a_name e) q = cc
    primary_some (a_call e o h) q = cc
    primary_some (parens o h e) q = cc

    unary_some : {d : ℕ} {ts rest : Tokens} {x : Node} → IsUnary May d ts x rest → ts ≡ [] → ⊥
    unary_some (a_sign m e h) q = cc
    unary_some (a_primary h s) q = primary_some h q

    chain_some : {d l : ℕ} {ts rest : Tokens} {x : Node} → IsChain May d l ts x rest → ts ≡ [] → ⊥
    chain_some (a_unary h) q = unary_some h q
    chain_some (a_line h k) q = chain_some h q

  chain_may : {d e l : ℕ} {ts rest : Tokens} {x : Node} → IsChain May d l ts x rest → May e ts
      → (us : Tokens) → May e us
  chain_may {ts = ts} h m us = some_may ts (chain_some h) m us

  reference_may : {d e : ℕ} {ts rest : Tokens} {x : Reference} → IsReference May d ts x rest
      → May e ts → (us : Tokens) → May e us
  reference_may {e = e} (a_reference {t = t} {ts = ts} q h) m us = alike e t ts us m

  mutual
    unfolding item_text block_lines reference_text indexes_text node_text arguments_text
        further_arguments

    pub item_again : {d : ℕ} {ts rest : Tokens} {x : Item} {t : List ℕ} {P : Follows}
        → IsItem May d ts x rest → (k : ℕ) → item_words x → Apart t
        → ((us : Tokens) (ps : List Piece) → P us ps → NotElse rest → NotElse us) → Reads file t P
        → Reads file (item_text k x ++ t) (ItemThen May d x P)
    item_again (a_block {d = d} {t = o} {ts = ts} {is = is} m e h) k w apart n r =
        mapped (block_so May o.place is (λ us. alike (suc d) o ts us m)) (items_again h k w r)
    item_again {t = t} (an_if {d = d} {t = i} {o = o} {ts = ts} {c = c}
        {a = a} m e q hc z ha ne) k w apart n r =
        mapped (if_so May i.place c a (λ us. alike (suc d) i (o ∷ ts) us m)
        (λ us ps p. n us ps p ne))
        (keyword (codes "if") (refl, refl) refl
        (sign_then 40 refl refl (seam3 (item_text k c) (codes ") ") (item_text k a) t
        (item_again hc k w.0 apart_close (behind_not_else sorts.Close refl)
        (sign_then 41 refl refl (blank 32 refl (item_again ha k w.1 apart n r)))))))
    item_again {t = t} (an_if_else {d = d} {t = i} {o = o} {ts = ts} {c = c} {a = a}
        {b = b} m e q hc z ha el hb) k w apart n r =
        mapped (if_else_so May i.place c a b (λ us. alike (suc d) i (o ∷ ts) us m))
        (keyword (codes "if") (refl, refl) refl
        (sign_then 40 refl refl (seam5 (item_text k c) (codes ") ") (item_text k a)
        (codes " else ") (item_text k b) t
        (item_again hc k w.0 apart_close (behind_not_else sorts.Close refl)
        (sign_then 41 refl refl (blank 32 refl
        (item_again ha k w.1 apart_space (λ us ps p y. absurd (y el))
        (blank 32 refl (keyword (codes "else") (refl, refl) refl
        (item_again hb k w.2 apart n r))))))))))
    item_again {t = t} (a_while {d = d} {t = i} {o = o} {ts = ts} {c = c}
        {b = b} m e q hc z hb) k w apart n r =
        mapped (while_so May i.place c b (λ us. alike (suc d) i (o ∷ ts) us m))
        (keyword (codes "while") (refl, refl) refl
        (sign_then 40 refl refl (seam3 (item_text k c) (codes ") ") (item_text k b) t
        (item_again hc k w.0 apart_close (behind_not_else sorts.Close refl)
        (sign_then 41 refl refl (blank 32 refl (item_again hb k w.1 apart n r)))))))
    item_again {t = t} (a_for {d = d} {t = i} {o = o} {ts = ts} {a = a} {c = c} {n = x}
        {b = b} m e q ha z1 hc z2 hn z3 hb) k w apart n r =
        mapped (for_so May i.place a c x b (λ us. alike (suc d) i (o ∷ ts) us m))
        (keyword (codes "for") (refl, refl) refl
        (sign_then 40 refl refl (seam7 (item_text k a) (codes "; ") (item_text k c) (codes "; ")
        (item_text k x) (codes ") ") (item_text k b) t
        (item_again ha k w.0 apart_semicolon (behind_not_else sorts.Semicolon refl)
        (sign_then 59 refl refl (blank 32 refl
        (item_again hc k w.1 apart_semicolon (behind_not_else sorts.Semicolon refl)
        (sign_then 59 refl refl (blank 32 refl
        (item_again hn k w.2 apart_close (behind_not_else sorts.Close refl)
        (sign_then 41 refl refl (blank 32 refl (item_again hb k w.3 apart n r)))))))))))))
    item_again {t = t} (a_foreach {d = d} {t = i} {o = o} {k = x} {s1 = s1} {v = v} {s2 = s2}
        {ts = ts} {r = y} {b = b} m e q ex z1 ev z2 hr z3 hb) k w apart n r =
        mapped (foreach_so May i.place y b (λ us. alike (suc d) i (o ∷ x ∷ s1 ∷ v ∷ s2 ∷ ts) us m)
        (word_again x ex) (word_again v ev))
        (keyword (codes "foreach") (refl, refl) refl
        (sign_then 40 refl refl (seam7 x.value (codes "; ") v.value (codes "; ") (item_text k y)
        (codes ") ") (item_text k b) t
        (word_semicolon x.value w.0 (word_semicolon v.value w.1
        (item_again hr k w.2 apart_close (behind_not_else sorts.Close refl)
        (sign_then 41 refl refl (blank 32 refl (item_again hb k w.3 apart n r)))))))))
    item_again {t = t} (an_assign {d = d} {ts = ts} {r = x} {y = y} m hr e hy) k w apart n r =
        mapped (assign_so May x y (reference_may hr m))
        (seam3 (reference_text k x) (codes " = ") (item_text k y) t
        (reference_again hr k w.0 apart_space
        (blank 32 refl (without_then {k = 32 ∷ (item_text k y ++ t)} 61 refl refl refl refl
        (blank 32 refl (item_again hy k w.1 apart n r))))))
    item_again {t = t} {P = P} (a_chain {d = d} {ts = ts} {rest = rest} {x = x} m h) k w apart n r =
        mapped (plain_so May x (chain_may h m)) (chain_again h k w apart r)

    pub items_again : {d : ℕ} {ts rest : Tokens} {is : List Item} {t : List ℕ} {P : Follows}
        → IsItems May d ts is rest → (k : ℕ) → items_words (items_of is) → Reads file t P
        → Reads file (item_text k (nodes.Block nowhere (items_of is)) ++ t)
        (Behind sorts.OpenBrace (ItemsThen May d is P))
    items_again (no_item e) k w r = sign_then 123 refl refl
        (blank 32 refl (mapped (none_so May) (sign_then 125 refl refl r)))
    items_again {t = t} (items_from {i = i} {is = is} hi hm) k w r =
        sign_then 123 refl refl (blank 10 refl
        (mapped (items_so May i is) (blank 32 refl (blank 32 refl (blank 32 refl (blank 32 refl
        (seam6 (indent k) (item_text (suc k) i) (codes ";\n") (block_lines (suc k) (items_of is))
        (indent k) (codes "}") t
        (indent_then k (item_again hi (suc k) w.0 apart_semicolon
        (λ us ps p y. more_not_else May is us ps p) (more_again hm k w.1 r))))))))))

    more_again : {d : ℕ} {ts rest : Tokens} {is : List Item} {t : List ℕ} {P : Follows}
        → IsMore May d ts is rest → (k : ℕ) → items_words (items_of is) → Reads file t P
        → Reads file (59 ∷ 10 ∷ (block_lines (suc k) (items_of is) ++ (indent k ++ 125 ∷ t)))
        (MoreThen May d is P)
    more_again (closed e) k w r = mapped (last_so May)
        (sign_then 59 refl refl (blank 10 refl (indent_then k (sign_then 125 refl refl r))))
    more_again (closed_late e q) k w r = mapped (last_so May)
        (sign_then 59 refl refl (blank 10 refl (indent_then k (sign_then 125 refl refl r))))
    more_again {t = t} (more {i = i} {is = is} e hi hm) k w r =
        mapped (more_so May i is) (sign_then 59 refl refl
        (blank 10 refl (blank 32 refl (blank 32 refl (blank 32 refl (blank 32 refl
        (seam4 (indent k) (item_text (suc k) i) (codes ";\n") (block_lines (suc k) (items_of is))
        (indent k ++ 125 ∷ t)
        (indent_then k (item_again hi (suc k) w.0 apart_semicolon
        (λ us ps p y. more_not_else May is us ps p) (more_again hm k w.1 r))))))))))

    reference_again : {d : ℕ} {ts rest : Tokens} {x : Reference} {t : List ℕ} {P : Follows}
        → IsReference May d ts x rest → (k : ℕ) → reference_words x → Apart t → Reads file t P
        → Reads file (reference_text k x ++ t) (ReferenceThen May d x P)
    reference_again {t = t} (a_reference {t = v} {is = is} e h) k w apart r =
        mapped (reference_so May v.place is (plain_again v e))
        (joins v.value (indexes_text k (items_of is)) t
        (word_then v.value w.0 (indexes_apart k (items_of is) apart).no_word
        (indexes_again h k w.1 apart r)))

    indexes_again : {d : ℕ} {ts rest : Tokens} {is : List Item} {t : List ℕ} {P : Follows}
        → IsIndexes May d ts is rest → (k : ℕ) → items_words (items_of is) → Apart t
        → Reads file t P → Reads file (indexes_text k (items_of is) ++ t) (IndexesThen May d is P)
    indexes_again no_index k w apart r = mapped (no_index_so May) r
    indexes_again {t = t} (one_index {i = i} {is = is} e hi q h) k w apart r =
        mapped (index_so May i is) (sign_then 91 refl refl
        (seam3 (item_text k i) (codes "]") (indexes_text k (items_of is)) t
        (item_again hi k w.0 apart_close_bracket (behind_not_else sorts.CloseBracket refl)
        (sign_then 93 refl refl (indexes_again h k w.1 apart r)))))

    pub args_again : {d : ℕ} {ts rest : Tokens} {is : List Item} {t : List ℕ} {P : Follows}
        → IsArgs May d ts is rest → (k : ℕ) → items_words (items_of is) → Reads file t P
        → Reads file (arguments_text k (items_of is) ++ 41 ∷ t) (ArgsThen May d is P)
    args_again (no_arg e) k w r = mapped (no_arg_so May) (sign_then 41 refl refl r)
    args_again {t = t} (args_from {i = i} {is = is} hi hm) k w r =
        mapped (args_so May i is) (joins (item_text k i) (further_arguments k (items_of is))
        (41 ∷ t)
        (item_again hi k w.0 (further_apart k (items_of is) t)
        (λ us ps p y. args_not_else May is us ps p) (more_args_again hm k w.1 r)))

    more_args_again : {d : ℕ} {ts rest : Tokens} {is : List Item} {t : List ℕ} {P : Follows}
        → IsMoreArgs May d ts is rest → (k : ℕ) → items_words (items_of is) → Reads file t P
        → Reads file (further_arguments k (items_of is) ++ 41 ∷ t) (MoreArgsThen May d is P)
    more_args_again (args_end e) k w r = mapped (args_end_so May) (sign_then 41 refl refl r)
    more_args_again {t = t} (more_args {i = i} {is = is} e hi hm) k w r =
        mapped (more_args_so May i is) (sign_then 44 refl refl
        (blank 32 refl (joins (item_text k i) (further_arguments k (items_of is)) (41 ∷ t)
        (item_again hi k w.0 (further_apart k (items_of is) t)
        (λ us ps p y. args_not_else May is us ps p) (more_args_again hm k w.1 r)))))

    pub chain_again : {d l : ℕ} {ts rest : Tokens} {x : Node} {t : List ℕ} {P : Follows}
        → IsChain May d l ts x rest → (k : ℕ) → node_words x → Apart t → Reads file t P
        → Reads file (node_text k x ++ t) (ChainThen May d l x P)
    chain_again {t = t} {P = P} (a_unary {d = d} {ts = ts} {rest = rest} {x = x} h) k w apart r =
        mapped (unary_so May x) (unary_again h k w apart r)
    chain_again {t = t} {P = P} (a_line {d = d} {l = l} {a = a} {x = x} hc ht) k w apart r =
        let c = tail_again ht k w apart r in
        subst (λ (u : List ℕ). Reads file u (ChainThen May d (suc l) x P))
        (sym (append_assoc (node_text k a) c.0 t) ∙ ap (λ (u : List ℕ). u ++ t) (sym c.1))
        (mapped (line_so May a x) (chain_again hc k c.3 c.2 c.4))

    pub tail_again : {d l : ℕ} {a : Node} {ts rest : Tokens} {x : Node} {t : List ℕ} {P : Follows}
        → IsTail May d l a ts x rest → (k : ℕ) → node_words x → Apart t → Reads file t P
        → Continued file k a x t (TailThen May d l a x P)
    tail_again (tail_ends {x = x}) k w apart r =
        ([], sym (append-nil (node_text k x)), apart, w, mapped (tail_ends_so May x) r)
    tail_again {t = t} (tail_more {t = s} {op = op} {a = a} {b = b} {x = x} e hb ht) k w apart r =
        let c = tail_again ht k w apart r in
        let ws = joined_words op a b c.3 in (
          operator_text op ++ (node_text k b ++ c.0),
          c.1 ∙ ap (λ (u : List ℕ). u ++ c.0) (joined_text k op a b)
              ∙ append_assoc (node_text k a ++ operator_text op) (node_text k b) c.0
              ∙ append_assoc (node_text k a) (operator_text op) (node_text k b ++ c.0),
          subst Apart (sym (append_assoc (operator_text op) (node_text k b ++ c.0) t))
              (operator_apart op ((node_text k b ++ c.0) ++ t)),
          ws.0,
          mapped (tail_more_so May s op a b x e)
              (joins (operator_text op) (node_text k b ++ c.0) t
              (operator_then op (joins (node_text k b) c.0 t (chain_again hb k ws.1 c.2 c.4)))),
        )

    unary_again : {d : ℕ} {ts rest : Tokens} {x : Node} {t : List ℕ} {P : Follows}
        → IsUnary May d ts x rest → (k : ℕ) → node_words x → Apart t → Reads file t P
        → Reads file (node_text k x ++ t) (UnaryThen May d x P)
    unary_again {t = t} (a_sign {d = d} {t = s} {op = op} {ts = ts} {x = x} m e h) k w apart r =
        mapped (sign_so May s.place op x (λ us. alike (suc d) s ts us m))
        (joins (unary_sign op) (node_text k x) t
        (unary_then op (front k x w t) (unary_again h k w apart r)))
    unary_again {t = t} {P = P} (a_primary {d = d} {x = a} {y = x} hp hs) k w apart r =
        let c = suffix_again hs k w apart r in
        subst (λ (u : List ℕ). Reads file u (UnaryThen May d x P))
        (sym (append_assoc (node_text k a) c.0 t) ∙ ap (λ (u : List ℕ). u ++ t) (sym c.1))
        (mapped (primary_so May a x) (primary_again hp k c.3 c.2 c.4))

    suffix_again : {d : ℕ} {a : Node} {ts rest : Tokens} {x : Node} {t : List ℕ} {P : Follows}
        → IsSuffix May d a ts x rest → (k : ℕ) → node_words x → Apart t → Reads file t P
        → Continued file k a x t (SuffixThen May d a x P)
    suffix_again (suffix_ends {x = x}) k w apart r =
        ([], sym (append-nil (node_text k x)), apart, w, mapped (suffix_ends_so May x) r)
    suffix_again {t = t} (an_index {x = a} {y = x} {i = i} e hi q hs) k w apart r =
        let c = suffix_again hs k w apart r in (
          91 ∷ (item_text k i ++ 93 ∷ c.0),
          c.1 ∙ (append_assoc (node_text k a ++ codes "[" ++ item_text k i) (codes "]") c.0
              ∙ (append_assoc (node_text k a ++ codes "[") (item_text k i) (93 ∷ c.0)
              ∙ append_assoc (node_text k a) (codes "[") (item_text k i ++ 93 ∷ c.0))),
          apart_open_bracket,
          c.3.0,
          mapped (suffix_more_so May a x i) (sign_then 91 refl refl
              (joins (item_text k i) (93 ∷ c.0) t
              (item_again hi k c.3.1 apart_close_bracket (behind_not_else sorts.CloseBracket refl)
              (sign_then 93 refl refl c.4)))),
        )

    primary_again : {d : ℕ} {ts rest : Tokens} {x : Node} {t : List ℕ} {P : Follows}
        → IsPrimary May d ts x rest → (k : ℕ) → node_words x → Apart t → Reads file t P
        → Reads file (node_text k x ++ t) (PrimaryThen May d x P)
    primary_again {t = t} {P = P} (a_literal {d = d} {t = v} {x = x} e) k w apart r =
        literal_again May d k v x e w apart r
    primary_again (a_name {t = v} e) k w apart r =
        mapped (name_so May v.place (plain_again v e)) (word_then v.value w apart.no_word r)
    primary_again {t = t} (a_call {t = v} {is = is} e o h) k w apart r =
        mapped (call_so May v.place is (plain_again v e))
        (seam4 v.value (codes "(") (arguments_text k (items_of is)) (codes ")") t
        (word_then {k = 40 ∷ (arguments_text k (items_of is) ++ 41 ∷ t)} v.value w.0 refl
        (sign_then 40 refl refl (args_again h k w.1 r))))
    primary_again {t = t} (parens {o = o} {i = i} e hi q) k w apart r =
        mapped (parens_so May o.place i) (sign_then 40 refl refl
        (joins (item_text k i) (codes ")") t
        (item_again hi k w apart_close (behind_not_else sorts.Close refl)
        (sign_then 41 refl refl r))))
