-- Where statements end: what stands in an item, a type or a statement before its `;` ends nothing,
-- and no such token is the End of the text.
use Rattle.std.proofs.Common.{◌≡◌, ◌∙◌, ℕ, suc, ◌+◌, ◌-◌, Bool, true, false, cond, eqb, List, ◌∷◌, Option, Some, refl, sym, ap, subst, arith}
use Rattle.std.specs.Prelude.{◌&&◌}
use Rattle.std.proofs.lemmas.Bool.Decides.{nat_tests}
use Rattle.path_tree.specs.declared.operators.UnaryOp.{UnaryOp}
use Rattle.pan_ast.specs.declared.sort.Sort.{Sort}
use Rattle.pan_ast.specs.declared.sort.Sort.TheVariants as sorts
use Rattle.pan_ast.specs.declared.token.Token.{Token}
use Rattle.pan_ast.specs.Sorts.{at, is_one_of, is_plain, is_type_name, is_word, sort}
use Rattle.pan_ast.specs.Syntax.{Item, Node, Reference}
use Rattle.pan_ast.specs.Types.{FullType, TypeForm, Field}
use Rattle.pan_lexer.proofs.CleanLines.{and_both}
use Rattle.pan_grammar.specs.Grammar.{Tokens, level, literal, unary_of, IsItem, a_block, an_if, an_if_else, a_while, a_for, a_foreach, an_assign, a_chain, IsItems, no_item, items_from, IsMore, closed, closed_late, more, IsReference, a_reference, IsIndexes, no_index, one_index, IsChain, a_unary, a_line, IsTail, tail_ends, tail_more, IsUnary, a_sign, a_primary, IsSuffix, suffix_ends, an_index, IsPrimary, a_literal, a_name, a_call, parens, IsArgs, no_arg, args_from, IsMoreArgs, args_end, more_args}
use Rattle.pan_grammar.specs.Types.{IsBounded, IsBounds, IsFields, IsFull, IsOption, IsRange, IsSigned, IsSuffixes, IsTexts, IsType, a_choice, a_dict, a_full, a_link, a_list, a_named, a_negative, a_number, a_range, a_record, a_text, absent, an_extensible, at_least, at_most, bounded, exactly, from_low, from_to, include_field, is_mark, no_field, no_range, no_suffix, no_text, own_field, present, unbounded}
use Rattle.pan_grammar.specs.Templates.{IsIncluded, block_included, is_setting, text_included}
use Rattle.pan_grammar.proofs.Follow.{op_level}
use Rattle.pan_format.specs.Notes.{closing, ends_from, held_behind, opening}
use Rattle.format_laws.proofs.Reading.{ended}
use Rattle.format_laws.proofs.Fronts.{over_token}

-- ---- one token

-- a sort that neither ends a statement or the file nor opens or closes brackets
abbrev Quiet : Sort → Type 0
Quiet s = (at sorts.Semicolon s ≡ false) × (is_one_of opening s ≡ false) ×
    (is_one_of closing s ≡ false) × (at sorts.End s ≡ false)

quiet_ends : (t : Token) (ts : Tokens) (n : ℕ) → Quiet (sort t)
    → ends_from n (t ∷ ts) ≡ ends_from n ts
quiet_ends t ts n q = by (eqb n 0) (at sorts.Semicolon (sort t)) (is_one_of opening (sort t))
    (is_one_of closing (sort t)) q.0 q.1 q.2 where
      by : (z a o c : Bool) → a ≡ false → o ≡ false → c ≡ false
          → cond (z && a) (t.end ∷ ends_from n ts)
          (ends_from (cond o (n + 1) (cond c (n - 1) n)) ts) ≡ ends_from n ts
      by true false false false e f g = refl
      by false false false false e f g = refl
      by z true o c e f g = absurd cc
      by z a true c e f g = absurd cc
      by z a o true e f g = absurd cc

-- where statements end, and where the text does
abbrev pub found : ℕ → Tokens → List ℕ × ℕ
found n ts = (ends_from n ts, ended ts)

-- the same behind a token that ends a statement
abbrev pub ending : Token → Tokens → List ℕ × ℕ
ending t ts = (t.end ∷ ends_from 0 ts, ended ts)

abbrev paired : List ℕ → ℕ → List ℕ × ℕ
paired a b = (a, b)

both : {a b : List ℕ} {c d : ℕ} → a ≡ b → c ≡ d → paired a c ≡ paired b d
both e q = cc

quiet : (t : Token) (ts : Tokens) (n : ℕ) → Quiet (sort t) → found n (t ∷ ts) ≡ found n ts
quiet t ts n q = both (quiet_ends t ts n q) (over_token t ts q.3)

quiet_at : (s : Sort) → Quiet s → (t : Token) (ts : Tokens) (n : ℕ) → sort t ≡ s
    → found n (t ∷ ts) ≡ found n ts
quiet_at s q t ts n e = quiet t ts n (subst Quiet (sym e) q)

-- a bracket that opens holds what follows
opened_ends : (s : Sort) → at sorts.Semicolon s ≡ false → is_one_of opening s ≡ true
    → (t : Token) (ts : Tokens) (n : ℕ) → sort t ≡ s → ends_from n (t ∷ ts) ≡ ends_from (suc n) ts
opened_ends s a o t ts n e =
    by (eqb n 0) (at sorts.Semicolon (sort t)) (is_one_of opening (sort t))
    (ap (at sorts.Semicolon) e ∙ a) (ap (is_one_of opening) e ∙ o) where
      one : (n : ℕ) → n + 1 ≡ suc n
      one n = omega arith

      by : (z a o : Bool) → a ≡ false → o ≡ true
          → cond (z && a) (t.end ∷ ends_from n ts)
          (ends_from (cond o (n + 1) (cond (is_one_of closing (sort t)) (n - 1) n)) ts) ≡ ends_from
          (suc n) ts
      by true false true f g = ap (λ (k : ℕ). ends_from k ts) (one n)
      by false false true f g = ap (λ (k : ℕ). ends_from k ts) (one n)
      by z true o f g = absurd cc
      by z a false f g = absurd cc

closed_ends : (s : Sort) → at sorts.Semicolon s ≡ false → is_one_of opening s ≡ false
    → is_one_of closing s ≡ true → (t : Token) (ts : Tokens) (n : ℕ) → sort t ≡ s
    → ends_from (suc n) (t ∷ ts) ≡ ends_from n ts
closed_ends s a o c t ts n e =
    by (eqb (suc n) 0) (at sorts.Semicolon (sort t)) (is_one_of opening (sort t))
    (is_one_of closing (sort t)) (ap (at sorts.Semicolon) e ∙ a) (ap (is_one_of opening) e ∙ o)
    (ap (is_one_of closing) e ∙ c) where
      one : (n : ℕ) → suc n - 1 ≡ n
      one n = omega arith

      by : (z a o c : Bool) → a ≡ false → o ≡ false → c ≡ true
          → cond (z && a) (t.end ∷ ends_from (suc n) ts)
          (ends_from (cond o (suc n + 1) (cond c (suc n - 1) (suc n))) ts) ≡ ends_from n ts
      by true false false true f g h = ap (λ (k : ℕ). ends_from k ts) (one n)
      by false false false true f g h = ap (λ (k : ℕ). ends_from k ts) (one n)
      by z true o c f g h = absurd cc
      by z a true c f g h = absurd cc
      by z a o false f g h = absurd cc

not_zero : (n : ℕ) → eqb (suc n) 0 ≡ false
not_zero n = grind (arith, nat_tests)

-- a semicolon that brackets hold ends nothing
held_ends : (t : Token) (ts : Tokens) (n : ℕ) → sort t ≡ sorts.Semicolon
    → ends_from (suc n) (t ∷ ts) ≡ ends_from (suc n) ts
held_ends t ts n e =
    by (eqb (suc n) 0) (is_one_of opening (sort t)) (is_one_of closing (sort t)) (not_zero n)
    (ap (is_one_of opening) e) (ap (is_one_of closing) e) where
      by : (z o c : Bool) → z ≡ false → o ≡ false → c ≡ false
          → cond (z && at sorts.Semicolon (sort t)) (t.end ∷ ends_from (suc n) ts)
          (ends_from (cond o (suc n + 1) (cond c (suc n - 1) (suc n))) ts) ≡ ends_from (suc n) ts
      by false false false f g h = refl
      by true o c f g h = absurd cc
      by z true c f g h = absurd cc
      by z o true f g h = absurd cc

-- and else one statement
last_ends : (t : Token) (ts : Tokens) → sort t ≡ sorts.Semicolon
    → ends_from 0 (t ∷ ts) ≡ t.end ∷ ends_from 0 ts
last_ends t ts e = by (at sorts.Semicolon (sort t)) (ap (at sorts.Semicolon) e) where
  by : (a : Bool) → a ≡ true → cond (true && a) (t.end ∷ ends_from 0 ts)
      (ends_from (held_behind (sort t) 0) ts) ≡ t.end ∷ ends_from 0 ts
  by true f = refl
  by false f = absurd cc

-- ---- one token, as the end of the text is found too

opened_by : (s : Sort) → at sorts.Semicolon s ≡ false → is_one_of opening s ≡ true
    → at sorts.End s ≡ false → (t : Token) (ts : Tokens) (n : ℕ) → sort t ≡ s
    → found n (t ∷ ts) ≡ found (suc n) ts
opened_by s a o z t ts n e = both (opened_ends s a o t ts n e)
    (over_token t ts (ap (at sorts.End) e ∙ z))

closed_by : (s : Sort) → at sorts.Semicolon s ≡ false → is_one_of opening s ≡ false
    → is_one_of closing s ≡ true → at sorts.End s ≡ false → (t : Token) (ts : Tokens) (n : ℕ)
    → sort t ≡ s → found (suc n) (t ∷ ts) ≡ found n ts
closed_by s a o c z t ts n e = both (closed_ends s a o c t ts n e)
    (over_token t ts (ap (at sorts.End) e ∙ z))

held : (t : Token) (ts : Tokens) (n : ℕ) → sort t ≡ sorts.Semicolon
    → found (suc n) (t ∷ ts) ≡ found (suc n) ts
held t ts n e = both (held_ends t ts n e) (over_token t ts (ap (at sorts.End) e))

pub last : (t : Token) (ts : Tokens) → sort t ≡ sorts.Semicolon → found 0 (t ∷ ts) ≡ ending t ts
last t ts e = both (last_ends t ts e) (over_token t ts (ap (at sorts.End) e))

open_brace : (t : Token) (ts : Tokens) (n : ℕ) → sort t ≡ sorts.OpenBrace
    → found n (t ∷ ts) ≡ found (suc n) ts
open_brace = opened_by sorts.OpenBrace refl refl refl

open_parenthesis : (t : Token) (ts : Tokens) (n : ℕ) → sort t ≡ sorts.Open
    → found n (t ∷ ts) ≡ found (suc n) ts
open_parenthesis = opened_by sorts.Open refl refl refl

open_bracket : (t : Token) (ts : Tokens) (n : ℕ) → sort t ≡ sorts.OpenBracket
    → found n (t ∷ ts) ≡ found (suc n) ts
open_bracket = opened_by sorts.OpenBracket refl refl refl

shut_brace : (t : Token) (ts : Tokens) (n : ℕ) → sort t ≡ sorts.CloseBrace
    → found (suc n) (t ∷ ts) ≡ found n ts
shut_brace = closed_by sorts.CloseBrace refl refl refl refl

shut : (t : Token) (ts : Tokens) (n : ℕ) → sort t ≡ sorts.Close
    → found (suc n) (t ∷ ts) ≡ found n ts
shut = closed_by sorts.Close refl refl refl refl

shut_bracket : (t : Token) (ts : Tokens) (n : ℕ) → sort t ≡ sorts.CloseBracket
    → found (suc n) (t ∷ ts) ≡ found n ts
shut_bracket = closed_by sorts.CloseBracket refl refl refl refl

-- ---- sorts that are quiet

quiet_word : (s : Sort) → is_word s ≡ true → Quiet s
quiet_word sorts.Semicolon e = absurd cc
quiet_word sorts.OpenBrace e = absurd cc
quiet_word sorts.Open e = absurd cc
quiet_word sorts.OpenBracket e = absurd cc
quiet_word sorts.CloseBrace e = absurd cc
quiet_word sorts.Close e = absurd cc
quiet_word sorts.CloseBracket e = absurd cc
quiet_word sorts.End e = absurd cc
quiet_word _ e = (refl, refl, refl, refl)

quiet_level : (l : ℕ) (s : Sort) → level s ≡ suc l → Quiet s
quiet_level l sorts.Semicolon e = absurd cc
quiet_level l sorts.OpenBrace e = absurd cc
quiet_level l sorts.Open e = absurd cc
quiet_level l sorts.OpenBracket e = absurd cc
quiet_level l sorts.CloseBrace e = absurd cc
quiet_level l sorts.Close e = absurd cc
quiet_level l sorts.CloseBracket e = absurd cc
quiet_level l sorts.End e = absurd cc
quiet_level l _ e = (refl, refl, refl, refl)

quiet_unary : (s : Sort) (op : UnaryOp) → unary_of s ≡ Some op → Quiet s
quiet_unary sorts.Plus op e = (refl, refl, refl, refl)
quiet_unary sorts.Minus op e = (refl, refl, refl, refl)
quiet_unary sorts.Not op e = (refl, refl, refl, refl)
quiet_unary sorts.Flip op e = (refl, refl, refl, refl)
quiet_unary _ op e = absurd cc

quiet_literal : (s : Sort) (t : Token) (x : Node) → literal s t ≡ Some x → Quiet s
quiet_literal sorts.Int t x e = (refl, refl, refl, refl)
quiet_literal sorts.Text t x e = (refl, refl, refl, refl)
quiet_literal sorts.True t x e = (refl, refl, refl, refl)
quiet_literal sorts.False t x e = (refl, refl, refl, refl)
quiet_literal sorts.Undef t x e = (refl, refl, refl, refl)
quiet_literal sorts.Null t x e = (refl, refl, refl, refl)
quiet_literal _ t x e = absurd cc

quiet_mark : (s : Sort) → is_mark s ≡ true → Quiet s
quiet_mark sorts.Colon e = (refl, refl, refl, refl)
quiet_mark sorts.Question e = (refl, refl, refl, refl)
quiet_mark _ e = absurd cc

quiet_setting : (s : Sort) → is_setting s ≡ true → Quiet s
quiet_setting sorts.Assign e = (refl, refl, refl, refl)
quiet_setting sorts.ConditionalAssign e = (refl, refl, refl, refl)
quiet_setting _ e = absurd cc

quiet_plain : (s : Sort) → is_plain s ≡ true → Quiet s
quiet_plain s e = quiet_word s (and_both (is_word s) _ e).0

quiet_type : (s : Sort) → is_type_name s ≡ true → Quiet s
quiet_type s e = quiet_word s (and_both (is_word s) _ e).0

pub word_over : (t : Token) (ts : Tokens) (n : ℕ) → is_word (sort t) ≡ true
    → found n (t ∷ ts) ≡ found n ts
word_over t ts n e = quiet t ts n (quiet_word (sort t) e)

pub over : (s : Sort) → Quiet s → (t : Token) (ts : Tokens) (n : ℕ) → sort t ≡ s
    → found n (t ∷ ts) ≡ found n ts
over s q t ts n e = quiet_at s q t ts n e

-- ---- items

module _ (May : ℕ → Tokens → Type 0) where
  mutual
    pub item_over : {d : ℕ} {ts rest : Tokens} {x : Item} → IsItem May d ts x rest → (n : ℕ)
        → found n ts ≡ found n rest
    item_over (a_block {t = t} {ts = ts} m e h) n = open_brace t ts n e ∙ items_over h n
    item_over (an_if {t = t} {o = o} {k = k} {ts = ts} {ts1 = ts1} m e q hc z ha ne) n =
        over sorts.If (refl, refl, refl, refl) t (o ∷ ts) n e ∙ open_parenthesis o ts n q
        ∙ item_over hc (suc n) ∙ shut k ts1 n z ∙ item_over ha n
    item_over (an_if_else {t = t} {o = o} {k = k} {e = l} {ts = ts} {ts1 = ts1}
        {ts2 = ts2} m e q hc z ha g hb) n =
        over sorts.If (refl, refl, refl, refl) t (o ∷ ts) n e ∙ open_parenthesis o ts n q
        ∙ item_over hc (suc n) ∙ shut k ts1 n z ∙ item_over ha n
        ∙ over sorts.Else (refl, refl, refl, refl) l ts2 n g ∙ item_over hb n
    item_over (a_while {t = t} {o = o} {k = k} {ts = ts} {ts1 = ts1} m e q hc z hb) n =
        over sorts.While (refl, refl, refl, refl) t (o ∷ ts) n e ∙ open_parenthesis o ts n q
        ∙ item_over hc (suc n) ∙ shut k ts1 n z ∙ item_over hb n
    item_over (a_for {t = t} {o = o} {k1 = k1} {k2 = k2} {k3 = k3} {ts = ts} {ts1 = ts1} {ts2 = ts2}
        {ts3 = ts3} m e q ha z1 hc z2 hn z3 hb) n =
        over sorts.For (refl, refl, refl, refl) t (o ∷ ts) n e ∙ open_parenthesis o ts n q
        ∙ item_over ha (suc n) ∙ held k1 ts1 n z1 ∙ item_over hc (suc n) ∙ held k2 ts2 n z2
        ∙ item_over hn (suc n) ∙ shut k3 ts3 n z3 ∙ item_over hb n
    item_over (a_foreach {t = t} {o = o} {k = k} {s1 = s1} {v = v} {s2 = s2} {e = z} {ts = ts}
        {ts1 = ts1} m e q ek z1 ev z2 hr z3 hb) n =
        over sorts.Foreach (refl, refl, refl, refl) t (o ∷ k ∷ s1 ∷ v ∷ s2 ∷ ts) n e
        ∙ open_parenthesis o (k ∷ s1 ∷ v ∷ s2 ∷ ts) n q
        ∙ word_over k (s1 ∷ v ∷ s2 ∷ ts) (suc n) ek ∙ held s1 (v ∷ s2 ∷ ts) n z1
        ∙ word_over v (s2 ∷ ts) (suc n) ev ∙ held s2 ts n z2 ∙ item_over hr (suc n)
        ∙ shut z ts1 n z3 ∙ item_over hb n
    item_over (an_assign {e = e} {ts1 = ts1} m hr q hy) n = reference_over hr n
        ∙ over sorts.Assign (refl, refl, refl, refl) e ts1 n q ∙ item_over hy n
    item_over (a_chain m h) n = chain_over h n

    pub items_over : {d : ℕ} {ts rest : Tokens} {is : List Item} → IsItems May d ts is rest
        → (n : ℕ) → found (suc n) ts ≡ found n rest
    items_over (no_item {t = t} {rest = rest} e) n = shut_brace t rest n e
    items_over (items_from h k) n = item_over h (suc n) ∙ more_over k n

    more_over : {d : ℕ} {ts rest : Tokens} {is : List Item} → IsMore May d ts is rest → (n : ℕ)
        → found (suc n) ts ≡ found n rest
    more_over (closed {t = t} {rest = rest} e) n = shut_brace t rest n e
    more_over (closed_late {s = s} {t = t} {rest = rest} e q) n = held s (t ∷ rest) n e
        ∙ shut_brace t rest n q
    more_over (more {s = s} {ts = ts} e h k) n = held s ts n e ∙ item_over h (suc n) ∙ more_over k n

    reference_over : {d : ℕ} {ts rest : Tokens} {x : Reference} → IsReference May d ts x rest
        → (n : ℕ) → found n ts ≡ found n rest
    reference_over (a_reference {t = t} {ts = ts} e h) n = quiet t ts n (quiet_plain (sort t) e)
        ∙ indexes_over h n

    indexes_over : {d : ℕ} {ts rest : Tokens} {is : List Item} → IsIndexes May d ts is rest
        → (n : ℕ) → found n ts ≡ found n rest
    indexes_over no_index n = refl
    indexes_over (one_index {o = o} {k = k} {ts = ts} {ts1 = ts1} e h q g) n = open_bracket o ts n e
        ∙ item_over h (suc n) ∙ shut_bracket k ts1 n q ∙ indexes_over g n

    chain_over : {d l : ℕ} {ts rest : Tokens} {x : Node} → IsChain May d l ts x rest → (n : ℕ)
        → found n ts ≡ found n rest
    chain_over (a_unary h) n = unary_over h n
    chain_over (a_line h k) n = chain_over h n ∙ tail_over k n

    tail_over : {d l : ℕ} {a : Node} {ts rest : Tokens} {x : Node} → IsTail May d l a ts x rest
        → (n : ℕ) → found n ts ≡ found n rest
    tail_over tail_ends n = refl
    tail_over (tail_more {l = l} {t = t} {op = op} {ts = ts} e h k) n =
        quiet t ts n (quiet_level l (sort t) (op_level (suc l) (sort t) op e)) ∙ chain_over h n
        ∙ tail_over k n

    unary_over : {d : ℕ} {ts rest : Tokens} {x : Node} → IsUnary May d ts x rest → (n : ℕ)
        → found n ts ≡ found n rest
    unary_over (a_sign {t = t} {op = op} {ts = ts} m e h) n =
        quiet t ts n (quiet_unary (sort t) op e) ∙ unary_over h n
    unary_over (a_primary h k) n = primary_over h n ∙ suffix_over k n

    suffix_over : {d : ℕ} {a : Node} {ts rest : Tokens} {x : Node} → IsSuffix May d a ts x rest
        → (n : ℕ) → found n ts ≡ found n rest
    suffix_over suffix_ends n = refl
    suffix_over (an_index {o = o} {k = k} {ts = ts} {ts1 = ts1} e h q g) n = open_bracket o ts n e
        ∙ item_over h (suc n) ∙ shut_bracket k ts1 n q ∙ suffix_over g n

    primary_over : {d : ℕ} {ts rest : Tokens} {x : Node} → IsPrimary May d ts x rest → (n : ℕ)
        → found n ts ≡ found n rest
    primary_over (a_literal {t = t} {rest = rest} {x = x} e) n =
        quiet t rest n (quiet_literal (sort t) t x e)
    primary_over (a_name {t = t} {rest = rest} e) n = quiet t rest n (quiet_plain (sort t) e)
    primary_over (a_call {t = t} {o = o} {ts = ts} e q h) n =
        quiet t (o ∷ ts) n (quiet_plain (sort t) e) ∙ open_parenthesis o ts n q ∙ args_over h n
    primary_over (parens {o = o} {k = k} {ts = ts} {rest = rest} e h q) n =
        open_parenthesis o ts n e ∙ item_over h (suc n) ∙ shut k rest n q

    args_over : {d : ℕ} {ts rest : Tokens} {is : List Item} → IsArgs May d ts is rest → (n : ℕ)
        → found (suc n) ts ≡ found n rest
    args_over (no_arg {t = t} {rest = rest} e) n = shut t rest n e
    args_over (args_from h k) n = item_over h (suc n) ∙ more_args_over k n

    more_args_over : {d : ℕ} {ts rest : Tokens} {is : List Item} → IsMoreArgs May d ts is rest
        → (n : ℕ) → found (suc n) ts ≡ found n rest
    more_args_over (args_end {t = t} {rest = rest} e) n = shut t rest n e
    more_args_over (more_args {s = s} {ts = ts} e h k) n =
        over sorts.Comma (refl, refl, refl, refl) s ts (suc n) e ∙ item_over h (suc n)
        ∙ more_args_over k n

  -- ---- types

  signed_over : {ts rest : Tokens} {m : _} → IsSigned ts m rest → (n : ℕ)
      → found n ts ≡ found n rest
  signed_over (a_number {t = t} {rest = rest} e) n =
      over sorts.Int (refl, refl, refl, refl) t rest n e
  signed_over (a_negative {m = m} {t = t} {rest = rest} e q) n =
      over sorts.Minus (refl, refl, refl, refl) m (t ∷ rest) n e
      ∙ over sorts.Int (refl, refl, refl, refl) t rest n q

  bounds_over : {ts rest : Tokens} {b : _} → IsBounds ts b rest → (n : ℕ)
      → found n ts ≡ found n rest
  bounds_over (from_low h exactly) n = signed_over h n
  bounds_over (from_low h (at_least {r = r} {rest = rest} e)) n = signed_over h n
      ∙ over sorts.Range (refl, refl, refl, refl) r rest n e
  bounds_over (from_low h (from_to {r = r} {ts = ts} e g)) n = signed_over h n
      ∙ over sorts.Range (refl, refl, refl, refl) r ts n e ∙ signed_over g n
  bounds_over (at_most {r = r} {ts = ts} e h) n = over sorts.Range (refl, refl, refl, refl) r ts n e
      ∙ signed_over h n

  list_over : {ts rest : Tokens} {b : _} → IsRange sorts.CloseBracket ts b rest → (n : ℕ)
      → found (suc n) ts ≡ found n rest
  list_over (no_range {k = k} {rest = rest} e) n = shut_bracket k rest n e
  list_over (a_range {k = k} {rest = rest} h e) n = bounds_over h (suc n) ∙ shut_bracket k rest n e

  dict_over : {ts rest : Tokens} {b : _} → IsRange sorts.CloseBrace ts b rest → (n : ℕ)
      → found (suc n) ts ≡ found n rest
  dict_over (no_range {k = k} {rest = rest} e) n = shut_brace k rest n e
  dict_over (a_range {k = k} {rest = rest} h e) n = bounds_over h (suc n) ∙ shut_brace k rest n e

  bounded_over : {ts rest : Tokens} {b : _} → IsBounded ts b rest → (n : ℕ)
      → found n ts ≡ found n rest
  bounded_over (unbounded e) n = refl
  bounded_over (bounded {o = o} {k = k} {ts = ts} {rest = rest} q h e) n = open_parenthesis o ts n q
      ∙ bounds_over h (suc n) ∙ shut k rest n e

  suffixes_over : {ts rest : Tokens} {ss : _} → IsSuffixes ts ss rest → (n : ℕ)
      → found n ts ≡ found n rest
  suffixes_over (no_suffix e) n = refl
  suffixes_over (a_list {o = o} {ts = ts} q h k) n = open_bracket o ts n q ∙ list_over h n
      ∙ suffixes_over k n
  suffixes_over (a_dict {o = o} {ts = ts} q h k) n = open_brace o ts n q ∙ dict_over h n
      ∙ suffixes_over k n
  suffixes_over (a_link {l = l} {ts = ts} q k) n = over sorts.Star (refl, refl, refl, refl) l ts n q
      ∙ suffixes_over k n

  texts_over : {ts rest : Tokens} {xs : List (List ℕ)} → IsTexts ts xs rest → (n : ℕ)
      → found (suc n) ts ≡ found n rest
  texts_over (no_text {k = k} {rest = rest} e) n = shut k rest n e
  texts_over (a_text {c = c} {t = t} {ts = ts} e q k) n =
      over sorts.Comma (refl, refl, refl, refl) c (t ∷ ts) (suc n) e
      ∙ over sorts.Text (refl, refl, refl, refl) t ts (suc n) q ∙ texts_over k n

  option_over : {w : Sort} {d : ℕ} {ts rest : Tokens} {x : Option Item} → Quiet w
      → IsOption May w d ts x rest → (n : ℕ) → found n ts ≡ found n rest
  option_over q (absent e) n = refl
  option_over {w = w} q (present {t = t} {ts = ts} e h) n = over w q t ts n e ∙ item_over h n

  mutual
    pub full_over : {d : ℕ} {ts rest : Tokens} {x : FullType} → IsFull May d ts x rest → (n : ℕ)
        → found n ts ≡ found n rest
    full_over (a_full h k l) n = type_over h n ∙ option_over (refl, refl, refl, refl) k n
        ∙ option_over (refl, refl, refl, refl) l n

    type_over : {d : ℕ} {ts rest : Tokens} {x : TypeForm} → IsType May d ts x rest → (n : ℕ)
        → found n ts ≡ found n rest
    type_over (a_named {t = t} {ts = ts} m e h k) n = quiet t ts n (quiet_type (sort t) e)
        ∙ bounded_over h n ∙ suffixes_over k n
    type_over (a_record {t = t} {ts = ts} m m2 e h k) n = open_brace t ts n e ∙ fields_over h n
        ∙ suffixes_over k n
    type_over (an_extensible {t = t} {o = o} {ts = ts} m m2 e q h k) n =
        over sorts.Extensible (refl, refl, refl, refl) t (o ∷ ts) n e ∙ open_brace o ts n q
        ∙ fields_over h n ∙ suffixes_over k n
    type_over (a_choice {t = t} {o = o} {x = x} {ts = ts} m e q z h k) n =
        over sorts.Choice (refl, refl, refl, refl) t (o ∷ x ∷ ts) n e
        ∙ open_parenthesis o (x ∷ ts) n q
        ∙ over sorts.Text (refl, refl, refl, refl) x ts (suc n) z ∙ texts_over h n
        ∙ suffixes_over k n

    fields_over : {d : ℕ} {ts rest : Tokens} {fs : List Field} → IsFields May d ts fs rest → (n : ℕ)
        → found (suc n) ts ≡ found n rest
    fields_over (no_field {t = t} {rest = rest} e) n = shut_brace t rest n e
    fields_over (own_field {k = k} {c = c} {ts = ts} e q m h g) n =
        over sorts.Text (refl, refl, refl, refl) k (c ∷ ts) (suc n) e
        ∙ quiet c ts (suc n) (quiet_mark (sort c) m) ∙ full_over h (suc n) ∙ fields_over g n
    fields_over (include_field {i = i} {n = x} {ts = ts} e q g) n =
        over sorts.Include (refl, refl, refl, refl) i (x ∷ ts) (suc n) e
        ∙ quiet x ts (suc n) (quiet_type (sort x) q) ∙ fields_over g n

  -- ---- statements: each ends once, with its semicolon

  pub path_ends : (t a : Token) {s : Token} {ts rest : Tokens} {i : Item} → sort t ≡ sorts.Text
      → is_setting (sort a) ≡ true → IsItem May 0 ts i (s ∷ rest) → sort s ≡ sorts.Semicolon
      → found 0 (t ∷ a ∷ ts) ≡ ending s rest
  path_ends t a {s = s} {ts = ts} {rest = rest} e q h z =
      over sorts.Text (refl, refl, refl, refl) t (a ∷ ts) 0 e
      ∙ quiet a ts 0 (quiet_setting (sort a) q) ∙ item_over h 0 ∙ last s rest z

  pub variable_ends : (v w a : Token) {s : Token} {ts rest : Tokens} {i : Item} → sort v
      ≡ sorts.Variable
      → is_word (sort w) ≡ true → is_setting (sort a) ≡ true → IsItem May 0 ts i (s ∷ rest)
      → sort s ≡ sorts.Semicolon → found 0 (v ∷ w ∷ a ∷ ts) ≡ ending s rest
  variable_ends v w a {s = s} {ts = ts} {rest = rest} e q g h z =
      over sorts.Variable (refl, refl, refl, refl) v (w ∷ a ∷ ts) 0 e ∙ word_over w (a ∷ ts) 0 q
      ∙ quiet a ts 0 (quiet_setting (sort a) g) ∙ item_over h 0 ∙ last s rest z

  pub function_ends : (t w a : Token) {s : Token} {ts rest : Tokens} {i : Item} → sort t
      ≡ sorts.Function
      → is_word (sort w) ≡ true → sort a ≡ sorts.Assign → IsItem May 0 ts i (s ∷ rest)
      → sort s ≡ sorts.Semicolon → found 0 (t ∷ w ∷ a ∷ ts) ≡ ending s rest
  function_ends t w a {s = s} {ts = ts} {rest = rest} o e q h z =
      over sorts.Function (refl, refl, refl, refl) t (w ∷ a ∷ ts) 0 o ∙ word_over w (a ∷ ts) 0 e
      ∙ over sorts.Assign (refl, refl, refl, refl) a ts 0 q ∙ item_over h 0 ∙ last s rest z

  pub type_ends : (t w a : Token) {s : Token} {ts rest : Tokens} {f : FullType} → sort t
      ≡ sorts.«Type»
      → is_word (sort w) ≡ true → sort a ≡ sorts.Assign → IsFull May 0 ts f (s ∷ rest)
      → sort s ≡ sorts.Semicolon → found 0 (t ∷ w ∷ a ∷ ts) ≡ ending s rest
  type_ends t w a {s = s} {ts = ts} {rest = rest} o e q h z =
      over sorts.«Type» (refl, refl, refl, refl) t (w ∷ a ∷ ts) 0 o ∙ word_over w (a ∷ ts) 0 e
      ∙ over sorts.Assign (refl, refl, refl, refl) a ts 0 q ∙ full_over h 0 ∙ last s rest z

  pub bind_ends : (t x a : Token) {s : Token} {ts rest : Tokens} {f : FullType} → sort t
      ≡ sorts.Bind
      → sort x ≡ sorts.Text → sort a ≡ sorts.Assign → IsFull May 0 ts f (s ∷ rest)
      → sort s ≡ sorts.Semicolon → found 0 (t ∷ x ∷ a ∷ ts) ≡ ending s rest
  bind_ends t x a {s = s} {ts = ts} {rest = rest} o e q h z =
      over sorts.Bind (refl, refl, refl, refl) t (x ∷ a ∷ ts) 0 o
      ∙ over sorts.Text (refl, refl, refl, refl) x (a ∷ ts) 0 e
      ∙ over sorts.Assign (refl, refl, refl, refl) a ts 0 q ∙ full_over h 0 ∙ last s rest z

  pub valid_ends : (t x a : Token) {s : Token} {ts rest : Tokens} {i : Item} → sort t ≡ sorts.Valid
      → sort x ≡ sorts.Text → sort a ≡ sorts.Assign → IsItem May 0 ts i (s ∷ rest)
      → sort s ≡ sorts.Semicolon → found 0 (t ∷ x ∷ a ∷ ts) ≡ ending s rest
  valid_ends t x a {s = s} {ts = ts} {rest = rest} o e q h z =
      over sorts.Valid (refl, refl, refl, refl) t (x ∷ a ∷ ts) 0 o
      ∙ over sorts.Text (refl, refl, refl, refl) x (a ∷ ts) 0 e
      ∙ over sorts.Assign (refl, refl, refl, refl) a ts 0 q ∙ item_over h 0 ∙ last s rest z

  included_over : {ts rest : Tokens} {i : Item} → IsIncluded May ts i rest → (n : ℕ)
      → found n ts ≡ found n rest
  included_over (text_included {t = t} {rest = rest} m e) n =
      over sorts.Text (refl, refl, refl, refl) t rest n e
  included_over (block_included {t = t} {ts = ts} m e h) n = open_brace t ts n e ∙ items_over h n

  pub include_ends : (t : Token) {s : Token} {ts rest : Tokens} {i : Item} → sort t ≡ sorts.Include
      → IsIncluded May ts i (s ∷ rest) → sort s ≡ sorts.Semicolon
      → found 0 (t ∷ ts) ≡ ending s rest
  include_ends t {s = s} {ts = ts} {rest = rest} o h z =
      over sorts.Include (refl, refl, refl, refl) t ts 0 o ∙ included_over h 0 ∙ last s rest z

-- a statement that a path alone stands in
pub prefix_ends : (t x s : Token) (rest : Tokens) → sort t ≡ sorts.Prefix → sort x ≡ sorts.Text
    → sort s ≡ sorts.Semicolon → found 0 (t ∷ x ∷ s ∷ rest) ≡ ending s rest
prefix_ends t x s rest o e z =
    over sorts.Prefix (refl, refl, refl, refl) t (x ∷ s ∷ rest) 0 o
    ∙ over sorts.Text (refl, refl, refl, refl) x (s ∷ rest) 0 e ∙ last s rest z

-- ---- from some tokens to those left

-- They end with a semicolon that has so many bytes behind it, and nothing else ends among them.
pub record Ended (n : ℕ) (ts rest : Tokens) : Type 0 where
  pub semicolon : Token
  pub finds : found 0 ts ≡ ending semicolon rest
  pub counts : semicolon.end + n ≡ ended rest

-- the same with a word of the language before them
pub word_before : (s : Sort) → is_word s ≡ true → {t : Token} {n : ℕ} {ts rest : Tokens}
    → sort t ≡ s → Ended n ts rest → Ended n (t ∷ ts) rest
word_before s w {t = t} {ts = ts} e h = record {
  semicolon = h.semicolon;
  finds = word_over t ts 0 (ap is_word e ∙ w) ∙ h.finds;
  counts = h.counts;
}
