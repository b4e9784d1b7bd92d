-- What completes a state with a token completes the state after it: items, and all states.
use Rattle.std.proofs.Common.{◌≡◌, ◌≢◌, ℕ, zero, suc, ◌<◌, true, false, List, [], ◌∷◌, ◌++◌, Option, Some, None, refl, sym, subst, append_assoc, ◌∙◌, ◌⊎◌, inl, inr, arith}
use Rattle.std.proofs.lemmas.List.{append-nil}
use Rattle.pan_ast.specs.declared.sort.Sort.{Sort}
use Rattle.pan_ast.specs.declared.sort.Sort.TheVariants as sorts
use Rattle.pan_ast.specs.declared.token.Token.{Token}
use Rattle.pan_ast.specs.Sorts.{sort}
use Rattle.pan_ast.specs.Syntax.{Item, Node, Reference}
use Rattle.pan_ast.specs.Syntax as nodes
use Rattle.pan_ast.specs.Templates.{Template}
use Rattle.pan_grammar.specs.Grammar.{Tokens, Operator, op_of, joined, level, literal, block, plain, reference, assigned, name, called, inside, index, IsItem, a_block, an_if, an_if_else, a_while, a_for, a_foreach, a_chain, an_assign, IsReference, a_reference, IsIndexes, no_index, one_index, IsItems, no_item, items_from, IsMore, closed, closed_late, more, IsChain, a_unary, a_line, IsTail, tail_ends, tail_more, IsUnary, a_sign, a_primary, IsSuffix, suffix_ends, an_index, IsPrimary, a_literal, a_name, a_call, parens, IsArgs, no_arg, args_from, IsMoreArgs, args_end, more_args}
use Rattle.pan_grammar.specs.States.{Last, Further, MayElse, divider, right_side, ItemStack, Out, InBlock, InParts, InReference, InIndex, InParens, InCall, NodeStack, Chained, Signed, First, Operand, down, State, Start, Takes, Statements, FinalRead, IncludeRead, NeedFull, NameRead, TextsOpen, FieldsOpen, HasHead, NeedSigned, NeedBounds, HasLow, RangeRead, RangeOpen, NeedItem, NeedUnary, BlockOpen, WordRead, ItemWord, HasReference, CallOpen, HasItem, HasPrimary, HasNode, Done}
use Rattle.pan_grammar.specs.Machine.{when, unary_at, if_read, while_read, for_read, foreach_read, item_at, has_item, has_node, has_primary, has_reference, step}
use Rattle.pan_grammar.specs.Depths.{holders, node_holders, item_start}
use Rattle.pan_grammar.specs.Waiting.{IsOne, one, that, IsElse, no_else, an_else, IsChainFrom, from_unary, from_line, ReferenceGoes, ItemWaits, NodeWaits, PrimaryWaits, CallWaits, UnaryNeeded, Completes}
use Rattle.pan_grammar.proofs.Tests.{at_is, differs, hit, miss, some_taken, none_passed}
use Rattle.pan_grammar.proofs.Follow.{item_end, level-item_end, divider_ends, op_level, op_none, literal_bare, sign_bare}
use Rattle.pan_grammar.proofs.Firsts.{unary_word, unary_sign, item_word, item_bare, item_first}
use Rattle.pan_grammar.proofs.CompleteTypes.{one_cases, Leads, takes_complete, setting_leads, statements_complete, included_leads, start_complete, signed_leads, bounds_leads, low_complete, range_complete, open_complete, fields_complete, hole_complete, head_complete, full_leads, name_leads, texts_complete, hole_follow}

module _ (May : ℕ → Tokens → Type 0) where
  -- ---- what the grammar's lines are at a first token

  more_cases : {d : ℕ} {t : Token} {ts r : Tokens} {js : List Item}
      (P : List Item → Tokens → Type 0) → IsMore May d (t ∷ ts) js r → P js r
      → ((sort t ≡ sorts.CloseBrace) × P [] ts) ⊎ ((sort t ≡ sorts.Semicolon)
      × IsItems May d ts js r × P js r)
  more_cases P (closed e) p = inl (e, p)
  more_cases P (closed_late e k) p = inr (e, no_item k, p)
  more_cases P (more e i m) p = inr (e, items_from i m, p)

  args_cases : {d : ℕ} {t : Token} {ts r : Tokens} {js : List Item}
      (P : List Item → Tokens → Type 0) → IsMoreArgs May d (t ∷ ts) js r → P js r
      → ((sort t ≡ sorts.Close) × P [] ts) ⊎ ((i : Item) × (is : List Item) × (ts1 : Tokens)
      × (sort t ≡ sorts.Comma) × IsItem May d ts i ts1 × IsMoreArgs May d ts1 is r
      × P (i ∷ is) r)
  args_cases P (args_end e) p = inl (e, p)
  args_cases P (more_args {ts1 = ts1} {i = i} {is = is} e it m) p = inr (i, is, ts1, e, it, m, p)

  else_cases : {d : ℕ} {t : Token} {ts r : Tokens} {b : Option Item}
      (P : Option Item → Tokens → Type 0) → IsElse May d (t ∷ ts) b r → P b r
      → ((sort t ≢ sorts.Else) × P None (t ∷ ts)) ⊎ ((a : Item) × (sort t ≡ sorts.Else)
      × IsItem May d ts a r × P (Some a) r)
  else_cases P (no_else w) p = inl (w, p)
  else_cases P (an_else {b = b} e i) p = inr (b, e, i, p)

  tail_cases : {d l : ℕ} {a x : Node} {t : Token} {ts r : Tokens} (P : Node → Tokens → Type 0)
      → IsTail May d l a (t ∷ ts) x r → P x r
      → P a (t ∷ ts) ⊎ ((op : Operator) × (b : Node) × (ts1 : Tokens)
      × (op_of (suc l) (sort t) ≡ Some op) × IsChain May d l ts b ts1
      × IsTail May d l (joined op a b) ts1 x r × P x r)
  tail_cases P tail_ends p = inl p
  tail_cases P (tail_more {op = op} {ts1 = ts1} {b = b} e c m) p = inr (op, b, ts1, e, c, m, p)

  suffix_cases : {d : ℕ} {a x : Node} {t : Token} {ts r : Tokens} (P : Node → Tokens → Type 0)
      → IsSuffix May d a (t ∷ ts) x r → P x r
      → P a (t ∷ ts) ⊎ ((i : Item) × (k : Token) × (ts1 : Tokens) × (sort t ≡ sorts.OpenBracket)
      × IsItem May d ts i (k ∷ ts1) × (sort k ≡ sorts.CloseBracket)
      × IsSuffix May d (index a i) ts1 x r × P x r)
  suffix_cases P suffix_ends p = inl p
  suffix_cases P (an_index {k = k} {ts1 = ts1} {i = i} o it c m) p = inr (i, k, ts1, o, it, c, m, p)

  indexes_cases : {d : ℕ} {t : Token} {ts r : Tokens} {js : List Item}
      (P : List Item → Tokens → Type 0) → IsIndexes May d (t ∷ ts) js r → P js r
      → P [] (t ∷ ts) ⊎ ((i : Item) × (k : Token) × (ts1 : Tokens) × (is : List Item)
      × (sort t ≡ sorts.OpenBracket) × IsItem May d ts i (k ∷ ts1)
      × (sort k ≡ sorts.CloseBracket) × IsIndexes May d ts1 is r × P (i ∷ is) r)
  indexes_cases P no_index p = inl p
  indexes_cases P (one_index {k = k} {ts1 = ts1} {i = i} {is = is} o it c m) p =
      inr (i, k, ts1, is, o, it, c, m, p)

  items_cases : {d : ℕ} {t : Token} {ts r : Tokens} {js : List Item}
      (P : List Item → Tokens → Type 0) → IsItems May d (t ∷ ts) js r → P js r
      → ((sort t ≡ sorts.CloseBrace) × P [] ts) ⊎ ((i : Item) × (is : List Item) × (ts1 : Tokens)
      × IsItem May d (t ∷ ts) i ts1 × IsMore May d ts1 is r × P (i ∷ is) r)
  items_cases P (no_item e) p = inl (e, p)
  items_cases P (items_from {ts1 = ts1} {i = i} {is = is} it m) p = inr (i, is, ts1, it, m, p)

  call_cases : {d : ℕ} {t : Token} {ts r : Tokens} {js : List Item}
      (P : List Item → Tokens → Type 0) → IsArgs May d (t ∷ ts) js r → P js r
      → ((sort t ≡ sorts.Close) × P [] ts) ⊎ ((i : Item) × (is : List Item) × (ts1 : Tokens)
      × IsItem May d (t ∷ ts) i ts1 × IsMoreArgs May d ts1 is r × P (i ∷ is) r)
  call_cases P (no_arg e) p = inl (e, p)
  call_cases P (args_from {ts1 = ts1} {i = i} {is = is} it m) p = inr (i, is, ts1, it, m, p)

  -- ---- what can stand after an item and after a node

  item_follow : (s : ItemStack) (i : Item) (t : Token) (ts : Tokens) (z : Template)
      → ItemWaits May s i (t ∷ ts) z → item_end (sort t) ≡ true
  item_follow (Out o) i t ts z w = hole_follow May o i t ts z w
  item_follow (InBlock p is s) i t ts z w =
      elim (more_cases (λ js r. Unit {0}) w.2 tt) [ inl h ↦ rw h.0 refl | inr h ↦ rw h.0 refl ]
  item_follow (InParts (Last make) s) i t ts z w = item_follow s (make i) t ts z w
  item_follow (InParts (Further k next) s) i t ts z w =
      rw (one_cases (λ r. Unit {0}) w.3 tt).0 (divider_ends k)
  item_follow (InParts (MayElse make) s) i t ts z w =
      elim (else_cases (λ b r. ItemWaits May s (make i b) r z) w.2 w.3)
      [ inl h ↦ item_follow s (make i None) t ts z h.1 | inr h ↦ rw h.1 refl ]
  item_follow (InReference f is x s) i t ts z w = rw (one_cases (λ r. Unit {0}) w.1 tt).0 refl
  item_follow (InIndex x n) i t ts z w = rw (one_cases (λ r. Unit {0}) w.3 tt).0 refl
  item_follow (InParens p n) i t ts z w = rw (one_cases (λ r. Unit {0}) w.3 tt).0 refl
  item_follow (InCall f is n) i t ts z w =
      elim (args_cases (λ js r. Unit {0}) w.4 tt) [ inl h ↦ rw h.0 refl | inr h ↦ rw h.3 refl ]

  node_follow : {l : ℕ} (n : NodeStack l) (x : Node) (t : Token) (ts : Tokens) (z : Template)
      → NodeWaits May n x (t ∷ ts) z → (item_end (sort t) ≡ true) ⊎ (l < level (sort t))
  node_follow (Chained s) x t ts z w = inl (item_follow s (plain x) t ts z w)
  node_follow (Signed op p n) x t ts z w = node_follow n (nodes.Unary p op x) t ts z w
  node_follow (First {l} n) x t ts z w =
      elim (tail_cases (λ y r. NodeWaits May n y r z) w.2 w.3) [
        | inl h ↦ elim (node_follow n x t ts z h) [ inl e ↦ inl e | inr lt ↦ inr (omega arith) ]
        | inr h ↦ let e : level (sort t) ≡ suc l = op_level (suc l) (sort t) h.0 h.3 in
            inr (omega arith)
      ]
  node_follow (Operand {l} op a n) x t ts z w =
      elim (tail_cases (λ y r. NodeWaits May n y r z) w.2 w.3) [
        | inl h ↦ elim (node_follow n (joined op a x) t ts z h)
            [ inl e ↦ inl e | inr lt ↦ inr (omega arith) ]
        | inr h ↦ let e : level (sort t) ≡ suc l = op_level (suc l) (sort t) h.0 h.3 in
            inr (omega arith)
      ]

  no_op : (l : ℕ) (n : NodeStack (suc l)) (x : Node) (t : Token) (ts : Tokens) (z : Template)
      → NodeWaits May n x (t ∷ ts) z → op_of (suc l) (sort t) ≡ None
  no_op l n x t ts z w =
      elim (node_follow n x t ts z w) [
        | inl e ↦ let h : level (sort t) ≡ 0 = level-item_end (sort t) e in
            op_none (suc l) (sort t) (λ k. omega arith)
        | inr lt ↦ op_none (suc l) (sort t) (λ k. omega arith)
      ]

  -- a token that no node is followed by
  not_after : {l : ℕ} (n : NodeStack l) (x : Node) (t : Token) (ts : Tokens) (z : Template)
      (s : Sort) → item_end s ≡ false → level s ≡ 0 → NodeWaits May n x (t ∷ ts) z → sort t ≢ s
  not_after n x t ts z s no_end no_level w e =
      elim (node_follow n x t ts z w) [
        | inl h ↦ let k : item_end s ≡ true = rw e at h in absurd cc
        | inr lt ↦ let k : level (sort t) ≡ 0 = rw e no_level in absurd (omega arith)
      ]

  -- ---- where a token leads

  chain_needs : (l : ℕ) (n : NodeStack l) (ts : Tokens) (z : Template) (x : Node) (rest : Tokens)
      → IsChain May (node_holders n) l ts x rest → NodeWaits May n x rest z
      → UnaryNeeded May (down l n) ts z
  chain_needs zero n ts z x rest (a_unary u) w = (x, rest, u, w)
  chain_needs (suc l) n ts z x rest (a_line {ts1 = ts1} {a = a} c m) w =
      chain_needs l (First n) ts z a ts1 c (x, rest, m, w)

  mutual
    pub item_complete : (s : ItemStack) (i : Item) (t : Token) (ts : Tokens) (z : Template)
        → ItemWaits May s i (t ∷ ts) z → Leads May (has_item s i t) ts z
    item_complete (Out o) i t ts z w = hole_complete May o i t ts z w
    item_complete (InBlock p is s) i t ts z w =
        elim (more_cases (λ js r. ItemWaits May s (block p (is ++ i ∷ js)) r z) w.2 w.3) [
          | inl h ↦ (HasItem (block p (is ++ i ∷ [])) s, rw h.0 refl, h.1)
          | inr h ↦ (
            BlockOpen p (is ++ i ∷ []) s,
            rw h.0 refl,
            (
              w.0,
              w.1,
              h.1,
              subst (λ q. ItemWaits May s (block p q) w.1 z)
                  (sym (append_assoc is (i ∷ []) w.0)) h.2,
            ),
          )
        ]
    item_complete (InParts (Last make) s) i t ts z w = item_complete s (make i) t ts z w
    item_complete (InParts (Further k next) s) i t ts z w =
        let h = one_cases (λ r. IsItem May (suc (holders s)) r w.0 w.2) w.3 w.4 in
        (NeedItem (InParts (next i) s), hit (divider k) (sort t) _ _ h.0, (w.0, w.2, h.1, w.5))
    item_complete (InParts (MayElse make) s) i t ts z w =
        elim (else_cases (λ b r. ItemWaits May s (make i b) r z) w.2 w.3) [
          | inl h ↦ let g = item_complete s (make i None) t ts z h.1 in (
            g.0,
            miss sorts.Else (sort t) (NeedItem (InParts (Last (λ b. make i (Some b))) s))
                (has_item s (make i None) t) h.0 ∙ g.1,
            g.2,
          )
          | inr h ↦ (
            NeedItem (InParts (Last (λ b. make i (Some b))) s),
            hit sorts.Else (sort t) _ _
                h.1,
            (h.0, w.1, h.2, h.3),
          )
        ]
    item_complete (InReference f is x s) i t ts z w =
        let h = one_cases (λ r. ReferenceGoes May (suc (holders s)) (λ j q. ItemWaits May s j q z) f
        (is ++ i ∷ []) (index x i) r) w.1 w.2 in
        (HasReference f (is ++ i ∷ []) (index x i) s, hit sorts.CloseBracket (sort t) _ _ h.0, h.1)
    item_complete (InIndex x n) i t ts z w =
        let h = one_cases (λ r. IsSuffix May (node_holders n) (index x i) r w.0 w.2) w.3 w.4 in
        (HasPrimary (index x i) n, hit sorts.CloseBracket (sort t) _ _ h.0, (w.0, w.2, h.1, w.5))
    item_complete (InParens p n) i t ts z w =
        let h = one_cases (λ r. IsSuffix May (node_holders n) (inside p i) r w.0 w.2) w.3 w.4 in
        (HasPrimary (inside p i) n, hit sorts.Close (sort t) _ _ h.0, (w.0, w.2, h.1, w.5))
    item_complete (InCall f is n) i t ts z w =
        elim (args_cases (λ js r. IsSuffix May (node_holders n) (called f (is ++ i ∷ js)) r w.1 w.3)
        w.4 w.5) [
          | inl h ↦ (HasPrimary (called f (is ++ i ∷ [])) n, rw h.0 refl, (w.1, w.3, h.1, w.6))
          | inr h ↦ (
            NeedItem (InCall f (is ++ i ∷ []) n),
            rw h.3 refl,
            (
              h.0,
              h.2,
              h.4,
              (
                h.1,
                w.1,
                w.2,
                w.3,
                h.5,
                subst
                    (λ q. IsSuffix May (node_holders n) (called f q) w.2 w.1 w.3)
                    (sym (append_assoc is (i ∷ []) (h.0 ∷ h.1))) h.6,
                w.6,
              ),
            ),
          )
        ]

    pub node_complete : {l : ℕ} (n : NodeStack l) (x : Node) (t : Token) (ts : Tokens)
        (z : Template) → NodeWaits May n x (t ∷ ts) z → Leads May (has_node n x t) ts z
    node_complete (Chained s) x t ts z w = item_complete s (plain x) t ts z w
    node_complete (Signed op p n) x t ts z w = node_complete n (nodes.Unary p op x) t ts z w
    node_complete (First {l} n) x t ts z w =
        elim (tail_cases (λ y r. NodeWaits May n y r z) w.2 w.3) [
          | inl h ↦ let g = node_complete n x t ts z h in
              (g.0, none_passed (op_of (suc l) (sort t)) _ _ (no_op l n x t ts z h) ∙ g.1, g.2)
          | inr h ↦ (
            NeedUnary (down l (Operand h.0 x n)),
            some_taken (op_of (suc l) (sort t)) _ _
                h.0 h.3,
            chain_needs l (Operand h.0 x n) ts z h.1 h.2 h.4 (w.0, w.1, h.5, h.6),
          )
        ]
    node_complete (Operand {l} op a n) x t ts z w =
        elim (tail_cases (λ y r. NodeWaits May n y r z) w.2 w.3) [
          | inl h ↦ let g = node_complete n (joined op a x) t ts z h in (
            g.0,
            none_passed (op_of (suc l) (sort t)) _ _ (no_op l n (joined op a x) t ts z h)
                ∙ g.1,
            g.2,
          )
          | inr h ↦ (
            NeedUnary (down l (Operand h.0 (joined op a x) n)),
            some_taken
                (op_of (suc l) (sort t)) _ _ h.0 h.3,
            chain_needs l (Operand h.0 (joined op a x) n) ts
                z h.1 h.2 h.4 (w.0, w.1, h.5, h.6),
          )
        ]

  primary_complete : (n : NodeStack zero) (x : Node) (t : Token) (ts : Tokens) (z : Template)
      → PrimaryWaits May n x (t ∷ ts) z → Leads May (has_primary n x t) ts z
  primary_complete n x t ts z w =
      elim (suffix_cases (λ y r. NodeWaits May n y r z) w.2 w.3) [
        | inl h ↦ let g = node_complete n x t ts z h in (
          g.0,
          miss sorts.OpenBracket (sort t) (NeedItem (InIndex x n)) (has_node n x t)
              (not_after n x t ts z sorts.OpenBracket refl refl h) ∙ g.1,
          g.2,
        )
        | inr h ↦ (
          NeedItem (InIndex x n),
          hit sorts.OpenBracket (sort t) _ _ h.3,
          (h.0, h.1 ∷ h.2, h.4, (w.0, h.2, w.1, one h.5, h.6, h.7)),
        )
      ]

  primary_leads : (n : NodeStack zero) (t : Token) (ts : Tokens) (x y : Node) (ts1 rest : Tokens)
      (z : Template) → IsPrimary May (node_holders n) (t ∷ ts) x ts1
      → IsSuffix May (node_holders n) x ts1 y rest → NodeWaits May n y rest z
      → Leads May (unary_at t n) ts z
  primary_leads n t ts x y ts1 rest z (a_literal e) s w =
      (HasPrimary x n, some_taken (literal (sort t) t) _ _ x e, (y, rest, s, w))
  primary_leads n t ts x y ts1 rest z (a_name e) s w =
      (WordRead t n, unary_word t n e, inr (y, rest, s, w))
  primary_leads n t ts x y ts1 rest z (a_call {ts = ts0} {is = is} e o args) s w =
      (WordRead t n, unary_word t n e, inl (ts0, one o, (is, y, ts1, rest, args, s, w)))
  primary_leads n t ts x y ts1 rest z (parens {k = k} {i = i} e it c) s w =
      (NeedItem (InParens t.place n), rw e refl, (i, k ∷ ts1, it, (y, ts1, rest, one c, s, w)))

  unary_leads : (n : NodeStack zero) (t : Token) (ts : Tokens) (x : Node) (rest : Tokens)
      (z : Template) → IsUnary May (node_holders n) (t ∷ ts) x rest → NodeWaits May n x rest z
      → Leads May (unary_at t n) ts z
  unary_leads n t ts x rest z (a_sign {op = op} {x = y} m e u) w =
      (NeedUnary (Signed op t.place n), unary_sign t n op e, (y, rest, u, w))
  unary_leads n t ts x rest z (a_primary {ts1 = ts1} {x = p} h s) w =
      primary_leads n t ts p x ts1 rest z h s w

  pub down_node : (l : ℕ) (n : NodeStack l) (x y : Node) (ts rest : Tokens) (z : Template)
      → IsChainFrom May (node_holders n) l x ts y rest → NodeWaits May n y rest z
      → NodeWaits May (down l n) x ts z
  down_node zero n x y ts rest z from_unary w = w
  down_node (suc l) n x y ts rest z (from_line {a = a} {ts1 = ts1} c m) w =
      down_node l (First n) x a ts ts1 z c (y, rest, m, w)

  chain_split : {d : ℕ} (l : ℕ) (ts : Tokens) (y : Node) (rest : Tokens) → IsChain May d l ts y rest
      → (x : Node) × (ts1 : Tokens) × IsUnary May d ts x ts1 × IsChainFrom May d l x ts1 y rest
  chain_split zero ts y rest (a_unary u) = (y, rest, u, from_unary)
  chain_split (suc l) ts y rest (a_line {ts1 = ts2} {a = a} c m) = let g =
      chain_split l ts a ts2 c in (g.0, g.1, g.2, from_line g.3 m)

  reference_complete : (f : Token) (is : List Item) (x : Node) (s : ItemStack) (t : Token)
      (ts : Tokens) (z : Template) → ReferenceGoes May (suc (holders s))
      (λ j r. ItemWaits May s j r z) f is x (t ∷ ts) → Leads May (has_reference f is x s t) ts z
  reference_complete f is x s t ts z w =
      elim w [
        | inl r ↦ elim (suffix_cases (λ x1 ts1. (y : Node) × (rest : Tokens)
            × IsChainFrom May (suc (holders s)) 9 x1 ts1 y rest × ItemWaits May s (plain y) rest z)
            r.4 (r.1, r.3, r.5, r.6)) [
              | inl h ↦ let v = down_node 9 (Chained s) x h.0 (t ∷ ts) h.1 z h.2 h.3 in
                  let g = node_complete (down 9 (Chained s)) x t ts z v in (
                    g.0,
                    miss sorts.OpenBracket (sort t) (NeedItem (InReference f is x s))
                        (when sorts.Assign (sort t)
                        (NeedItem (InParts (right_side (reference f is)) s))
                        (has_node (down 9 (Chained s)) x t)) (not_after (down 9 (Chained s)) x t ts
                        z
                        sorts.OpenBracket refl refl v)
                        ∙ miss sorts.Assign (sort t)
                        (NeedItem (InParts (right_side (reference f is)) s))
                        (has_node (down 9 (Chained s)) x t) (not_after (down 9 (Chained s)) x t ts z
                        sorts.Assign refl refl v) ∙ g.1,
                    g.2,
                  )
              | inr h ↦ (
                NeedItem (InReference f is x s),
                rw h.3 refl,
                (
                  h.0,
                  h.1 ∷ h.2,
                  h.4,
                  (
                    h.2,
                    one h.5,
                    inl (
                      r.0,
                      h.7.0,
                      r.2,
                      h.7.1,
                      h.6,
                      h.7.2,
                      h.7.3,
                    ),
                  ),
                ),
              )
            ]
        | inr r ↦ elim (indexes_cases (λ js ts1. IsOne sorts.Assign ts1 r.3
            × ItemWaits May s (assigned (reference f (is ++ js)) r.1) r.4 z) r.5 (r.6, r.8)) [
              | inl h ↦ let k = one_cases (λ q. IsItem May (suc (holders s)) q r.1 r.4) h.0 r.7 in (
                NeedItem (InParts (right_side (reference f is)) s),
                rw k.0 refl,
                (
                  r.1,
                  r.4,
                  k.1,
                  subst (λ (q : List Item). ItemWaits May s
                      (assigned (reference f q) r.1) r.4 z) (append-nil is) h.1,
                ),
              )
              | inr h ↦ (
                NeedItem (InReference f is x s),
                rw h.4 refl,
                (
                  h.0,
                  h.1 ∷ h.2,
                  h.5,
                  (
                    h.2,
                    one h.6,
                    inr (
                      h.3,
                      r.1,
                      r.2,
                      r.3,
                      r.4,
                      h.7,
                      h.8.0,
                      r.7,
                      subst
                          (λ (q : List Item). ItemWaits May s (assigned (reference f q) r.1) r.4 z)
                          (sym (append_assoc is (h.0 ∷ []) h.3)) h.8.1,
                    ),
                  ),
                ),
              )
            ]
      ]

  not_open_reference : (f : Token) (is : List Item) (x : Node) (s : ItemStack) (t : Token)
      (ts : Tokens) (z : Template) → ReferenceGoes May (suc (holders s))
      (λ j r. ItemWaits May s j r z) f is x (t ∷ ts) → sort t ≢ sorts.Open
  not_open_reference f is x s t ts z w =
      elim w [
        | inl r ↦ elim (suffix_cases (λ x1 ts1. (y : Node) × (rest : Tokens)
            × IsChainFrom May (suc (holders s)) 9 x1 ts1 y rest × ItemWaits May s (plain y) rest z)
            r.4 (r.1, r.3, r.5, r.6)) [
              | inl h ↦ not_after (down 9 (Chained s)) x t ts z sorts.Open refl refl
                  (down_node 9 (Chained s) x h.0 (t ∷ ts) h.1 z h.2 h.3)
              | inr h ↦ λ e. let k : sort t ≡ sorts.OpenBracket = h.3 in absurd cc
            ]
        | inr r ↦ elim (indexes_cases (λ js ts1. IsOne sorts.Assign ts1 r.3) r.5 r.6) [
          | inl h ↦ λ e. let k : sort t ≡ sorts.Assign = (one_cases (λ q. Unit {0}) h tt).0 in
              absurd cc
          | inr h ↦ λ e. let k : sort t ≡ sorts.OpenBracket = h.4 in absurd cc
        ]
      ]

  -- ---- a chain that begins an item

  primary_item : (s : ItemStack) (t : Token) (ts : Tokens) (p x y : Node) (ts1 ts2 rest : Tokens)
      (z : Template) → IsPrimary May (suc (holders s)) (t ∷ ts) p ts1
      → IsSuffix May (suc (holders s)) p ts1 x ts2 → IsChainFrom May (suc (holders s)) 9 x ts2 y
      rest → ItemWaits May s (plain y) rest z
      → Leads May (item_at t s) ts z
  primary_item s t ts p x y ts1 ts2 rest z (a_literal e) u c w =
      let g = primary_leads (down 9 (Chained s)) t ts p x ts1 ts2 z (a_literal e) u
      (down_node 9 (Chained s) x y ts2 rest z c w) in
      (g.0, item_bare t s (literal_bare (sort t) t p e).0 ∙ g.1, g.2)
  primary_item s t ts p x y ts1 ts2 rest z (a_name e) u c w =
      (ItemWord t s, item_word t s e, inr (inl (x, y, ts2, rest, u, c, w)))
  primary_item s t ts p x y ts1 ts2 rest z (a_call {ts = ts0} {is = is} e o args) u c w = (
    ItemWord t s,
    item_word t s e,
    inl (
      ts0,
      one o,
      (is, x, ts1, ts2, args, u, down_node 9 (Chained s) x y ts2 rest z c w),
    ),
  )
  primary_item s t ts p x y ts1 ts2 rest z (parens e it k) u c w =
      let g = primary_leads (down 9 (Chained s)) t ts p x ts1 ts2 z (parens e it k) u
      (down_node 9 (Chained s) x y ts2 rest z c w) in
      (g.0, item_bare t s (rw e refl) ∙ g.1, g.2)

  unary_item : (s : ItemStack) (t : Token) (ts : Tokens) (x y : Node) (ts2 rest : Tokens)
      (z : Template) → IsUnary May (suc (holders s)) (t ∷ ts) x ts2
      → IsChainFrom May (suc (holders s)) 9 x ts2 y rest → ItemWaits May s (plain y) rest z
      → Leads May (item_at t s) ts z
  unary_item s t ts x y ts2 rest z (a_sign {op = op} m e u) c w =
      let g = unary_leads (down 9 (Chained s)) t ts x ts2 z (a_sign m e u)
      (down_node 9 (Chained s) x y ts2 rest z c w) in
      (g.0, item_bare t s (sign_bare (sort t) op e) ∙ g.1, g.2)
  unary_item s t ts x y ts2 rest z (a_primary {ts1 = ts1} {x = p} h u) c w =
      primary_item s t ts p x y ts1 ts2 rest z h u c w

  assign_leads : (s : ItemStack) (t : Token) (ts ts1 rest : Tokens) (e : Token) (r : Reference)
      (y : Item) (z : Template) → IsReference May (suc (holders s)) (t ∷ ts) r (e ∷ ts1) → sort e
      ≡ sorts.Assign → IsItem May (suc (holders s)) ts1 y rest
      → ItemWaits May s (assigned r y) rest z → Leads May (item_at t s) ts z
  assign_leads s t ts ts1 rest e r y z (a_reference {is = is} k idx) h it w =
      (ItemWord t s, item_word t s k, inr (inr (is, y, e ∷ ts1, ts1, rest, idx, one h, it, w)))

  item_leads : (s : ItemStack) (t : Token) (ts : Tokens) (i : Item) (rest : Tokens) (z : Template)
      → IsItem May (holders s) (t ∷ ts) i rest → ItemWaits May s i rest z
      → Leads May (item_at t s) ts z
  item_leads s t ts i rest z (a_block {is = is} m e h) w =
      (BlockOpen t.place [] s, rw e refl, (is, rest, h, w))
  item_leads s t ts i rest z (an_if {o = o} {k = k} {ts = ts0} {ts1 = ts1} {c = c} {a = a} m e ko hc
      ke ha no_more) w = (
        if_read t.place s,
        rw e refl,
        (
          o,
          ts0,
          that (at_is _ _ ko),
          (c, k ∷ ts1, hc, (a, ts1, rest, one ke, ha, (None, rest, no_else no_more, w))),
        ),
      )
  item_leads s t ts i rest z (an_if_else {o = o} {k = k} {e = e1} {ts = ts0} {ts1 = ts1} {ts2 = ts2}
      {c = c} {a = a} {b = b} m e ko hc ke ha ee hb) w = (
        if_read t.place s,
        rw e refl,
        (
          o,
          ts0,
          that (at_is _ _ ko),
          (c, k ∷ ts1, hc, (a, ts1, e1 ∷ ts2, one ke, ha, (Some b, rest, an_else ee hb, w))),
        ),
      )
  item_leads s t ts i rest z (a_while {o = o} {k = k} {ts = ts0} {ts1 = ts1} {c = c} {b = b} m e ko
      hc ke hb) w = (
        while_read t.place s,
        rw e refl,
        (o, ts0, that (at_is _ _ ko), (c, k ∷ ts1, hc, (b, ts1, rest, one ke, hb, w))),
      )
  item_leads s t ts i rest z (a_for {o = o} {k1 = k1} {k2 = k2} {k3 = k3} {ts = ts0} {ts1 = ts1}
      {ts2 = ts2} {ts3 = ts3} {a = a} {c = c} {n = n} {b = b} m e ko ha e1 hc e2 hn e3 hb) w = (
        for_read t.place s,
        rw e refl,
        (
          o,
          ts0,
          that (at_is _ _ ko),
          (
            a,
            k1 ∷ ts1,
            ha,
            (
              c,
              ts1,
              k2 ∷ ts2,
              one e1,
              hc,
              (n, ts2, k3 ∷ ts3, one e2, hn, (b, ts3, rest, one e3, hb, w)),
            ),
          ),
        ),
      )
  item_leads s t ts i rest z (a_foreach {o = o} {k = k} {s1 = s1} {v = v} {s2 = s2} {e = e1}
      {ts = ts0} {ts1 = ts1} {r = r} {b = b} m e ko kk k1 kv k2 hr ke hb) w = (
        foreach_read t.place s,
        rw e refl,
        (
          o,
          k ∷ s1 ∷ v ∷ s2 ∷ ts0,
          that (at_is _ _ ko),
          (
            k,
            s1 ∷ v ∷ s2 ∷ ts0,
            that kk,
            (
              s1,
              v ∷ s2 ∷ ts0,
              that (at_is _ _ k1),
              (
                v,
                s2 ∷ ts0,
                that kv,
                (
                  s2,
                  ts0,
                  that (at_is _ _ k2),
                  (r, e1 ∷ ts1, hr, (b, ts1, rest, one ke, hb, w)),
                ),
              ),
            ),
          ),
        ),
      )
  item_leads s t ts i rest z (an_assign {e = e} {ts1 = ts1} {r = r} {y = y} m h k it) w =
      assign_leads s t ts ts1 rest e r y z h k it w
  item_leads s t ts i rest z (a_chain {x = x} m c) w = let g = chain_split 9 (t ∷ ts) x rest c in
      unary_item s t ts g.0 x g.1 rest z g.2 g.3 w

  -- what completes a state with a token completes the state after it
  pub step_complete : (σ : State) (t : Token) (ts : Tokens) (z : Template)
      → Completes May σ (t ∷ ts) z → Leads May (step σ t) ts z
  step_complete Start t ts z w = start_complete May t ts z w
  step_complete (Takes v next) t ts z w = takes_complete May v next t ts z w
  step_complete (Statements h ss) t ts z w = statements_complete May h ss t ts z w
  step_complete (FinalRead p h ss) t ts z w = setting_leads May p true h ss t ts z w.0 w.1 w.2 w.3
  step_complete (IncludeRead p h ss) t ts z w = included_leads May p h ss t ts z w.0 w.1 w.2 w.3
  step_complete (NeedFull s) t ts z w = full_leads May s t ts z w.0 w.1 w.2 w.3
  step_complete (NameRead n s) t ts z w = name_leads May n s t ts z w.0 w.1 w.2 w.3
  step_complete (TextsOpen xs s) t ts z w = texts_complete May xs s t ts z w
  step_complete (FieldsOpen x fs s) t ts z w = fields_complete May x fs s t ts z w
  step_complete (HasHead a ss s) t ts z w = head_complete May a ss s t ts z w
  step_complete (NeedSigned next) t ts z w = signed_leads May next t ts z w.0 w.1 w.2 w.3
  step_complete (NeedBounds c next) t ts z w =
      bounds_leads May c next t ts z w.0 w.1 w.2 w.3 w.4 w.5
  step_complete (HasLow c p n next) t ts z w = low_complete May c p n next t ts z w
  step_complete (RangeRead c p n next) t ts z w = range_complete May c p n next t ts z w
  step_complete (RangeOpen c next) t ts z w = open_complete May c next t ts z w
  step_complete (NeedItem s) t ts z w = item_leads s t ts w.0 w.1 z w.2 w.3
  step_complete (NeedUnary n) t ts z w = unary_leads n t ts w.0 w.1 z w.2 w.3
  step_complete (BlockOpen p is s) t ts z w =
      elim (items_cases (λ js r. ItemWaits May s (block p (is ++ js)) r z) w.2 w.3) [
        | inl h ↦ (
          HasItem (block p is) s,
          rw h.0 refl,
          subst
              (λ q. ItemWaits May s (block p q) ts z) (append-nil is) h.1,
        )
        | inr h ↦ let g = item_leads (InBlock p is s) t ts h.0 h.2 z h.3 (h.1, w.1, h.4, h.5) in (
          g.0,
          miss sorts.CloseBrace (sort t) (HasItem (block p is) s)
              (item_at t (InBlock p is s)) (differs item_start (sort t) sorts.CloseBrace
              (item_first t (InBlock p is s) g.0 g.1) refl) ∙ g.1,
          g.2,
        )
      ]
  step_complete (WordRead f n) t ts z w =
      elim w [
        | inl g ↦ let h = one_cases (λ r. CallWaits May f n r z) g.1 g.2 in
            (CallOpen f n, hit sorts.Open (sort t) _ _ h.0, h.1)
        | inr g ↦ let h = primary_complete n (name f) t ts z g in (
          h.0,
          miss sorts.Open (sort t) (CallOpen f n) (has_primary n (name f) t) (not_open g)
              ∙ h.1,
          h.2,
        )
      ] where
        not_open : PrimaryWaits May n (name f) (t ∷ ts) z → sort t ≢ sorts.Open
        not_open g = elim (suffix_cases (λ y r. NodeWaits May n y r z) g.2 g.3) [
          | inl h ↦ not_after n (name f) t ts z sorts.Open refl refl h
          | inr h ↦ λ e. let k : sort
              t ≡ sorts.OpenBracket = h.3 in absurd cc
        ]
  step_complete (ItemWord f s) t ts z w =
      elim w [
        | inl g ↦ let h = one_cases (λ r. CallWaits May f (down 9 (Chained s)) r z) g.1 g.2 in
            (CallOpen f (down 9 (Chained s)), hit sorts.Open (sort t) _ _ h.0, h.1)
        | inr g ↦ let h = reference_complete f [] (name f) s t ts z g in (
          h.0,
          miss sorts.Open (sort t) (CallOpen f (down 9 (Chained s)))
              (has_reference f [] (name f) s t) (not_open_reference f [] (name f) s t ts z g)
              ∙ h.1,
          h.2,
        )
      ]
  step_complete (HasReference f is x s) t ts z w = reference_complete f is x s t ts z w
  step_complete (CallOpen f n) t ts z w =
      elim (call_cases (λ js r. IsSuffix May (node_holders n) (called f js) r w.1 w.3) w.4 w.5) [
        | inl h ↦ (HasPrimary (called f []) n, rw h.0 refl, (w.1, w.3, h.1, w.6))
        | inr h ↦ let g = item_leads (InCall f [] n) t ts h.0 h.2 z h.3
            (h.1, w.1, w.2, w.3, h.4, h.5, w.6) in (
              g.0,
              miss sorts.Close (sort t) (HasPrimary (called f []) n) (item_at t (InCall f [] n))
                  (differs item_start (sort t) sorts.Close (item_first t (InCall f [] n) g.0 g.1)
                  refl) ∙ g.1,
              g.2,
            )
      ]
  step_complete (HasItem i s) t ts z w = item_complete s i t ts z w
  step_complete (HasPrimary x n) t ts z w = primary_complete n x t ts z w
  step_complete (HasNode x n) t ts z w = node_complete n x t ts z w
  step_complete (Done i) t ts z w = let e : t ∷ ts ≡ [] = w.0 in absurd cc
