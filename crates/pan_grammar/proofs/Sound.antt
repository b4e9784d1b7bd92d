-- What completes the state after a token completes the state before it, with the token: items, and
-- all states.
use Rattle.std.proofs.Common.{◌≡◌, ℕ, zero, suc, true, List, [], ◌∷◌, ◌++◌, Option, Some, None, refl, sym, subst, append_assoc, inl, inr}
use Rattle.std.proofs.lemmas.List.{append-nil}
use Rattle.pan_ast.specs.declared.sort.Sort.TheVariants as sorts
use Rattle.pan_ast.specs.declared.token.Token.{Token}
use Rattle.pan_ast.specs.Sorts.{sort, is_plain}
use Rattle.pan_ast.specs.Syntax.{Item, Node, Reference, choice}
use Rattle.pan_ast.specs.Syntax as nodes
use Rattle.pan_ast.specs.Templates.{Template}
use Rattle.pan_grammar.specs.Grammar.{Tokens, op_of, joined, literal, unary_of, block, plain, reference, assigned, name, called, inside, index, IsItem, a_block, an_if, an_if_else, a_while, a_for, a_foreach, a_chain, an_assign, a_reference, IsIndexes, no_index, one_index, IsItems, no_item, items_from, IsMore, closed, closed_late, more, IsChain, a_unary, a_line, tail_ends, tail_more, IsUnary, a_sign, a_primary, IsSuffix, suffix_ends, an_index, IsPrimary, a_literal, a_name, a_call, parens, IsArgs, no_arg, args_from, args_end, more_args}
use Rattle.pan_grammar.specs.States.{Last, Further, MayElse, divider, right_side, ItemStack, Out, InBlock, InParts, InReference, InIndex, InParens, InCall, NodeStack, Chained, Signed, First, Operand, down, AnOpen, ASemicolon, AWord, State, Start, Takes, Statements, FinalRead, IncludeRead, NeedFull, NameRead, TextsOpen, FieldsOpen, HasHead, NeedSigned, NeedBounds, HasLow, RangeRead, RangeOpen, NeedItem, NeedUnary, BlockOpen, WordRead, ItemWord, HasReference, CallOpen, HasItem, HasPrimary, HasNode, Done}
use Rattle.pan_grammar.specs.Machine.{unary_at, item_at, has_item, has_node, has_primary, has_reference, step}
use Rattle.pan_grammar.specs.Depths.{holders, node_holders}
use Rattle.pan_grammar.specs.Waiting.{IsOne, one, IsThat, that, IsElse, no_else, an_else, IsChainFrom, from_unary, from_line, ReferenceGoes, ItemWaits, NodeWaits, PrimaryWaits, ItemNeeded, UnaryNeeded, Completes}
use Rattle.pan_grammar.specs.Begins.{UnaryMay, ItemMay, StepMay}
use Rattle.pan_grammar.proofs.Tests.{at_true, at_miss, that_cases, when_cases, when_only, some_cases, some_only}
use Rattle.pan_grammar.proofs.SoundTypes.{back, takes_sound, hole_sound, setting_sound, statements_sound, included_sound, start_sound, signed_sound, bounds_sound, low_sound, range_sound, open_sound, fields_sound, head_sound, full_at_sound, name_sound, texts_sound}

module _ (May : ℕ → Tokens → Type 0) where
  more_from : {d : ℕ} {t : Token} {ts rest : Tokens} {is : List Item} → sort t ≡ sorts.Semicolon
      → IsItems May d ts is rest → IsMore May d (t ∷ ts) is rest
  more_from e (no_item k) = closed_late e k
  more_from e (items_from i m) = more e i m

  regrouped : (is : List Item) (i : Item) (js : List Item) (P : List Item → Type 0)
      → P ((is ++ i ∷ []) ++ js) → P (is ++ i ∷ js)
  regrouped is i js P h = subst P (append_assoc is (i ∷ []) js) h

  -- a Unary begins the chain
  pub chain_from : (l : ℕ) (n : NodeStack l) (ts : Tokens) (z : Template)
      → UnaryNeeded May (down l n) ts z → (x : Node) × (rest : Tokens)
      × IsChain May (node_holders n) l ts x rest × NodeWaits May n x rest z
  chain_from zero n ts z u = (u.0, u.1, a_unary u.2, u.3)
  chain_from (suc l) n ts z u = let c = chain_from l (First n) ts z u in
      (c.3.0, c.3.1, a_line c.2 c.3.2, c.3.3)

  mutual
    pub item_sound : (s : ItemStack) (i : Item) (t : Token) (ts : Tokens) (z : Template) (y : State)
        → has_item s i t ≡ Some y → Completes May y ts z → ItemWaits May s i (t ∷ ts) z
    item_sound (Out o) i t ts z y e c = hole_sound May o i t ts z y e c
    item_sound (InBlock p is s) i t ts z y e c =
        elim (when_cases sorts.Semicolon (sort t) (BlockOpen p (is ++ i ∷ []) s) _ y e) [
          | inl h ↦ let g = back May (BlockOpen p (is ++ i ∷ []) s) y ts z h.1 c in (
            g.0,
            g.1,
            more_from h.0 g.2,
            regrouped is i g.0
                (λ q. ItemWaits May s (block p q) g.1 z) g.3,
          )
          | inr k ↦ let h = when_only sorts.CloseBrace (sort t) (HasItem (block p (is ++ i ∷ [])) s)
              y k.1 in
              ([], ts, closed h.0, back May (HasItem (block p (is ++ i ∷ [])) s) y ts z h.1 c)
        ]
    item_sound (InParts (Last make) s) i t ts z y e c = item_sound s (make i) t ts z y e c
    item_sound (InParts (Further k next) s) i t ts z y e c =
        let h = when_only (divider k) (sort t) (NeedItem (InParts (next i) s)) y e in
        let g = back May (NeedItem (InParts (next i) s)) y ts z h.1 c in
        (g.0, ts, g.1, one h.0, g.2, g.3)
    item_sound (InParts (MayElse make) s) i t ts z y e c =
        elim (when_cases sorts.Else (sort t) (NeedItem (InParts (Last (λ b. make i (Some b))) s)) _
        y e) [
          | inl h ↦ let g = back May (NeedItem (InParts (Last (λ b. make i (Some b))) s)) y ts z h.1
              c in (Some g.0, g.1, an_else h.0 g.2, g.3)
          | inr h ↦ (None, t ∷ ts, no_else h.0, item_sound s (make i None) t ts z y h.1 c)
        ]
    item_sound (InReference f is x s) i t ts z y e c =
        let h = when_only sorts.CloseBracket (sort t) (HasReference f (is ++ i ∷ []) (index x i) s)
        y e in
        (ts, one h.0, back May (HasReference f (is ++ i ∷ []) (index x i) s) y ts z h.1 c)
    item_sound (InIndex x n) i t ts z y e c =
        let h = when_only sorts.CloseBracket (sort t) (HasPrimary (index x i) n) y e in
        let g = back May (HasPrimary (index x i) n) y ts z h.1 c in
        (g.0, ts, g.1, one h.0, g.2, g.3)
    item_sound (InParens p n) i t ts z y e c =
        let h = when_only sorts.Close (sort t) (HasPrimary (inside p i) n) y e in
        let g = back May (HasPrimary (inside p i) n) y ts z h.1 c in
        (g.0, ts, g.1, one h.0, g.2, g.3)
    item_sound (InCall f is n) i t ts z y e c =
        elim (when_cases sorts.Comma (sort t) (NeedItem (InCall f (is ++ i ∷ []) n)) _ y e) [
          | inl h ↦ let g = back May (NeedItem (InCall f (is ++ i ∷ []) n)) y ts z h.1 c in (
            g.0 ∷ g.3.0,
            g.3.1,
            g.3.2,
            g.3.3,
            more_args h.0 g.2 g.3.4,
            regrouped is i
                (g.0 ∷ g.3.0) (λ q. IsSuffix May (node_holders n) (called f q) g.3.2 g.3.1 g.3.3)
                g.3.5,
            g.3.6,
          )
          | inr k ↦ let h = when_only sorts.Close (sort t) (HasPrimary (called f (is ++ i ∷ [])) n)
              y k.1 in
              let g = back May (HasPrimary (called f (is ++ i ∷ [])) n) y ts z h.1 c in
              ([], g.0, ts, g.1, args_end h.0, g.2, g.3)
        ]

    pub node_sound : {l : ℕ} (n : NodeStack l) (x : Node) (t : Token) (ts : Tokens) (z : Template)
        (y : State) → has_node n x t ≡ Some y → Completes May y ts z → NodeWaits May n x (t ∷ ts) z
    node_sound (Chained s) x t ts z y e c = item_sound s (plain x) t ts z y e c
    node_sound (Signed op p n) x t ts z y e c = node_sound n (nodes.Unary p op x) t ts z y e c
    node_sound (First {l} n) x t ts z y e c =
        elim (some_cases (op_of (suc l) (sort t)) (λ o. NeedUnary (down l (Operand o x n)))
        (has_node n x t) y e) [
          | inl h ↦ let g = chain_from l (Operand h.0 x n) ts z
              (back May (NeedUnary (down l (Operand h.0 x n))) y ts z h.2 c) in
              (g.3.0, g.3.1, tail_more h.1 g.2 g.3.2, g.3.3)
          | inr h ↦ (x, t ∷ ts, tail_ends, node_sound n x t ts z y h.1 c)
        ]
    node_sound (Operand {l} op a n) x t ts z y e c =
        elim (some_cases (op_of (suc l) (sort t)) (λ o. NeedUnary
        (down l (Operand o (joined op a x) n))) (has_node n (joined op a x) t) y e) [
          | inl h ↦ let g = chain_from l (Operand h.0 (joined op a x) n) ts z
              (back May (NeedUnary (down l (Operand h.0 (joined op a x) n))) y ts z h.2 c) in
              (g.3.0, g.3.1, tail_more h.1 g.2 g.3.2, g.3.3)
          | inr h ↦ (joined op a x, t ∷ ts, tail_ends, node_sound n (joined op a x) t ts z y h.1 c)
        ]

  call_primary : {d : ℕ} {t : Token} {ts ts1 ts2 : Tokens} {js : List Item} → is_plain (sort t)
      ≡ true → IsOne sorts.Open ts ts1 → IsArgs May d ts1 js ts2
      → IsPrimary May d (t ∷ ts) (called t js) ts2
  call_primary e (one h) args = a_call e h args

  parens_primary : {d : ℕ} {o : Token} {ts ts1 rest : Tokens} {i : Item} → sort o ≡ sorts.Open
      → IsItem May d ts i ts1 → IsOne sorts.Close ts1 rest
      → IsPrimary May d (o ∷ ts) (inside o.place i) rest
  parens_primary e i (one h) = parens e i h

  index_suffix : {d : ℕ} {o : Token} {ts ts1 ts2 rest : Tokens} {x y : Node} {i : Item} → sort o
      ≡ sorts.OpenBracket → IsItem May d ts i ts1 → IsOne sorts.CloseBracket ts1 ts2
      → IsSuffix May d (index x i) ts2 y rest → IsSuffix May d x (o ∷ ts) y rest
  index_suffix e i (one h) m = an_index e i h m

  if_item : {d : ℕ} {t o : Token} {ts ts1 ts2 ts3 ts4 rest : Tokens} {c a : Item} {b : Option Item}
      → May (suc d) (t ∷ ts) → sort t ≡ sorts.If → IsThat AnOpen o ts ts1
      → IsItem May (suc d) ts1 c ts2 → IsOne sorts.Close ts2 ts3 → IsItem May (suc d) ts3 a ts4
      → IsElse May (suc d) ts4 b rest
      → IsItem May d (t ∷ ts) (choice t.place c a b) rest
  if_item m e (that o) c (one k) a (no_else w) = an_if m e (at_true _ _ o) c k a w
  if_item m e (that o) c (one k) a (an_else h b) = an_if_else m e (at_true _ _ o) c k a h b

  while_item : {d : ℕ} {t o : Token} {ts ts1 ts2 ts3 rest : Tokens} {c b : Item}
      → May (suc d) (t ∷ ts) → sort t ≡ sorts.While → IsThat AnOpen o ts ts1
      → IsItem May (suc d) ts1 c ts2 → IsOne sorts.Close ts2 ts3 → IsItem May (suc d) ts3 b rest
      → IsItem May d (t ∷ ts) (nodes.While t.place c b) rest
  while_item m e (that o) c (one k) b = a_while m e (at_true _ _ o) c k b

  for_item : {d : ℕ} {t o : Token} {ts ts1 ts2 ts3 ts4 ts5 ts6 ts7 rest : Tokens} {a c n b : Item}
      → May (suc d) (t ∷ ts) → sort t ≡ sorts.For → IsThat AnOpen o ts ts1
      → IsItem May (suc d) ts1 a ts2 → IsOne sorts.Semicolon ts2 ts3 → IsItem May (suc d) ts3 c ts4
      → IsOne sorts.Semicolon ts4 ts5
      → IsItem May (suc d) ts5 n ts6 → IsOne sorts.Close ts6 ts7 → IsItem May (suc d) ts7 b rest
      → IsItem May d (t ∷ ts) (nodes.For t.place a c n b) rest
  for_item m e (that o) a (one k1) c (one k2) n (one k3) b =
      a_for m e (at_true _ _ o) a k1 c k2 n k3 b

  foreach_item : {d : ℕ} {t o k s1 v s2 : Token} {ts ts1 ts2 ts3 ts4 ts5 ts6 ts7 rest : Tokens}
      {r b : Item} → May (suc d) (t ∷ ts) → sort t ≡ sorts.Foreach → IsThat AnOpen o ts ts1
      → IsThat AWord k ts1 ts2 → IsThat ASemicolon s1 ts2 ts3 → IsThat AWord v ts3 ts4
      → IsThat ASemicolon s2 ts4 ts5
      → IsItem May (suc d) ts5 r ts6 → IsOne sorts.Close ts6 ts7 → IsItem May (suc d) ts7 b rest
      → IsItem May d (t ∷ ts) (nodes.Foreach t.place k.value v.value r b) rest
  foreach_item m e (that o) (that k) (that s1) (that v) (that s2) r (one c) b =
      a_foreach m e (at_true _ _ o) k (at_true _ _ s1) v (at_true _ _ s2) r c b

  pub unary_sound : (t : Token) (n : NodeStack zero) (ts : Tokens) (z : Template) (y : State)
      → unary_at t n ≡ Some y → Completes May y ts z → UnaryMay May (node_holders n) t ts
      → UnaryNeeded May n (t ∷ ts) z
  unary_sound t n ts z y e c allowed =
      elim (some_cases (literal (sort t) t) (λ x. HasPrimary x n) _ y e) [
        | inl h ↦ let g = back May (HasPrimary h.0 n) y ts z h.2 c in
            (g.0, g.1, a_primary (a_literal h.1) g.2, g.3)
        | inr k ↦ elim (that_cases (is_plain (sort t)) (WordRead t n) _ y k.1) [
          | inl h ↦ elim (back May (WordRead t n) y ts z h.1 c) [
            | inl g ↦ let q = g.2 in (q.1, q.3, a_primary (call_primary h.0 g.1 q.4) q.5, q.6)
            | inr g ↦ (g.0, g.1, a_primary (a_name h.0) g.2, g.3)
          ]
          | inr k ↦ elim (when_cases sorts.Open (sort t) (NeedItem (InParens t.place n)) _ y k.1) [
            | inl h ↦ let g = back May (NeedItem (InParens t.place n)) y ts z h.1 c in
                (g.3.0, g.3.2, a_primary (parens_primary h.0 g.2 g.3.3) g.3.4, g.3.5)
            | inr k ↦ let h = some_only (unary_of (sort t)) (λ op. NeedUnary (Signed op t.place n))
                y k.1 in
                let g = back May (NeedUnary (Signed h.0 t.place n)) y ts z h.2 c in
                (nodes.Unary t.place h.0 g.0, g.1, a_sign (allowed (rw h.1 refl)) h.1 g.2, g.3)
          ]
        ]
      ]

  pub primary_sound : (n : NodeStack zero) (x : Node) (t : Token) (ts : Tokens) (z : Template)
      (y : State) → has_primary n x t ≡ Some y → Completes May y ts z
      → PrimaryWaits May n x (t ∷ ts) z
  primary_sound n x t ts z y e c =
      elim (when_cases sorts.OpenBracket (sort t) (NeedItem (InIndex x n)) (has_node n x t) y e) [
        | inl h ↦ let g = back May (NeedItem (InIndex x n)) y ts z h.1 c in
            (g.3.0, g.3.2, index_suffix h.0 g.2 g.3.3 g.3.4, g.3.5)
        | inr h ↦ (x, t ∷ ts, suffix_ends, node_sound n x t ts z y h.1 c)
      ]

  node_down : (l : ℕ) (n : NodeStack l) (x : Node) (ts : Tokens) (z : Template)
      → NodeWaits May (down l n) x ts z → (y : Node) × (rest : Tokens)
      × IsChainFrom May (node_holders n) l x ts y rest × NodeWaits May n y rest z
  node_down zero n x ts z w = (x, ts, from_unary, w)
  node_down (suc l) n x ts z w = let g = node_down l (First n) x ts z w in
      (g.3.0, g.3.1, from_line g.2 g.3.2, g.3.3)

  chain_of : {d : ℕ} (l : ℕ) (ts ts1 : Tokens) (x y : Node) (rest : Tokens) → IsUnary May d ts x ts1
      → IsChainFrom May d l x ts1 y rest → IsChain May d l ts y rest
  chain_of zero ts ts1 x y rest u from_unary = a_unary u
  chain_of (suc l) ts ts1 x y rest u (from_line {a = a} {ts1 = ts2} c m) =
      a_line (chain_of l ts ts1 x a ts2 u c) m

  index_more : {d : ℕ} {o : Token} {ts ts1 ts2 rest : Tokens} {i : Item} {is : List Item} → sort o
      ≡ sorts.OpenBracket → IsItem May d ts i ts1 → IsOne sorts.CloseBracket ts1 ts2
      → IsIndexes May d ts2 is rest → IsIndexes May d (o ∷ ts) (i ∷ is) rest
  index_more e i (one h) m = one_index e i h m

  reference_sound : (f : Token) (is : List Item) (x : Node) (s : ItemStack) (t : Token)
      (ts : Tokens) (z : Template) (y : State) → has_reference f is x s t ≡ Some y
      → Completes May y ts z
      → ReferenceGoes May (suc (holders s)) (λ j r. ItemWaits May s j r z) f is x (t ∷ ts)
  reference_sound f is x s t ts z y e c =
      elim (when_cases sorts.OpenBracket (sort t) (NeedItem (InReference f is x s)) _ y e) [
        | inl h ↦ let g = back May (NeedItem (InReference f is x s)) y ts z h.1 c in
            elim g.3.2 [
              | inl r ↦ inl (r.0, r.1, r.2, r.3, index_suffix h.0 g.2 g.3.1 r.4, r.5, r.6)
              | inr r ↦ inr (
                g.0 ∷ r.0,
                r.1,
                r.2,
                r.3,
                r.4,
                index_more h.0 g.2 g.3.1 r.5,
                r.6,
                r.7,
                regrouped is g.0 r.0 (λ q. ItemWaits May s (assigned (reference f q) r.1) r.4 z)
                    r.8,
              )
            ]
        | inr k ↦ elim (when_cases sorts.Assign (sort t)
            (NeedItem (InParts (right_side (reference f is)) s)) _ y k.1) [
              | inl h ↦ let g = back May (NeedItem (InParts (right_side (reference f is)) s)) y ts z
                  h.1
                  c in
                  inr (
                    [],
                    g.0,
                    t ∷ ts,
                    ts,
                    g.1,
                    no_index,
                    one h.0,
                    g.2,
                    subst
                        (λ (q : List Item). ItemWaits May s (assigned (reference f q) g.0) g.1 z)
                        (sym (append-nil is)) g.3,
                  )
              | inr k ↦ let g = node_down 9 (Chained s) x (t ∷ ts) z
                  (node_sound (down 9 (Chained s)) x t ts z y k.1 c) in
                  inl (x, g.0, t ∷ ts, g.1, suffix_ends, g.2, g.3)
            ]
      ]

  assign_item : {d : ℕ} {t : Token} {ts ts1 ts2 rest : Tokens} {js : List Item} {y : Item}
      → May (suc d) (t ∷ ts) → is_plain (sort t) ≡ true → IsIndexes May (suc d) ts js ts1
      → IsOne sorts.Assign ts1 ts2 → IsItem May (suc d) ts2 y rest
      → IsItem May d (t ∷ ts) (assigned (reference t js) y) rest
  assign_item m e i (one h) y = an_assign m (a_reference e i) h y

  pub item_at_sound : (t : Token) (s : ItemStack) (ts : Tokens) (z : Template) (y : State)
      → item_at t s ≡ Some y → Completes May y ts z → ItemMay May (holders s) t ts
      → ItemNeeded May s (t ∷ ts) z
  item_at_sound t s ts z y e c allowed =
      elim (when_cases sorts.OpenBrace (sort t) (BlockOpen t.place [] s) _ y e) [
        | inl h ↦ let g = back May (BlockOpen t.place [] s) y ts z h.1 c in
            (block t.place g.0, g.1, a_block allowed.0 h.0 g.2, g.3)
        | inr k ↦ elim (when_cases sorts.If (sort t) _ _ y k.1) [
          | inl h ↦ let g = back May _ y ts z h.1 c in
              let q = g.3 in
              let r = q.3 in
              let b = r.5 in
              (choice t.place q.0 r.0 b.0, b.1, if_item allowed.0 h.0 g.2 q.2 r.3 r.4 b.2, b.3)
          | inr k ↦ elim (when_cases sorts.While (sort t) _ _ y k.1) [
            | inl h ↦ let g = back May _ y ts z h.1 c in
                let q = g.3 in
                let r = q.3 in
                (nodes.While t.place q.0 r.0, r.2, while_item allowed.0 h.0 g.2 q.2 r.3 r.4, r.5)
            | inr k ↦ elim (when_cases sorts.For (sort t) _ _ y k.1) [
              | inl h ↦ let g = back May _ y ts z h.1 c in
                  let q = g.3 in
                  let r = q.3 in
                  let u = r.5 in
                  let v = u.5 in (
                    nodes.For t.place q.0 r.0 u.0 v.0,
                    v.2,
                    for_item allowed.0 h.0 g.2 q.2 r.3 r.4
                        u.3 u.4 v.3 v.4,
                    v.5,
                  )
              | inr k ↦ elim (when_cases sorts.Foreach (sort t) _ _ y k.1) [
                | inl h ↦ let g = back May _ y ts z h.1 c in
                    let g1 = g.3 in
                    let g2 = g1.3 in
                    let g3 = g2.3 in
                    let g4 = g3.3 in
                    let q = g4.3 in
                    let r = q.3 in (
                      nodes.Foreach t.place g1.0.value g3.0.value q.0 r.0,
                      r.2,
                      foreach_item
                          allowed.0 h.0 g.2 g1.2 g2.2 g3.2 g4.2 q.2 r.3 r.4,
                      r.5,
                    )
                | inr k ↦ elim (that_cases (is_plain (sort t)) (ItemWord t s) _ y k.1) [
                  | inl h ↦ elim (back May (ItemWord t s) y ts z h.1 c) [
                    | inl g ↦ let q = g.2 in let u =
                        chain_from 9 (Chained s) (t ∷ ts) z (
                          q.1,
                          q.3,
                          a_primary
                              (call_primary h.0 g.1 q.4) q.5,
                          q.6,
                        ) in
                        (plain u.0, u.1, a_chain allowed.0 u.2, u.3)
                    | inr g ↦ elim g [
                      | inl r ↦ (
                        plain r.1,
                        r.3,
                        a_chain allowed.0 (chain_of 9 (t ∷ ts) r.2 r.0 r.1
                            r.3 (a_primary (a_name h.0) r.4) r.5),
                        r.6,
                      )
                      | inr r ↦ (
                        assigned (reference t r.0) r.1,
                        r.4,
                        assign_item allowed.0 h.0 r.5
                            r.6 r.7,
                        r.8,
                      )
                    ]
                  ]
                  | inr k ↦ let u = chain_from 9 (Chained s) (t ∷ ts) z
                      (unary_sound t (down 9 (Chained s)) ts z y k.1 c allowed.1) in
                      (plain u.0, u.1, a_chain allowed.0 u.2, u.3)
                ]
              ]
            ]
          ]
        ]
      ]

  -- what completes the state after a token, with the token, completes the state
  pub step_sound : (σ : State) (t : Token) (ts : Tokens) (z : Template) (y : State) → step σ t
      ≡ Some y → Completes May y ts z → StepMay May σ t ts → Completes May σ (t ∷ ts) z
  step_sound Start t ts z y e c allowed = start_sound May t ts z y e c
  step_sound (Takes w next) t ts z y e c allowed = takes_sound May w next t ts z y e c
  step_sound (Statements h ss) t ts z y e c allowed = statements_sound May h ss t ts z y e c
  step_sound (FinalRead p h ss) t ts z y e c allowed = setting_sound May p true h ss t ts z y e c
  step_sound (IncludeRead p h ss) t ts z y e c allowed =
      included_sound May p h ss t ts z y e c allowed
  step_sound (NeedFull s) t ts z y e c allowed = full_at_sound May t s ts z y e c allowed
  step_sound (NameRead n s) t ts z y e c allowed = name_sound May n s t ts z y e c
  step_sound (TextsOpen xs s) t ts z y e c allowed = texts_sound May xs s t ts z y e c
  step_sound (FieldsOpen x fs s) t ts z y e c allowed = fields_sound May x fs s t ts z y e c
  step_sound (HasHead a ss s) t ts z y e c allowed = head_sound May a ss s t ts z y e c
  step_sound (NeedSigned next) t ts z y e c allowed = signed_sound May next t ts z y e c
  step_sound (NeedBounds w next) t ts z y e c allowed = bounds_sound May w next t ts z y e c
  step_sound (HasLow w p n next) t ts z y e c allowed = low_sound May w p n next t ts z y e c
  step_sound (RangeRead w p n next) t ts z y e c allowed = range_sound May w p n next t ts z y e c
  step_sound (RangeOpen w next) t ts z y e c allowed = open_sound May w next t ts z y e c
  step_sound (NeedItem s) t ts z y e c allowed = item_at_sound t s ts z y e c allowed
  step_sound (NeedUnary n) t ts z y e c allowed = unary_sound t n ts z y e c allowed
  step_sound (BlockOpen p is s) t ts z y e c allowed =
      elim (when_cases sorts.CloseBrace (sort t) (HasItem (block p is) s) _ y e) [
        | inl h ↦ (
          [],
          ts,
          no_item h.0,
          subst (λ (q : List Item). ItemWaits May s (block p q) ts z)
              (sym (append-nil is)) (back May (HasItem (block p is) s) y ts z h.1 c),
        )
        | inr h ↦ let g = item_at_sound t (InBlock p is s) ts z y h.1 c
            (allowed (at_miss sorts.CloseBrace (sort t) h.0)) in
            (g.0 ∷ g.3.0, g.3.1, items_from g.2 g.3.2, g.3.3)
      ]
  step_sound (WordRead f n) t ts z y e c allowed =
      elim (when_cases sorts.Open (sort t) (CallOpen f n) _ y e) [
        | inl h ↦ inl (ts, one h.0, back May (CallOpen f n) y ts z h.1 c)
        | inr h ↦ inr (primary_sound n (name f) t ts z y h.1 c)
      ]
  step_sound (ItemWord f s) t ts z y e c allowed =
      elim (when_cases sorts.Open (sort t) (CallOpen f (down 9 (Chained s))) _ y e) [
        | inl h ↦ inl (ts, one h.0, back May (CallOpen f (down 9 (Chained s))) y ts z h.1 c)
        | inr h ↦ inr (reference_sound f [] (name f) s t ts z y h.1 c)
      ]
  step_sound (HasReference f is x s) t ts z y e c allowed = reference_sound f is x s t ts z y e c
  step_sound (CallOpen f n) t ts z y e c allowed =
      elim (when_cases sorts.Close (sort t) (HasPrimary (called f []) n) _ y e) [
        | inl h ↦ let g = back May (HasPrimary (called f []) n) y ts z h.1 c in
            ([], g.0, ts, g.1, no_arg h.0, g.2, g.3)
        | inr h ↦ let g = item_at_sound t (InCall f [] n) ts z y h.1 c
            (allowed (at_miss sorts.Close (sort t) h.0)) in
            (g.0 ∷ g.3.0, g.3.1, g.3.2, g.3.3, args_from g.2 g.3.4, g.3.5, g.3.6)
      ]
  step_sound (HasItem i s) t ts z y e c allowed = item_sound s i t ts z y e c
  step_sound (HasPrimary x n) t ts z y e c allowed = primary_sound n x t ts z y e c
  step_sound (HasNode x n) t ts z y e c allowed = node_sound n x t ts z y e c
  step_sound (Done i) t ts z y e c allowed = absurd cc
