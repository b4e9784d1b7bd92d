-- The constructs that begin at a token, by the grammar and by their number.
use Rattle.std.proofs.Common.{◌≡◌, ℕ, suc, ◌≤◌, Bool, true, false, cond, List, ◌∷◌, refl, ◌⊎◌, inl, inr, arith}
use Rattle.pan_ast.specs.declared.sort.Sort.{Sort}
use Rattle.pan_ast.specs.declared.sort.Sort.TheVariants as sorts
use Rattle.pan_ast.specs.declared.token.Token.{Token}
use Rattle.pan_ast.specs.Sorts.{sort, at, is_type_name}
use Rattle.pan_ast.specs.Syntax.{Item, Node, Reference}
use Rattle.pan_ast.specs.Types.{FullType, TypeForm}
use Rattle.pan_ast.specs.Templates.{Template}
use Rattle.pan_grammar.specs.Grammar.{Tokens, IsItem, a_block, an_if, an_if_else, a_while, a_for, a_foreach, a_chain, an_assign, IsReference, a_reference, IsItems, no_item, items_from, IsChain, a_unary, a_line, IsUnary, a_sign, a_primary, IsPrimary, a_literal, a_name, a_call, parens, IsArgs, no_arg, args_from}
use Rattle.pan_grammar.specs.Types.{IsFull, a_full, IsType, a_named, a_record, an_extensible, a_choice}
use Rattle.pan_grammar.specs.Templates.{IsIncluded, text_included, block_included}
use Rattle.pan_grammar.specs.States.{State, IncludeRead, NeedFull, NeedItem, NeedUnary, BlockOpen, CallOpen}
use Rattle.pan_grammar.specs.Depths.{full_holders, holders, node_holders, signed, starts_record, unary_opens, item_opens, opens}
use Rattle.pan_grammar.specs.Waiting.{Completes}
use Rattle.pan_grammar.specs.Begins.{UnaryMay, ItemMay, FullMay, StepMay}
use Rattle.pan_grammar.proofs.Tests.{differs, at_miss}
use Rattle.pan_grammar.proofs.Follow.{literal_bare, plain_not_signed}

name_no_record : (s : Sort) → is_type_name s ≡ true → starts_record s ≡ false
name_no_record s e = rw (
  at_miss sorts.OpenBrace s (differs is_type_name s sorts.OpenBrace e refl),
  at_miss sorts.Extensible s (differs is_type_name s sorts.Extensible e refl),
) refl

module _ (May : ℕ → Tokens → Type 0) where
  plain_start : {d : ℕ} {t : Token} {ts rest : Tokens} {x : Node} → IsPrimary May d (t ∷ ts) x rest
      → signed (sort t) ≡ false
  plain_start {t = t} {x = x} (a_literal e) = (literal_bare (sort t) t x e).1
  plain_start {t = t} (a_name e) = plain_not_signed (sort t) e
  plain_start {t = t} (a_call e o a) = plain_not_signed (sort t) e
  plain_start (parens e i c) = rw e refl

  unary_may : {d : ℕ} {t : Token} {ts rest : Tokens} {x : Node} → IsUnary May d (t ∷ ts) x rest
      → UnaryMay May d t ts
  unary_may (a_sign m e u) h = m
  unary_may (a_primary p s) h = let k = plain_start p in absurd cc

  chain_may : {d l : ℕ} {t : Token} {ts rest : Tokens} {x : Node} → IsChain May d l (t ∷ ts) x rest
      → UnaryMay May d t ts
  chain_may (a_unary u) h = unary_may u h
  chain_may (a_line c m) h = chain_may c h

  reference_start : {d : ℕ} {t : Token} {ts rest : Tokens} {r : Reference}
      → IsReference May d (t ∷ ts) r rest → signed (sort t) ≡ false
  reference_start {t = t} (a_reference e i) = plain_not_signed (sort t) e

  item_may : {d : ℕ} {t : Token} {ts rest : Tokens} {i : Item} → IsItem May d (t ∷ ts) i rest
      → ItemMay May d t ts
  item_may (a_block m e h) =
      (m, λ k. let q : signed sorts.OpenBrace ≡ true = rw e at k in absurd cc)
  item_may (an_if m e o c k a n) = (m, λ k. let q : signed sorts.If ≡ true = rw e at k in absurd cc)
  item_may (an_if_else m e o c k a n b) =
      (m, λ k. let q : signed sorts.If ≡ true = rw e at k in absurd cc)
  item_may (a_while m e o c k b) =
      (m, λ k. let q : signed sorts.While ≡ true = rw e at k in absurd cc)
  item_may (a_for m e o a k1 c k2 n k3 b) =
      (m, λ k. let q : signed sorts.For ≡ true = rw e at k in absurd cc)
  item_may (a_foreach m e o k k1 v k2 r k3 b) =
      (m, λ k. let q : signed sorts.Foreach ≡ true = rw e at k in absurd cc)
  item_may (an_assign m r e i) = (m, λ k. let q = reference_start r in absurd cc)
  item_may (a_chain m c) = (m, chain_may c)

  items_may : {d : ℕ} {t : Token} {ts rest : Tokens} {is : List Item}
      → IsItems May d (t ∷ ts) is rest → at sorts.CloseBrace (sort t) ≡ false → ItemMay May d t ts
  items_may (no_item e) h = let k : at sorts.CloseBrace sorts.CloseBrace ≡ false = rw e at h in
      absurd cc
  items_may (items_from i m) h = item_may i

  args_may : {d : ℕ} {t : Token} {ts rest : Tokens} {is : List Item} → IsArgs May d (t ∷ ts) is rest
      → at sorts.Close (sort t) ≡ false → ItemMay May d t ts
  args_may (no_arg e) h = let k : at sorts.Close sorts.Close ≡ false = rw e at h in absurd cc
  args_may (args_from i m) h = item_may i

  type_may : {d : ℕ} {t : Token} {ts rest : Tokens} {f : TypeForm} → IsType May d (t ∷ ts) f rest
      → FullMay May d t ts
  type_may {t = t} (a_named m e b s) = (m, λ h. let k = name_no_record (sort t) e in absurd cc)
  type_may (a_record m n e g s) = (m, λ h. n)
  type_may (an_extensible m n e o g s) = (m, λ h. n)
  type_may (a_choice m e o x g s) =
      (m, λ h. let k : starts_record sorts.Choice ≡ true = rw e at h in absurd cc)

  full_may : {d : ℕ} {t : Token} {ts rest : Tokens} {f : FullType} → IsFull May d (t ∷ ts) f rest
      → FullMay May d t ts
  full_may (a_full h e w) = type_may h

  included_may : {t : Token} {ts rest : Tokens} {i : Item} → IsIncluded May (t ∷ ts) i rest
      → May 1 (t ∷ ts)
  included_may (text_included m e) = m
  included_may (block_included m e h) = m

  -- what completes a state: all that begins at the first token may
  pub step_may : (σ : State) (t : Token) (ts : Tokens) (z : Template) → Completes May σ (t ∷ ts) z
      → StepMay May σ t ts
  step_may (IncludeRead p h ss) t ts z w = included_may w.2
  step_may (NeedFull s) t ts z w = full_may w.2
  step_may (NeedItem s) t ts z w = item_may w.2
  step_may (NeedUnary n) t ts z w = unary_may w.2
  step_may (BlockOpen p is s) t ts z w = items_may w.2
  step_may (CallOpen f n) t ts z w = args_may w.4
  step_may _ t ts z w = tt

  -- ---- by numbers

  -- a second construct may begin with the first
  two_within : (d : ℕ) (b : Bool) (ts : Tokens)
      → ((k : ℕ) → k ≤ cond b (suc (suc d)) (suc d) → May k ts) → May (suc d) ts
      × (b ≡ true → May (suc (suc d)) ts)
  two_within d true ts h = (h (suc d) (omega arith), λ e. h (suc (suc d)) (omega arith))
  two_within d false ts h = (h (suc d) (omega arith), λ e. absurd cc)

  two_deepest : (d : ℕ) (b : Bool) (ts : Tokens) → May (suc d) ts
      × (b ≡ true → May (suc (suc d)) ts) → May (cond b (suc (suc d)) (suc d)) ts
  two_deepest d true ts m = m.1 refl
  two_deepest d false ts m = m.0

  unary_within : (d : ℕ) (t : Token) (ts : Tokens)
      → ((k : ℕ) → k ≤ unary_opens d (sort t) → May k (t ∷ ts)) → UnaryMay May d t ts
  unary_within d t ts h e = h (suc d) (rw e (omega arith))

  -- no deeper construct begins than opens tells
  pub may_within : (σ : State) (t : Token) (ts : Tokens)
      → ((k : ℕ) → k ≤ opens σ t → May k (t ∷ ts)) → StepMay May σ t ts
  may_within (IncludeRead p q ss) t ts h = h 1 (omega arith)
  may_within (NeedFull s) t ts h = two_within (full_holders s) (starts_record (sort t)) (t ∷ ts) h
  may_within (NeedItem s) t ts h = two_within (holders s) (signed (sort t)) (t ∷ ts) h
  may_within (NeedUnary n) t ts h = unary_within (node_holders n) t ts h
  may_within (BlockOpen p is s) t ts h =
      λ e. two_within (suc (holders s)) (signed (sort t)) (t ∷ ts) (λ k q. h k (rw e q))
  may_within (CallOpen f n) t ts h =
      λ e. two_within (node_holders n) (signed (sort t)) (t ∷ ts) (λ k q. h k (rw e q))
  may_within _ t ts h = tt

  -- and one of that depth does, if any
  pub may_deepest : (σ : State) (t : Token) (ts : Tokens) → StepMay May σ t ts → (opens σ t ≡ 0)
      ⊎ May (opens σ t) (t ∷ ts)
  may_deepest (IncludeRead p h ss) t ts m = inr m
  may_deepest (NeedFull s) t ts m =
      inr (two_deepest (full_holders s) (starts_record (sort t)) (t ∷ ts) m)
  may_deepest (NeedItem s) t ts m = inr (two_deepest (holders s) (signed (sort t)) (t ∷ ts) m)
  may_deepest (NeedUnary n) t ts m = by (signed (sort t)) refl where
    by : (b : Bool) → signed (sort t) ≡ b → (cond b (suc (node_holders n)) 0 ≡ 0)
        ⊎ May (cond b (suc (node_holders n)) 0) (t ∷ ts)
    by true e = inr (m e)
    by false e = inl refl
  may_deepest (BlockOpen p is s) t ts m = by (at sorts.CloseBrace (sort t)) refl where
    by : (b : Bool) → at sorts.CloseBrace (sort t) ≡ b
        → (cond b 0 (item_opens (suc (holders s)) (sort t)) ≡ 0)
        ⊎ May (cond b 0 (item_opens (suc (holders s)) (sort t))) (t ∷ ts)
    by true e = inl refl
    by false e = inr (two_deepest (suc (holders s)) (signed (sort t)) (t ∷ ts) (m e))
  may_deepest (CallOpen f n) t ts m = by (at sorts.Close (sort t)) refl where
    by : (b : Bool) → at sorts.Close (sort t) ≡ b
        → (cond b 0 (item_opens (node_holders n) (sort t)) ≡ 0)
        ⊎ May (cond b 0 (item_opens (node_holders n) (sort t))) (t ∷ ts)
    by true e = inl refl
    by false e = inr (two_deepest (node_holders n) (signed (sort t)) (t ∷ ts) (m e))
  may_deepest _ t ts m = inl refl
