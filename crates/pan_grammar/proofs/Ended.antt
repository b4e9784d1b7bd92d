-- No state but the end is completed by no tokens.
use Rattle.std.proofs.Common.{◌≡◌, ℕ, zero, suc, ℤ, List, [], Option, Some, None, inl, inr}
use Rattle.pan_ast.specs.declared.sort.Sort.{Sort}
use Rattle.pan_ast.specs.declared.sort.Sort.TheVariants as sorts
use Rattle.pan_ast.specs.declared.token.Token.{Token}
use Rattle.pan_ast.specs.declared.place.Place.{Place}
use Rattle.pan_ast.specs.declared.types.Bounds.{Bounds}
use Rattle.pan_ast.specs.Syntax.{Item, Node}
use Rattle.pan_ast.specs.Syntax as nodes
use Rattle.pan_ast.specs.Types.{FullType, Full}
use Rattle.pan_ast.specs.Templates.{Statement, Template}
use Rattle.pan_grammar.specs.Grammar.{Tokens, joined, plain, name, IsItem, a_chain, an_assign, IsIndexes, no_index, IsItems, items_from, IsChain, a_unary, a_line, IsTail, tail_ends, IsUnary, a_primary, IsSuffix, suffix_ends, IsArgs, args_from}
use Rattle.pan_grammar.specs.Types.{IsHigh, exactly, IsRange, a_range, IsFull, a_full}
use Rattle.pan_grammar.specs.Templates.{IsStatement, IsStatements, a_statement}
use Rattle.pan_grammar.specs.States.{FullStack, StatementType, InField, Hole, StatementItem, AfterEquals, AfterWith, Last, Further, MayElse, ItemStack, Out, InBlock, InParts, InReference, InIndex, InParens, InCall, NodeStack, Chained, Signed, First, Operand, down, State, Start, Takes, Statements, FinalRead, IncludeRead, NeedFull, NameRead, TextsOpen, FieldsOpen, HasHead, NeedSigned, NeedBounds, HasLow, RangeRead, RangeOpen, NeedItem, NeedUnary, BlockOpen, WordRead, ItemWord, HasReference, CallOpen, HasItem, HasPrimary, HasNode, Done}
use Rattle.pan_grammar.specs.Depths.{holders}
use Rattle.pan_grammar.specs.Waiting.{IsOne, IsElse, no_else, IsChainFrom, ReferenceGoes, FullWaits, HoleWaits, ItemWaits, NodeWaits, PrimaryWaits, Completes}
use Rattle.pan_grammar.proofs.Complete.{down_node}

high_some : {p : Place} {n : ℤ} {b : Bounds} {s : Sort} {r q : Tokens} → IsHigh p n [] b r
    → IsOne s r q → ⊥
high_some exactly o = elim o [ ]

range_some : {s : Sort} {b : Option Bounds} {r : Tokens} → IsRange s [] b r → ⊥
range_some (a_range h k) = elim h [ ]

module _ (May : ℕ → Tokens → Type 0) where
  chain_some : {d : ℕ} (l : ℕ) (x : Node) (r : Tokens) → IsChain May d l [] x r → ⊥
  chain_some zero x r (a_unary (a_primary p s)) = elim p [ ]
  chain_some (suc l) x r (a_line {ts1 = ts1} {a = a} c m) = chain_some l a ts1 c

  item_some : {d : ℕ} {i : Item} {r : Tokens} → IsItem May d [] i r → ⊥
  item_some (an_assign m h e y) = elim h [ ]
  item_some (a_chain {x = x} m c) = chain_some 9 x _ c

  else_nil : {d : ℕ} {r : Tokens} {b : Option Item} (P : Option Item → Tokens → Type 0)
      → IsElse May d [] b r → P b r → P None []
  else_nil P (no_else w) p = p

  tail_nil : {d l : ℕ} {a x : Node} {r : Tokens} (P : Node → Tokens → Type 0)
      → IsTail May d l a [] x r → P x r → P a []
  tail_nil P tail_ends p = p

  suffix_nil : {d : ℕ} {a x : Node} {r : Tokens} (P : Node → Tokens → Type 0)
      → IsSuffix May d a [] x r → P x r → P a []
  suffix_nil P suffix_ends p = p

  full_goes_on : (s : FullStack) (f : FullType) (z : Template) → FullWaits May s f [] z → ⊥
  full_goes_on (StatementType h ss make) f z w = elim w.1 [ ]
  full_goes_on (InField k c x fs s) f z w = elim w.2 [ ]

  hole_goes_on : (o : Hole) (i : Item) (z : Template) → HoleWaits May o i [] z → ⊥
  hole_goes_on (StatementItem h ss make) i z w = elim w.1 [ ]
  hole_goes_on (AfterEquals f s) i z w = elim w.2 [ ]
  hole_goes_on (AfterWith f d s) i z w = full_goes_on s (Full f d (Some i)) z w

  full_some : {d : ℕ} {f : FullType} {r : Tokens} → IsFull May d [] f r → ⊥
  full_some (a_full h e w) = elim h [ ]

  statement_some : {x : Statement} {r : Tokens} → IsStatement May [] x r → ⊥
  statement_some h = elim h [ ]

  statements_some : {xs : List Statement} → IsStatements May [] xs → ⊥
  statements_some (a_statement h m) = statement_some h

  mutual
    item_goes_on : (s : ItemStack) (i : Item) (z : Template) → ItemWaits May s i [] z → ⊥
    item_goes_on (Out o) i z w = hole_goes_on o i z w
    item_goes_on (InBlock p is s) i z w = elim w.2 [ ]
    item_goes_on (InParts (Last make) s) i z w = item_goes_on s (make i) z w
    item_goes_on (InParts (Further k next) s) i z w = elim w.3 [ ]
    item_goes_on (InParts (MayElse make) s) i z w =
        item_goes_on s (make i None) z (else_nil (λ b r. ItemWaits May s (make i b) r z) w.2 w.3)
    item_goes_on (InReference f is x s) i z w = elim w.1 [ ]
    item_goes_on (InIndex x n) i z w = elim w.3 [ ]
    item_goes_on (InParens p n) i z w = elim w.3 [ ]
    item_goes_on (InCall f is n) i z w = elim w.4 [ ]

    node_goes_on : {l : ℕ} (n : NodeStack l) (x : Node) (z : Template) → NodeWaits May n x [] z → ⊥
    node_goes_on (Chained s) x z w = item_goes_on s (plain x) z w
    node_goes_on (Signed op p n) x z w = node_goes_on n (nodes.Unary p op x) z w
    node_goes_on (First {l} n) x z w =
        node_goes_on n x z (tail_nil (λ y r. NodeWaits May n y r z) w.2 w.3)
    node_goes_on (Operand {l} op a n) x z w =
        node_goes_on n (joined op a x) z (tail_nil (λ y r. NodeWaits May n y r z) w.2 w.3)

  primary_goes_on : (n : NodeStack zero) (x : Node) (z : Template) → PrimaryWaits May n x [] z → ⊥
  primary_goes_on n x z w = node_goes_on n x z (suffix_nil (λ y r. NodeWaits May n y r z) w.2 w.3)

  items_some : {d : ℕ} {js : List Item} {r : Tokens} → IsItems May d [] js r → ⊥
  items_some (items_from it m) = item_some it

  args_some : {d : ℕ} {js : List Item} {r : Tokens} → IsArgs May d [] js r → ⊥
  args_some (args_from it m) = item_some it

  unary_some : {d : ℕ} {x : Node} {r : Tokens} → IsUnary May d [] x r → ⊥
  unary_some (a_primary p s) = elim p [ ]

  indexes_nil : {d : ℕ} {js : List Item} {r q : Tokens} → IsIndexes May d [] js r
      → IsOne sorts.Assign r q → ⊥
  indexes_nil no_index h = elim h [ ]

  reference_goes_on : (f : Token) (is : List Item) (x : Node) (s : ItemStack) (z : Template)
      → ReferenceGoes May (suc (holders s)) (λ j r. ItemWaits May s j r z) f is x [] → ⊥
  reference_goes_on f is x s z w =
      elim w [
        | inl r ↦ let h = suffix_nil (λ x1 ts1. (y : Node) × (rest : Tokens)
            × IsChainFrom May (suc (holders s)) 9 x1 ts1 y rest × ItemWaits May s (plain y) rest z)
            r.4 (r.1, r.3, r.5, r.6) in
            node_goes_on (down 9 (Chained s)) x z (down_node May 9 (Chained s) x h.0 [] h.1 z h.2
            h.3)
        | inr r ↦ indexes_nil r.5 r.6
      ]

  pub only_done : (σ : State) (z : Template) → Completes May σ [] z → σ ≡ Done z
  only_done Start z w = elim w [ ]
  only_done (Takes v next) z w = elim w.2 [ ]
  only_done (Statements h ss) z w = absurd (statements_some w.1)
  only_done (FinalRead p h ss) z w = elim w.2 [ ]
  only_done (IncludeRead p h ss) z w = elim w.2 [ ]
  only_done (NeedFull s) z w = absurd (full_some w.2)
  only_done (NameRead n s) z w = elim w.2 [ ]
  only_done (TextsOpen xs s) z w = elim w.2 [ ]
  only_done (FieldsOpen x fs s) z w = elim w.2 [ ]
  only_done (HasHead a ss s) z w = elim w.2 [ ]
  only_done (NeedSigned next) z w = elim w.2 [ ]
  only_done (NeedBounds c next) z w = elim w.3 [ ]
  only_done (HasLow c p n next) z w = absurd (high_some w.3 w.4)
  only_done (RangeRead c p n next) z w = elim w [ inl r ↦ elim r.1 [ ] | inr r ↦ elim r.3 [ ] ]
  only_done (RangeOpen c next) z w = absurd (range_some w.2)
  only_done (NeedItem s) z w = absurd (item_some w.2)
  only_done (NeedUnary n) z w = absurd (unary_some w.2)
  only_done (BlockOpen p is s) z w = absurd (items_some w.2)
  only_done (WordRead f n) z w =
      elim w [ inl g ↦ elim g.1 [ ] | inr g ↦ absurd (primary_goes_on n (name f) z g) ]
  only_done (ItemWord f s) z w =
      elim w [ inl g ↦ elim g.1 [ ] | inr g ↦ absurd (reference_goes_on f [] (name f) s z g) ]
  only_done (HasReference f is x s) z w = absurd (reference_goes_on f is x s z w)
  only_done (CallOpen f n) z w = absurd (args_some w.4)
  only_done (HasItem i s) z w = absurd (item_goes_on s i z w)
  only_done (HasPrimary x n) z w = absurd (primary_goes_on n x z w)
  only_done (HasNode x n) z w = absurd (node_goes_on n x z w)
  only_done (Done i) z w = let e : i ≡ z = w.1 in cc
