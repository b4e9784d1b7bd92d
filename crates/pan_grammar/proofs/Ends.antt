-- A text whose last token is an End is never left wanting: a fault stands at a token.
use Rattle.std.proofs.Common.{◌≡◌, ◌≢◌, ℕ, zero, suc, Bool, true, false, List, [], ◌∷◌, ◌++◌, Option, Some, None, Err, refl, sym, ◌∙◌, arith}
use Rattle.pan_ast.specs.declared.sort.Sort.TheVariants as sorts
use Rattle.pan_ast.specs.declared.token.Token.{Token}
use Rattle.pan_ast.specs.declared.types.Suffix.{Suffix}
use Rattle.pan_ast.specs.Sorts.{sort}
use Rattle.pan_ast.specs.Syntax.{Item, Node}
use Rattle.pan_ast.specs.Syntax as nodes
use Rattle.pan_ast.specs.Types.{FullType, Full, TypeForm, Formed, Head}
use Rattle.pan_ast.specs.Templates.{Template}
use Rattle.pan_grammar.specs.Grammar.{Tokens, plain, joined, name, op_of, level}
use Rattle.pan_grammar.specs.Types.{named, bounds}
use Rattle.pan_grammar.specs.Templates.{template}
use Rattle.pan_grammar.specs.States.{FullStack, StatementType, InField, Hole, StatementItem, AfterEquals, AfterWith, Divider, AtSemicolon, AtClose, divider, Last, Further, MayElse, ItemStack, Out, InBlock, InParts, InReference, InIndex, InParens, InCall, NodeStack, Chained, Signed, First, Operand, down, Closing, Parens, Brackets, Braces, closing, Wanted, ATemplate, AName, ASemicolon, AnAssign, ASetting, AText, AWord, ATypeName, AnInt, AnOpen, AnOpenBrace, AMark, Closes, fits, State, Start, Takes, Statements, FinalRead, IncludeRead, NeedFull, NameRead, TextsOpen, FieldsOpen, HasHead, NeedSigned, NeedBounds, HasLow, RangeRead, RangeOpen, NeedItem, NeedUnary, BlockOpen, WordRead, ItemWord, HasReference, CallOpen, HasItem, HasPrimary, HasNode, Done}
use Rattle.pan_grammar.specs.Machine.{when, has_full, has_default, has_head, hole_has, has_item, has_node, has_primary, has_reference, signed_at, bounds_at, high_read, step, over, Bad, Deep, and_run, at_end, run}
use Rattle.pan_grammar.specs.Depths.{opens}
use Rattle.pan_grammar.proofs.Tests.{miss, none_passed, that_only}
use Rattle.pan_grammar.proofs.Follow.{op_none}

-- nothing that is wanted is an End
not_wanted : (w : Wanted) (t : Token) → sort t ≡ sorts.End → fits w t ≡ false
not_wanted ATemplate t e = rw e refl
not_wanted AName t e = rw e refl
not_wanted ASemicolon t e = rw e refl
not_wanted AnAssign t e = rw e refl
not_wanted ASetting t e = rw e refl
not_wanted AText t e = rw e refl
not_wanted AWord t e = rw e refl
not_wanted ATypeName t e = rw e refl
not_wanted AnInt t e = rw e refl
not_wanted AnOpen t e = rw e refl
not_wanted AnOpenBrace t e = rw e refl
not_wanted AMark t e = rw e refl
not_wanted (Closes Parens) t e = rw e refl
not_wanted (Closes Brackets) t e = rw e refl
not_wanted (Closes Braces) t e = rw e refl

not_closing : (c : Closing) → sorts.End ≢ closing c
not_closing Parens e = cc
not_closing Brackets e = cc
not_closing Braces e = cc

not_divider : (k : Divider) → sorts.End ≢ divider k
not_divider AtSemicolon e = cc
not_divider AtClose e = cc

no_op_at_end : (l : ℕ) (t : Token) → sort t ≡ sorts.End → op_of (suc l) (sort t) ≡ None
no_op_at_end l t e = let z : level (sort t) ≡ 0 = rw e refl in
    op_none (suc l) (sort t) (λ k. omega arith)

-- the state is done
abbrev IsDone : State → Type 0
IsDone y = (z : Template) × (y ≡ Done z)

full_ends : (s : FullStack) (f : FullType) (t : Token) → sort t ≡ sorts.End → has_full s f t ≡ None
full_ends (StatementType h ss make) f t e = rw e refl
full_ends (InField k c x fs s) f t e = rw e refl

default_ends : (f : TypeForm) (d : Option Item) (s : FullStack) (t : Token) → sort t ≡ sorts.End
    → has_default f d s t ≡ None
default_ends f d s t e = let k : has_default f d s t ≡ has_full s (Full f d None) t = rw e refl in
    k ∙ full_ends s (Full f d None) t e

hole_ends : (o : Hole) (i : Item) (t : Token) → sort t ≡ sorts.End → hole_has o i t ≡ None
hole_ends (StatementItem h ss make) i t e = rw e refl
hole_ends (AfterEquals f s) i t e = default_ends f (Some i) s t e
hole_ends (AfterWith f d s) i t e = full_ends s (Full f d (Some i)) t e

head_ends : (a : Head) (ss : List Suffix) (s : FullStack) (t : Token) → sort t ≡ sorts.End
    → has_head a ss s t ≡ None
head_ends a ss s t e = let k : has_head a ss s t ≡ has_default (Formed a ss) None s t = rw e refl in
    k ∙ default_ends (Formed a ss) None s t e

mutual
  item_ends : (s : ItemStack) (i : Item) (t : Token) → sort t ≡ sorts.End → has_item s i t ≡ None
  item_ends (Out o) i t e = hole_ends o i t e
  item_ends (InBlock p is s) i t e = rw e refl
  item_ends (InParts (Last make) s) i t e = item_ends s (make i) t e
  item_ends (InParts (Further k next) s) i t e =
      miss (divider k) (sort t) (NeedItem (InParts (next i) s)) None
      (λ q. not_divider k (sym e ∙ q))
  item_ends (InParts (MayElse make) s) i t e =
      let k : has_item (InParts (MayElse make) s) i t ≡ has_item s (make i None) t = rw e refl in
      k ∙ item_ends s (make i None) t e
  item_ends (InReference f is x s) i t e = rw e refl
  item_ends (InIndex x n) i t e = rw e refl
  item_ends (InParens p n) i t e = rw e refl
  item_ends (InCall f is n) i t e = rw e refl

  node_ends : {l : ℕ} (n : NodeStack l) (x : Node) (t : Token) → sort t ≡ sorts.End → has_node n x t
      ≡ None
  node_ends (Chained s) x t e = item_ends s (plain x) t e
  node_ends (Signed op p n) x t e = node_ends n (nodes.Unary p op x) t e
  node_ends (First {l} n) x t e =
      none_passed (op_of (suc l) (sort t)) _ _ (no_op_at_end l t e) ∙ node_ends n x t e
  node_ends (Operand {l} op a n) x t e =
      none_passed (op_of (suc l) (sort t)) _ _ (no_op_at_end l t e)
      ∙ node_ends n (joined op a x) t e

primary_ends : (n : NodeStack zero) (x : Node) (t : Token) → sort t ≡ sorts.End → has_primary n x t
    ≡ None
primary_ends n x t e = miss sorts.OpenBracket (sort t) _ _
    (λ q. let k : sorts.End ≡ sorts.OpenBracket = sym e ∙ q in absurd cc) ∙ node_ends n x t e

reference_ends : (f : Token) (is : List Item) (x : Node) (s : ItemStack) (t : Token) → sort t
    ≡ sorts.End → has_reference f is x s t ≡ None
reference_ends f is x s t e = let k : has_reference f is x s t ≡ has_node (down 9 (Chained s)) x t =
    rw e refl in k ∙ node_ends (down 9 (Chained s)) x t e

-- a state that takes an End is done after it
pub step_ends : (σ : State) (t : Token) (y : State) → sort t ≡ sorts.End → step σ t ≡ Some y
    → IsDone y
step_ends Start t y e h = let k : step Start t ≡ None = rw e refl in absurd cc
step_ends (Takes w next) t y e h = let k = (that_only (fits w t) (next t) y h).0 in let n =
    not_wanted w t e in absurd cc
step_ends (Statements q ss) t y e h =
    let k : step (Statements q ss) t ≡ Some (Done (template q ss)) = rw e refl in
    (template q ss, cc)
step_ends (FinalRead p q ss) t y e h = let k : step (FinalRead p q ss) t ≡ None = rw e refl in
    absurd cc
step_ends (IncludeRead p q ss) t y e h = let k : step (IncludeRead p q ss) t ≡ None = rw e refl in
    absurd cc
step_ends (NeedFull s) t y e h = let k : step (NeedFull s) t ≡ None = rw e refl in absurd cc
step_ends (NameRead n s) t y e h = let k : step (NameRead n s) t ≡ has_head (named n None) [] s t =
    rw e refl in let q = head_ends (named n None) [] s t e in absurd cc
step_ends (TextsOpen xs s) t y e h = let k : step (TextsOpen xs s) t ≡ None = rw e refl in absurd cc
step_ends (FieldsOpen x fs s) t y e h = let k : step (FieldsOpen x fs s) t ≡ None = rw e refl in
    absurd cc
step_ends (HasHead a ss s) t y e h = let k = head_ends a ss s t e in absurd cc
step_ends (NeedSigned next) t y e h = let k : step (NeedSigned next) t ≡ None = rw e refl in
    absurd cc
step_ends (NeedBounds c next) t y e h = let k : step (NeedBounds c next) t ≡ None = rw e refl in
    absurd cc
step_ends (HasLow c p n next) t y e h =
    let a = miss (closing c) (sort t) (next (bounds p (Some n) (Some n)))
    (when sorts.Range (sort t) (RangeRead c p n next) None) (λ q. not_closing c (sym e ∙ q)) in
    let b : when sorts.Range (sort t) (RangeRead c p n next) None ≡ None = rw e refl in
    let k : step (HasLow c p n next) t ≡ None = a ∙ b in absurd cc
step_ends (RangeRead c p n next) t y e h =
    let a = miss (closing c) (sort t) (next (bounds p (Some n) None))
    (signed_at (high_read c p n next) t) (λ q. not_closing c (sym e ∙ q)) in
    let b : signed_at (high_read c p n next) t ≡ None = rw e refl in
    let k : step (RangeRead c p n next) t ≡ None = a ∙ b in absurd cc
step_ends (RangeOpen c next) t y e h =
    let a = miss (closing c) (sort t) (next None) (bounds_at c (λ b. next (Some b)) t)
    (λ q. not_closing c (sym e ∙ q)) in
    let b : bounds_at c (λ b. next (Some b)) t ≡ None = rw e refl in
    let k : step (RangeOpen c next) t ≡ None = a ∙ b in absurd cc
step_ends (NeedItem s) t y e h = let k : step (NeedItem s) t ≡ None = rw e refl in absurd cc
step_ends (NeedUnary n) t y e h = let k : step (NeedUnary n) t ≡ None = rw e refl in absurd cc
step_ends (BlockOpen p is s) t y e h = let k : step (BlockOpen p is s) t ≡ None = rw e refl in
    absurd cc
step_ends (WordRead f n) t y e h = let k : step (WordRead f n) t ≡ has_primary n (name f) t =
    rw e refl in let q = primary_ends n (name f) t e in absurd cc
step_ends (ItemWord f s) t y e h = let k : step (ItemWord f s) t ≡ has_reference f [] (name f) s t =
    rw e refl in let q = reference_ends f [] (name f) s t e in absurd cc
step_ends (HasReference f is x s) t y e h = let k = reference_ends f is x s t e in absurd cc
step_ends (CallOpen f n) t y e h = let k : step (CallOpen f n) t ≡ None = rw e refl in absurd cc
step_ends (HasItem i s) t y e h = let k = item_ends s i t e in absurd cc
step_ends (HasPrimary x n) t y e h = let k = primary_ends n x t e in absurd cc
step_ends (HasNode x n) t y e h = let k = node_ends n x t e in absurd cc
step_ends (Done i) t y e h = absurd cc

pub never_left : (before : Tokens) (end : Token) (σ : State) → sort end ≡ sorts.End
    → run (before ++ end ∷ []) σ ≡ Err (Bad []) → ⊥
never_left [] end σ e h = by (step σ end) refl (over (opens σ end)) h where
  by : (o : Option State) → step σ end ≡ o → (b : Bool) → and_run o b (run []) (end ∷ [])
      ≡ Err (Bad []) → ⊥
  by None q b k = cc
  by (Some y) q true k = cc
  by (Some y) q false k = let d = step_ends σ end y e q in
      let m : at_end (Done d.0) ≡ Err (Bad []) = rw d.1 at k in cc
never_left (t ∷ before) end σ e h =
    by (λ y k. never_left before end y e k) (step σ t) refl (over (opens σ t)) h where
      by : ((y : State) → run (before ++ end ∷ []) y ≡ Err (Bad []) → ⊥) → (o : Option State)
          → step σ t
          ≡ o → (b : Bool) → and_run o b (run (before ++ end ∷ [])) (t ∷ before ++ end ∷ [])
          ≡ Err (Bad []) → ⊥
      by again None q b k = cc
      by again (Some y) q true k = cc
      by again (Some y) q false k = again y k

-- a fault of nesting stands at a token, in any text
pub deep_somewhere : (ts : Tokens) (σ : State) → run ts σ ≡ Err (Deep []) → ⊥
deep_somewhere [] σ h = none σ h where
  none : (σ : State) → at_end σ ≡ Err (Deep []) → ⊥
  none (Done z) h = cc
  none _ h = cc
deep_somewhere (t ∷ ts) σ h =
    by (λ y k. deep_somewhere ts y k) (step σ t) (over (opens σ t)) h where
      by : ((y : State) → run ts y ≡ Err (Deep []) → ⊥) → (o : Option State) (b : Bool)
          → and_run o b (run ts) (t ∷ ts) ≡ Err (Deep []) → ⊥
      by again None b k = cc
      by again (Some y) true k = cc
      by again (Some y) false k = again y k
