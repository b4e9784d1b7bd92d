-- What is laid out of an item is read and parsed back to the same item but for places, one form
-- after another.
use Rattle.std.proofs.Common.{◌≡◌, ◌∙◌, ℕ, suc, true, false, List, [], ◌∷◌, Some, refl, sym, ap, subst}
use Rattle.pan_ast.specs.declared.place.Place.{Place}
use Rattle.pan_ast.specs.declared.sort.Sort.{Sort}
use Rattle.pan_ast.specs.declared.sort.Sort.TheVariants as sorts
use Rattle.pan_ast.specs.declared.token.Token.{Token}
use Rattle.pan_ast.specs.declared.token.TokenKind.TheVariants as kinds
use Rattle.pan_ast.specs.Sorts.{at, is_plain, is_word, sort, sort_of}
use Rattle.pan_ast.specs.Syntax.{Item, Node, Reference, Items, items_of, Block, If, IfElse, While, For, Foreach, Assign, Plain, Refer}
use Rattle.pan_ast.specs.Syntax as nodes
use Rattle.path_tree.specs.declared.operators.UnaryOp.{UnaryOp}
use Rattle.path_tree.specs.declared.operators.UnaryOp.TheVariants as unary
use Rattle.pan_lexer.specs.declared.pieces.Piece.{Piece}
use Rattle.pan_grammar.specs.Grammar.{Tokens, NotElse, IsItem, a_block, an_if, an_if_else, a_while, a_for, a_foreach, an_assign, a_chain, IsItems, no_item, items_from, IsMore, closed, closed_late, more, IsArgs, no_arg, args_from, IsMoreArgs, args_end, more_args, IsIndexes, no_index, one_index, IsReference, a_reference, IsChain, a_unary, a_line, IsTail, IsUnary, a_sign, a_primary, IsSuffix, IsPrimary, a_name, a_call, parens, assigned, plain, unary_of, Operator, Of, Both, Either, op_of, joined, index, tail_ends, tail_more, suffix_ends, an_index}
use Rattle.format_laws.proofs.Operators.{operator_again, sign_of}
use Rattle.pan_format.specs.Bare.{nowhere, bare_item, bare_items, bare_node, bare_reference}
use Rattle.format_laws.proofs.Reading.{Behind, Follows, Holding, Then, behind, holding, so}

pub not_else : (s : Sort) (t : Token) (ts : Tokens) → at sorts.Else s ≡ false → sort t ≡ s
    → NotElse (t ∷ ts)
not_else s t ts e q h = let k : at sorts.Else sorts.Else ≡ false =
    subst (λ (x : Sort). at sorts.Else x ≡ false) (sym q ∙ h) e in absurd cc

abbrev pub sign_before : UnaryOp → Sort
sign_before unary.Plus = sorts.Plus
sign_before unary.Minus = sorts.Minus
sign_before unary.Not = sorts.Not
sign_before unary.Flip = sorts.Flip

unary_back : (op : UnaryOp) → unary_of (sign_before op) ≡ Some op
unary_back unary.Plus = refl
unary_back unary.Minus = refl
unary_back unary.Not = refl
unary_back unary.Flip = refl

foreach_bare : (q p : Place) (v w : List ℕ) (x b : Item) (v' w' : List ℕ) (x' b' : Item) → v' ≡ v
    → w' ≡ w → bare_item x' ≡ bare_item x → bare_item b' ≡ bare_item b
    → bare_item (Foreach q v' w' x' b') ≡ bare_item (Foreach p v w x b)
unfolding bare_item
foreach_bare q p v w x b v' w' x' b' e1 e2 e3 e4 = cc

pub behind_not_else : (s : Sort) → at sorts.Else s ≡ false
    → {P : Follows} {X : Type 0} (us : Tokens) (ps : List Piece) → Behind s P us ps → X → NotElse us
behind_not_else s e us ps (behind {t = t} {ts = ts} q r) x = not_else s t ts e q

joined_bare : (op : Operator) (a' a b' b : Node) → bare_node a' ≡ bare_node a
    → bare_node b' ≡ bare_node b → bare_node (joined op a' b') ≡ bare_node (joined op a b)
unfolding bare_node
joined_bare (Of op) a' a b' b e1 e2 = cc (e1, e2)
joined_bare Both a' a b' b e1 e2 = cc (e1, e2)
joined_bare Either a' a b' b e1 e2 = cc (e1, e2)

index_bare : (a' a : Node) (i' i : Item) → bare_node a' ≡ bare_node a → bare_item i' ≡ bare_item i
    → bare_node (index a' i') ≡ bare_node (index a i)
unfolding bare_node
index_bare a' a i' i e1 e2 = cc (e1, e2)

module _ (May : ℕ → Tokens → Type 0) where
  abbrev pub ItemThen : ℕ → Item → Follows → Follows
  ItemThen d x P = Then Item (IsItem May d) (λ y. bare_item y ≡ bare_item x) P

  abbrev pub ItemsThen : ℕ → List Item → Follows → Follows
  ItemsThen d is P = Then (List Item) (IsItems May d)
      (λ js. bare_items (items_of js) ≡ bare_items (items_of is)) P

  abbrev pub MoreThen : ℕ → List Item → Follows → Follows
  MoreThen d is P = Then (List Item) (IsMore May d)
      (λ js. bare_items (items_of js) ≡ bare_items (items_of is)) P

  abbrev pub ArgsThen : ℕ → List Item → Follows → Follows
  ArgsThen d is P = Then (List Item) (IsArgs May d)
      (λ js. bare_items (items_of js) ≡ bare_items (items_of is)) P

  abbrev pub MoreArgsThen : ℕ → List Item → Follows → Follows
  MoreArgsThen d is P = Then (List Item) (IsMoreArgs May d)
      (λ js. bare_items (items_of js) ≡ bare_items (items_of is)) P

  abbrev pub IndexesThen : ℕ → List Item → Follows → Follows
  IndexesThen d is P = Then (List Item) (IsIndexes May d)
      (λ js. bare_items (items_of js) ≡ bare_items (items_of is)) P

  pub block_so : {d : ℕ} (p : Place) (is : List Item) {P : Follows}
      → ((us : Tokens) → May (suc d) us) → (us : Tokens) (ps : List Piece)
      → Behind sorts.OpenBrace (ItemsThen (suc d) is P) us ps
      → ItemThen d (Block p (items_of is)) P us ps
  unfolding bare_item
  block_so p0 is0 m us ps (behind e (so h b r)) = so (a_block (m _) e h) (cc b) r

  pub if_so : {d : ℕ} (p : Place) (c a : Item) {P : Follows} → ((us : Tokens) → May (suc d) us)
      → ((us : Tokens) (ps : List Piece) → P us ps → NotElse us) → (us : Tokens) (ps : List Piece)
      → Behind sorts.If (Behind sorts.Open (ItemThen (suc d) c (Behind sorts.Close (ItemThen
      (suc d) a P)))) us ps → ItemThen d (If p c a) P us ps
  unfolding bare_item
  if_so p0 c0 a0 m n us ps (behind e1 (behind e2 (so h1 b1 (behind e3 (so h2 b2 r))))) =
      so (an_if (m _) e1 e2 h1 e3 h2 (n _ _ r)) (cc (b1, b2)) r

  pub if_else_so : {d : ℕ} (p : Place) (c a b : Item) {P : Follows}
      → ((us : Tokens) → May (suc d) us) → (us : Tokens) (ps : List Piece)
      → Behind sorts.If (Behind sorts.Open (ItemThen (suc d) c (Behind sorts.Close (ItemThen
      (suc d) a (Behind sorts.Else (ItemThen (suc d) b P)))))) us ps
      → ItemThen d (IfElse p c a b) P us ps
  unfolding bare_item
  if_else_so p0 c0 a0 b0 m us ps (behind e1 (behind e2 (so h1 b1 (behind e3 (so h2 b2 (behind e4
      (so h3 b3 r))))))) = so (an_if_else (m _) e1 e2 h1 e3 h2 e4 h3) (cc (b1, b2, b3)) r

  pub while_so : {d : ℕ} (p : Place) (c b : Item) {P : Follows} → ((us : Tokens) → May (suc d) us)
      → (us : Tokens) (ps : List Piece) → Behind sorts.While
      (Behind sorts.Open (ItemThen (suc d) c (Behind sorts.Close (ItemThen (suc d) b P)))) us ps
      → ItemThen d (While p c b) P us ps
  unfolding bare_item
  while_so p0 c0 b0 m us ps (behind e1 (behind e2 (so h1 b1 (behind e3 (so h2 b2 r))))) =
      so (a_while (m _) e1 e2 h1 e3 h2) (cc (b1, b2)) r

  pub for_so : {d : ℕ} (p : Place) (a c n b : Item) {P : Follows} → ((us : Tokens) → May (suc d) us)
      → (us : Tokens) (ps : List Piece)
      → Behind sorts.For (Behind sorts.Open (ItemThen (suc d) a (Behind sorts.Semicolon (ItemThen
      (suc d) c (Behind sorts.Semicolon (ItemThen (suc d) n (Behind sorts.Close (ItemThen
      (suc d) b P)))))))) us ps → ItemThen d (For p a c n b) P us ps
  unfolding bare_item
  for_so p0 a0 c0 n0 b0 m us ps (behind e1 (behind e2 (so h1 b1 (behind e3 (so h2 b2 (behind e4
      (so h3 b3 (behind e5 (so h4 b4 r))))))))) =
      so (a_for (m _) e1 e2 h1 e3 h2 e4 h3 e5 h4) (cc (b1, b2, b3, b4)) r

  pub foreach_so : {d : ℕ} (p : Place) {v w : List ℕ} (x b : Item) {P : Follows}
      → ((us : Tokens) → May (suc d) us) → is_word (sort_of kinds.Word v) ≡ true
      → is_word (sort_of kinds.Word w) ≡ true → (us : Tokens) (ps : List Piece)
      → Behind sorts.Foreach (Behind sorts.Open
      (Holding (sort_of kinds.Word v) v (Behind sorts.Semicolon
      (Holding (sort_of kinds.Word w) w (Behind sorts.Semicolon
      (ItemThen (suc d) x (Behind sorts.Close (ItemThen (suc d) b P)))))))) us ps
      → ItemThen d (Foreach p v w x b) P us ps
  unfolding bare_item
  foreach_so p0 x0 b0 m ev ew us ps (behind {t = t} e1
      (behind e2 (holding s1 q1 (behind e3 (holding s2 q2 (behind e4 (so h1 b1 (behind e5
      (so h2 b2 r))))))))) = so (a_foreach (m _) e1 e2 (ap is_word s1 ∙ ev) e3
      (ap is_word s2 ∙ ew) e4 h1 e5 h2) (foreach_bare t.place p0 _ _ x0 b0 _ _ _ _ q1 q2 b1 b2) r

  -- ---- lists of items

  pub none_so : {d : ℕ} {P : Follows} (us : Tokens) (ps : List Piece)
      → Behind sorts.CloseBrace P us ps → ItemsThen d [] P us ps
  none_so us ps (behind e r) = so (no_item e) refl r

  pub items_so : {d : ℕ} (i : Item) (is : List Item) {P : Follows} (us : Tokens) (ps : List Piece)
      → ItemThen d i (MoreThen d is P) us ps → ItemsThen d (i ∷ is) P us ps
  unfolding bare_items
  items_so i0 is0 us ps (so h b (so k c r)) = so (items_from h k) (cc (b, c)) r

  pub last_so : {d : ℕ} {P : Follows} (us : Tokens) (ps : List Piece)
      → Behind sorts.Semicolon (Behind sorts.CloseBrace P) us ps → MoreThen d [] P us ps
  last_so us ps (behind e (behind q r)) = so (closed_late e q) refl r

  pub more_so : {d : ℕ} (i : Item) (is : List Item) {P : Follows} (us : Tokens) (ps : List Piece)
      → Behind sorts.Semicolon (ItemThen d i (MoreThen d is P)) us ps → MoreThen d (i ∷ is) P us ps
  unfolding bare_items
  more_so i0 is0 us ps (behind e (so h b (so k c r))) = so (more e h k) (cc (b, c)) r

  pub more_not_else : {d : ℕ} (is : List Item) {P : Follows} (us : Tokens) (ps : List Piece)
      → MoreThen d is P us ps → NotElse us
  more_not_else is0 us ps (so (closed {t = t} {rest = ts} e) b r) =
      not_else sorts.CloseBrace t ts refl e
  more_not_else is0 us ps (so (closed_late {s = s} {t = t} {rest = ts} e q) b r) =
      not_else sorts.Semicolon s (t ∷ ts) refl e
  more_not_else is0 us ps (so (more {s = s} {ts = ts} e h k) b r) =
      not_else sorts.Semicolon s ts refl e

  pub no_arg_so : {d : ℕ} {P : Follows} (us : Tokens) (ps : List Piece) → Behind sorts.Close P us ps
      → ArgsThen d [] P us ps
  no_arg_so us ps (behind e r) = so (no_arg e) refl r

  pub args_so : {d : ℕ} (i : Item) (is : List Item) {P : Follows} (us : Tokens) (ps : List Piece)
      → ItemThen d i (MoreArgsThen d is P) us ps → ArgsThen d (i ∷ is) P us ps
  unfolding bare_items
  args_so i0 is0 us ps (so h b (so k c r)) = so (args_from h k) (cc (b, c)) r

  pub args_end_so : {d : ℕ} {P : Follows} (us : Tokens) (ps : List Piece)
      → Behind sorts.Close P us ps → MoreArgsThen d [] P us ps
  args_end_so us ps (behind e r) = so (args_end e) refl r

  pub more_args_so : {d : ℕ} (i : Item) (is : List Item) {P : Follows} (us : Tokens)
      (ps : List Piece) → Behind sorts.Comma (ItemThen d i (MoreArgsThen d is P)) us ps
      → MoreArgsThen d (i ∷ is) P us ps
  unfolding bare_items
  more_args_so i0 is0 us ps (behind e (so h b (so k c r))) = so (more_args e h k) (cc (b, c)) r

  pub args_not_else : {d : ℕ} (is : List Item) {P : Follows} (us : Tokens) (ps : List Piece)
      → MoreArgsThen d is P us ps → NotElse us
  args_not_else is0 us ps (so (args_end {t = t} {rest = ts} e) b r) =
      not_else sorts.Close t ts refl e
  args_not_else is0 us ps (so (more_args {s = s} {ts = ts} e h k) b r) =
      not_else sorts.Comma s ts refl e

  pub no_index_so : {d : ℕ} {P : Follows} (us : Tokens) (ps : List Piece) → P us ps
      → IndexesThen d [] P us ps
  no_index_so us ps r = so no_index refl r

  pub index_so : {d : ℕ} (i : Item) (is : List Item) {P : Follows} (us : Tokens) (ps : List Piece)
      → Behind sorts.OpenBracket (ItemThen d i
      (Behind sorts.CloseBracket (IndexesThen d is P))) us ps → IndexesThen d (i ∷ is) P us ps
  unfolding bare_items
  index_so i0 is0 us ps (behind e (so h b (behind q (so k c r)))) =
      so (one_index e h q k) (cc (b, c)) r

  -- ---- references and nodes

  abbrev pub ReferenceThen : ℕ → Reference → Follows → Follows
  ReferenceThen d x P = Then Reference (IsReference May d)
      (λ y. bare_reference y ≡ bare_reference x) P

  abbrev pub ChainThen : ℕ → ℕ → Node → Follows → Follows
  ChainThen d l x P = Then Node (IsChain May d l) (λ y. bare_node y ≡ bare_node x) P

  abbrev pub UnaryThen : ℕ → Node → Follows → Follows
  UnaryThen d x P = Then Node (IsUnary May d) (λ y. bare_node y ≡ bare_node x) P

  abbrev pub PrimaryThen : ℕ → Node → Follows → Follows
  PrimaryThen d x P = Then Node (IsPrimary May d) (λ y. bare_node y ≡ bare_node x) P

  -- behind any left operand like this one
  abbrev pub TailThen : ℕ → ℕ → Node → Node → Follows → Follows
  TailThen d l a x P ts ps = (b : Node) → bare_node b ≡ bare_node a
      → Then Node (λ us y rest. IsTail May d l b us y rest) (λ y. bare_node y ≡ bare_node x) P ts ps

  abbrev pub SuffixThen : ℕ → Node → Node → Follows → Follows
  SuffixThen d a x P ts ps = (b : Node) → bare_node b ≡ bare_node a
      → Then Node (λ us y rest. IsSuffix May d b us y rest) (λ y. bare_node y ≡ bare_node x) P ts ps

  pub reference_so : {d : ℕ} (p : Place) {v : List ℕ} (is : List Item) {P : Follows}
      → is_plain (sort_of kinds.Word v) ≡ true → (us : Tokens) (ps : List Piece)
      → Holding (sort_of kinds.Word v) v (IndexesThen d is P) us ps
      → ReferenceThen d (Refer p v (items_of is)) P us ps
  unfolding bare_reference
  reference_so p0 is0 e us ps (holding s q (so h b r)) =
      so (a_reference (ap is_plain s ∙ e) h) (refer_bare _ _ _ _ q b) r where
        refer_bare : (v w : List ℕ) (is js : Items) → v ≡ w → bare_items is ≡ bare_items js
            → Refer nowhere v (bare_items is) ≡ Refer nowhere w (bare_items js)
        refer_bare v w is js e1 e2 = cc

  pub assign_so : {d : ℕ} (x : Reference) (y : Item) {P : Follows}
      → ((us : Tokens) → May (suc d) us) → (us : Tokens) (ps : List Piece)
      → ReferenceThen (suc d) x (Behind sorts.Assign (ItemThen (suc d) y P)) us ps
      → ItemThen d (assigned x y) P us ps
  unfolding bare_item
  assign_so x0 y0 m us ps (so h b (behind e (so k c r))) = so (an_assign (m _) h e k) (cc (b, c)) r

  pub plain_so : {d : ℕ} (x : Node) {P : Follows} → ((us : Tokens) → May (suc d) us)
      → (us : Tokens) (ps : List Piece) → ChainThen (suc d) 9 x P us ps
      → ItemThen d (plain x) P us ps
  unfolding bare_item
  plain_so x0 m us ps (so h b r) = so (a_chain (m _) h) (cc b) r

  pub unary_so : {d : ℕ} (x : Node) {P : Follows} (us : Tokens) (ps : List Piece)
      → UnaryThen d x P us ps → ChainThen d 0 x P us ps
  unary_so x0 us ps (so h b r) = so (a_unary h) b r

  pub name_so : {d : ℕ} (p : Place) {v : List ℕ} {P : Follows}
      → is_plain (sort_of kinds.Word v) ≡ true → (us : Tokens) (ps : List Piece)
      → Holding (sort_of kinds.Word v) v P us ps → PrimaryThen d (nodes.Name p v) P us ps
  unfolding bare_node
  name_so p0 e us ps (holding s q r) = so (a_name (ap is_plain s ∙ e)) (ap (nodes.Name nowhere) q) r

  pub call_so : {d : ℕ} (p : Place) {v : List ℕ} (is : List Item) {P : Follows}
      → is_plain (sort_of kinds.Word v) ≡ true → (us : Tokens) (ps : List Piece)
      → Holding (sort_of kinds.Word v) v (Behind sorts.Open (ArgsThen d is P)) us ps
      → PrimaryThen d (nodes.Call p v (items_of is)) P us ps
  unfolding bare_node
  call_so p0 is0 e us ps (holding s q (behind o (so h b r))) =
      so (a_call (ap is_plain s ∙ e) o h) (call_bare _ _ _ _ q b) r where
        call_bare : (v w : List ℕ) (is js : Items) → v ≡ w → bare_items is ≡ bare_items js
            → nodes.Call nowhere v (bare_items is) ≡ nodes.Call nowhere w (bare_items js)
        call_bare v w is js e1 e2 = cc

  pub parens_so : {d : ℕ} (p : Place) (i : Item) {P : Follows} (us : Tokens) (ps : List Piece)
      → Behind sorts.Open (ItemThen d i (Behind sorts.Close P)) us ps
      → PrimaryThen d (nodes.Inside p i) P us ps
  unfolding bare_node
  parens_so p0 i0 us ps (behind e (so h b (behind q r))) = so (parens e h q) (cc b) r

  pub sign_so : {d : ℕ} (p : Place) (op : UnaryOp) (x : Node) {P : Follows}
      → ((us : Tokens) → May (suc d) us) → (us : Tokens) (ps : List Piece)
      → Behind (sign_before op) (UnaryThen (suc d) x P) us ps
      → UnaryThen d (nodes.Unary p op x) P us ps
  unfolding bare_node
  sign_so p0 op x0 m us ps (behind e (so h b r)) =
      so (a_sign (m _) (ap unary_of e ∙ unary_back op) h) (cc b) r

  -- ---- left operands with what continues them

  line_on : {d l : ℕ} {us rest : Tokens} {ps : List Piece} (b x : Node) {P : Follows}
      → IsChain May d l us b rest → Then Node (λ vs y end. IsTail May d l b vs y end)
      (λ y. bare_node y ≡ bare_node x) P rest ps → ChainThen d (suc l) x P us ps
  line_on b x h (so k q s) = so (a_line h k) q s

  pub line_so : {d l : ℕ} (a x : Node) {P : Follows} (us : Tokens) (ps : List Piece)
      → ChainThen d l a (TailThen d l a x P) us ps → ChainThen d (suc l) x P us ps
  line_so a0 x0 us ps (so {y = b} h e r) = line_on b x0 h (r b e)

  primary_on : {d : ℕ} {us rest : Tokens} {ps : List Piece} (b x : Node) {P : Follows}
      → IsPrimary May d us b rest → Then Node (λ vs y end. IsSuffix May d b vs y end)
      (λ y. bare_node y ≡ bare_node x) P rest ps → UnaryThen d x P us ps
  primary_on b x h (so k q s) = so (a_primary h k) q s

  pub primary_so : {d : ℕ} (a x : Node) {P : Follows} (us : Tokens) (ps : List Piece)
      → PrimaryThen d a (SuffixThen d a x P) us ps → UnaryThen d x P us ps
  primary_so a0 x0 us ps (so {y = b} h e r) = primary_on b x0 h (r b e)

  pub tail_ends_so : {d l : ℕ} (x : Node) {P : Follows} (us : Tokens) (ps : List Piece) → P us ps
      → TailThen d l x x P us ps
  tail_ends_so x us ps r b e = so tail_ends e r

  tail_on : {d l : ℕ} {v : Token} {us rest : Tokens} {ps : List Piece} {op : Operator}
      (a b x : Node) {P : Follows} → op_of (suc l) (sort v) ≡ Some op → IsChain May d l us b rest
      → Then Node (λ vs y end. IsTail May d l (joined op a b) vs y end)
      (λ y. bare_node y ≡ bare_node x) P rest ps
      → Then Node (λ vs y end. IsTail May d l a vs y end) (λ y. bare_node y ≡ bare_node x) P
      (v ∷ us) ps
  tail_on a b x e h (so k q p) = so (tail_more e h k) q p

  pub tail_more_so : {d l : ℕ} (s : Token) (op : Operator) (a b x : Node) {P : Follows}
      → op_of (suc l) (sort s) ≡ Some op → (us : Tokens) (ps : List Piece)
      → Behind (sign_of op) (ChainThen d l b (TailThen d l (joined op a b) x P)) us ps
      → TailThen d l a x P us ps
  tail_more_so {l = l} s op a b x e us ps (behind {t = v} q (so {y = c} h bb r)) f ea =
      tail_on f c x (operator_again l (sort s) (sort v) op e q) h
      (r (joined op f c) (joined_bare op f a c b ea bb))

  pub suffix_ends_so : {d : ℕ} (x : Node) {P : Follows} (us : Tokens) (ps : List Piece) → P us ps
      → SuffixThen d x x P us ps
  suffix_ends_so x us ps r b e = so suffix_ends e r

  suffix_on : {d : ℕ} {o z : Token} {us mid : Tokens} {ps : List Piece} (a x : Node) (i : Item)
      {P : Follows} → sort o ≡ sorts.OpenBracket → IsItem May d us i (z ∷ mid)
      → sort z ≡ sorts.CloseBracket → Then Node (λ vs y end. IsSuffix May d (index a i) vs y end)
      (λ y. bare_node y ≡ bare_node x) P mid ps
      → Then Node (λ vs y end. IsSuffix May d a vs y end) (λ y. bare_node y ≡ bare_node x) P
      (o ∷ us) ps
  suffix_on a x i e h q (so k b p) = so (an_index e h q k) b p

  pub suffix_more_so : {d : ℕ} (a x : Node) (i : Item) {P : Follows} (us : Tokens) (ps : List Piece)
      → Behind sorts.OpenBracket (ItemThen d i
      (Behind sorts.CloseBracket (SuffixThen d (index a i) x P))) us ps → SuffixThen d a x P us ps
  suffix_more_so a x i us ps (behind e (so {y = j} h b (behind q r))) f ea =
      suffix_on f x j e h q (r (index f j) (index_bare f a j i ea b))
