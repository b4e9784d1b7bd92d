-- Steps of the parser's functions, as equations of whole readings.
use Rattle.std.proofs.Common.{map, ◌≡◌, ◌≢◌, ◌≤◌, ◌+◌, ◌-◌, ℕ, zero, suc, Bool, true, false, cond, List, [], ◌∷◌, ◌++◌, Option, Some, None, Result, Ok, Err, refl, sym, ap, subst, ◌∙◌, arith}
use Rattle.base.specs.declared.limits.TheConstants.{MAX_NESTING}
use Rattle.std.proofs.lemmas.Bool.{eqb-true}
use Rattle.std.proofs.lemmas.List.{map_push}
use Rattle.path_tree.specs.declared.operators.UnaryOp.{UnaryOp}
use Rattle.pan_ast.specs.declared.sort.Sort.{Sort}
use Rattle.pan_ast.specs.declared.sort.Sort.TheVariants as sorts
use Rattle.pan_ast.specs.declared.token.Token.{Token}
use Rattle.pan_ast.specs.declared.place.Place.{Place}
use Rattle.pan_ast.specs.declared.syntax.Item.{Item as RItem}
use Rattle.pan_ast.specs.Seen.{item_seen}
use Rattle.pan_ast.specs.Sorts.{sort, at, is_plain}
use Rattle.pan_ast.specs.Syntax.{Item, Node}
use Rattle.pan_ast.specs.Syntax as nodes
use Rattle.pan_ast.specs.Templates.{Template}
use Rattle.pan_grammar.specs.Depths.{holders, item_opens, node_holders, signed, unary_opens}
use Rattle.pan_grammar.specs.Grammar.{Operator, Tokens, block, called, index, joined, level, literal, name, plain, reference, unary_of}
use Rattle.pan_grammar.specs.Machine.{Stop, item_at, over, run, unary_at, when_that}
use Rattle.pan_grammar.specs.States.{BlockOpen, Braces, CallOpen, Chained, Closes, First, HasItem, HasNode, HasPrimary, HasReference, InBlock, InCall, InIndex, InParens, InParts, InReference, ItemStack, ItemWord, Last, MayElse, NeedItem, NeedUnary, NodeStack, Operand, Parens, Signed, State, Takes, down, right_side}
use Rattle.pan_grammar.proofs.Firsts.{NotQuoted, item_bare, item_else, unary_sign}
use Rattle.pan_grammar.proofs.Follow.{literal_bare, op_none}
use Rattle.pan_grammar.proofs.Tests.{at_true, passed, some_taken}
use Rattle.pan_parser.specs.declared.stopped.Stopped.{Stopped}
use Rattle.pan_parser.specs.declared.stopped.Stopped.TheVariants as stops
use Rattle.pan_parser.specs.Answers.{ends_chains, Fails, Goes, IsAt, NotAt, IsOperator, NoOperator, NoSign, indexed}

-- ---- numbers

pub one_more : (a d : ℕ) → a ≡ d → suc a ≡ d + 1
one_more a d h = omega arith

pub below : (a d : ℕ) → a ≡ d → d ≤ MAX_NESTING → d ≢ MAX_NESTING → over (suc a) ≡ false
below a d h le ne = grind arith

pub line_above : (l : ℕ) → 1 ≤ l → l ≡ suc (l - 1)
line_above l h = omega arith

-- ---- readings in parts

pub fails_along : (e : Stopped) (a b : Result Template Stop) → a ≡ b → Fails e b → Fails e a
fails_along stops.Memory a b q f = tt
fails_along (stops.Bad t) a b q f = q ∙ f
fails_along (stops.Deep t) a b q f = q ∙ f

pub goes_along : {X : Type 0} (r : Result X Stopped) (next : X → Result Template Stop)
    (a b : Result Template Stop) → a ≡ b → Goes r next b → Goes r next a
goes_along (Ok x) next a b q g = q ∙ g
goes_along (Err e) next a b q g = fails_along e a b q g

pub pushed_seen : (new is : List RItem) (i : RItem) → new ≡ is ++ i ∷ [] → map item_seen new
    ≡ map item_seen is ++ item_seen i ∷ []
pushed_seen new is i e = ap (map item_seen) e ∙ map_push item_seen is i

pub indexed_push : (x : Node) (is : List Item) (i : Item) → indexed x (is ++ i ∷ [])
    ≡ index (indexed x is) i
indexed_push x [] i = refl
indexed_push x (j ∷ is) i = indexed_push (index x j) is i

-- ---- what an item begins with

over_alike : (h : ℕ) (b : Bool) → over (suc h) ≡ false → over (cond b (suc (suc h)) (suc h))
    ≡ over (cond b (suc (suc h)) 0)
over_alike h true low = refl
over_alike h false low = low

pub chain_turns : (ts : Tokens) (first : Token) (on : Tokens) (s : ItemStack) → ts ≡ first ∷ on
    → NotQuoted (sort first) → is_plain (sort first) ≡ false → over (suc (holders s)) ≡ false
    → run ts (NeedItem s) ≡ run ts (NeedUnary (down 9 (Chained s)))
chain_turns ts first on s cut q e low =
    let same : item_at first s ≡ unary_at first (down 9 (Chained s)) =
    item_else first s q ∙ passed (is_plain (sort first)) _ _ e in
    let alike : over (item_opens (holders s) (sort first))
    ≡ over (unary_opens (suc (holders s)) (sort first)) =
    over_alike (holders s) (signed (sort first)) low in
    rw (cut, same, alike) refl

plain_signless : (x : Sort) → is_plain x ≡ true → unary_of x ≡ None
plain_signless sorts.Plus e = cc
plain_signless sorts.Minus e = cc
plain_signless sorts.Not e = cc
plain_signless sorts.Flip e = cc
plain_signless _ e = refl

pub word_turns : (ts : Tokens) (first : Token) (on : Tokens) (s : ItemStack) → ts ≡ first ∷ on
    → NotQuoted (sort first) → is_plain (sort first) ≡ true → over (suc (holders s)) ≡ false
    → run ts (NeedItem s) ≡ run on (ItemWord first s)
word_turns ts first on s cut q e low =
    let same : item_at first s ≡ Some (ItemWord first s) =
    item_else first s q ∙ ap (λ b. when_that b (ItemWord first s)
    (unary_at first (down 9 (Chained s)))) e in
    let bare : unary_of (sort first) ≡ None = plain_signless (sort first) e in
    rw (cut, same, bare, low) refl

-- ---- operands

pub sign_turns : (ts : Tokens) (first : Token) (on : Tokens) (n : NodeStack zero) (op : UnaryOp)
    → ts ≡ first ∷ on → unary_of (sort first) ≡ Some op → over (suc (node_holders n)) ≡ false
    → run ts (NeedUnary n) ≡ run on (NeedUnary (Signed op first.place n))
sign_turns ts first on n op cut e low = let to = unary_sign first n op e in
    rw (cut, to, e, low) refl

pub unsigned : (ts : Tokens) (first : Token) (on : Tokens) → ts ≡ first ∷ on → unary_of (sort first)
    ≡ None → NoSign ts
unsigned ts first on cut e = rw cut e

pub parens_turn : (ts : Tokens) (first : Token) (on : Tokens) (n : NodeStack zero) → ts ≡ first ∷ on
    → at sorts.Open (sort first) ≡ true → run ts (NeedUnary n)
    ≡ run on (NeedItem (InParens first.place n))
parens_turn ts first on n cut e = let k = at_true sorts.Open (sort first) e in rw (cut, k) refl

pub signed_done : (ts : Tokens) (op : UnaryOp) (p : Place) (x : Node) (n : NodeStack zero)
    → run ts (HasNode x (Signed op p n)) ≡ run ts (HasNode (nodes.Unary p op x) n)
signed_done [] op p x n = refl
signed_done (t ∷ ts) op p x n = refl

pub last_argument : (ts : Tokens) (f : Token) (is new : List Item) (i : Item) (n : NodeStack zero)
    → NotAt sorts.Comma ts → new ≡ is ++ i ∷ [] → run ts (HasItem i (InCall f is n))
    ≡ run ts (Takes (Closes Parens) (λ t. HasPrimary (called f new) n))
last_argument [] f is new i n h pushed = refl
last_argument (t ∷ ts) f is new i n h pushed = rw (h, pushed) refl

pub more_arguments : (ts on : Tokens) (f : Token) (is new : List Item) (i : Item)
    (n : NodeStack zero) → IsAt sorts.Comma ts on → new ≡ is ++ i ∷ []
    → run ts (HasItem i (InCall f is n)) ≡ run on (NeedItem (InCall f new n))
more_arguments ts on f is new i n h pushed = let c = h.1 in let e = h.2 in rw (c, e, pushed) refl

pub index_turns : (ts on : Tokens) (x : Node) (n : NodeStack zero) → IsAt sorts.OpenBracket ts on
    → run ts (HasPrimary x n) ≡ run on (NeedItem (InIndex x n))
index_turns ts on x n h = let c = h.1 in let e = h.2 in rw (c, e) refl

pub indexes_done : (ts : Tokens) (x : Node) (n : NodeStack zero) → NotAt sorts.OpenBracket ts
    → run ts (HasPrimary x n) ≡ run ts (HasNode x n)
indexes_done [] x n h = refl
indexes_done (t ∷ ts) x n h = rw h refl

-- ---- blocks and other items

pub in_block : (ts : Tokens) (p : Place) (is : List Item) (s : ItemStack)
    → NotAt sorts.CloseBrace ts → run ts (BlockOpen p is s) ≡ run ts (NeedItem (InBlock p is s))
in_block [] p is s h = refl
in_block (t ∷ ts) p is s h = rw h refl

pub block_goes_on : (ts on : Tokens) (p : Place) (is new : List Item) (i : Item) (s : ItemStack)
    → IsAt sorts.Semicolon ts on → new ≡ is ++ i ∷ [] → run ts (HasItem i (InBlock p is s))
    ≡ run on (BlockOpen p new s)
block_goes_on ts on p is new i s h pushed = let c = h.1 in let e = h.2 in rw (c, e, pushed) refl

pub last_of_block : (ts : Tokens) (p : Place) (is new : List Item) (i : Item) (s : ItemStack)
    → NotAt sorts.Semicolon ts → new ≡ is ++ i ∷ [] → run ts (HasItem i (InBlock p is s))
    ≡ run ts (Takes (Closes Braces) (λ t. HasItem (block p new) s))
last_of_block [] p is new i s h pushed = refl
last_of_block (t ∷ ts) p is new i s h pushed = rw (h, pushed) refl

pub last_done : (ts : Tokens) (make : Item → Item) (i : Item) (s : ItemStack)
    → run ts (HasItem i (InParts (Last make) s)) ≡ run ts (HasItem (make i) s)
last_done [] make i s = refl
last_done (t ∷ ts) make i s = refl

pub else_turns : (ts on : Tokens) (make : Item → Option Item → Item) (i : Item) (s : ItemStack)
    → IsAt sorts.Else ts on → run ts (HasItem i (InParts (MayElse make) s))
    ≡ run on (NeedItem (InParts (Last (λ b. make i (Some b))) s))
else_turns ts on make i s h = let c = h.1 in let e = h.2 in rw (c, e) refl

pub no_else : (ts : Tokens) (make : Item → Option Item → Item) (i : Item) (s : ItemStack)
    → NotAt sorts.Else ts → run ts (HasItem i (InParts (MayElse make) s))
    ≡ run ts (HasItem (make i None) s)
no_else [] make i s h = refl
no_else (t ∷ ts) make i s h = rw h refl

pub item_call : (ts on : Tokens) (f : Token) (s : ItemStack) → IsAt sorts.Open ts on
    → run ts (ItemWord f s) ≡ run on (CallOpen f (down 9 (Chained s)))
item_call ts on f s h = let c = h.1 in let e = h.2 in rw (c, e) refl

pub reference_index : (ts on : Tokens) (f : Token) (is : List Item) (x : Node) (s : ItemStack)
    → IsAt sorts.OpenBracket ts on → run ts (HasReference f is x s)
    ≡ run on (NeedItem (InReference f is x s))
reference_index ts on f is x s h = let c = h.1 in let e = h.2 in rw (c, e) refl

pub assign_turns : (ts on : Tokens) (f : Token) (is : List Item) (x : Node) (s : ItemStack)
    → IsAt sorts.Assign ts on → run ts (HasReference f is x s)
    ≡ run on (NeedItem (InParts (right_side (reference f is)) s))
assign_turns ts on f is x s h = let c = h.1 in let e = at_true sorts.Assign (sort h.0) h.2 in
    rw (c, e) refl

-- ---- chains

pub chained : (ts : Tokens) (x : Node) (s : ItemStack) → run ts (HasNode x (Chained s))
    ≡ run ts (HasItem (plain x) s)
chained [] x s = refl
chained (t ∷ ts) x s = refl

-- a function of the line reads a chain of it, from what its first operand leads to
abbrev pub ReadsChain : ℕ → Tokens → (NodeStack zero → State) → Node → Tokens → ℕ → Type 0
ReadsChain d ts from x rest l =
    (n : NodeStack l) → node_holders n ≡ d → run ts (from (down l n)) ≡ run rest (HasNode x n)

-- the loop: operands of the line above k were read
abbrev pub ReadsFirst : ℕ → Tokens → (NodeStack zero → State) → Node → Tokens → ℕ → Type 0
ReadsFirst d ts from x rest k =
    (n : NodeStack (suc k)) → node_holders n ≡ d → run ts (from (down (suc k) n))
    ≡ run rest (HasNode x (First n))

pub chain_init : (d : ℕ) (ts rest : Tokens) (from : NodeStack zero → State) (x : Node) (l k : ℕ) → l
    ≡ suc k → ReadsChain d ts from x rest (l - 1) → ReadsFirst d ts from x rest k
chain_init d ts rest from x l k e h n dn = let q : l - 1 ≡ k = omega arith in
    let g : ReadsChain d ts from x rest k = subst (λ (m : ℕ). ReadsChain d ts from x rest m) q h in
    g (First n) dn

operand_done : (k : ℕ) (ts : Tokens) (op : Operator) (a x : Node) (n : NodeStack (suc k))
    → run ts (HasNode x (Operand op a n)) ≡ run ts (HasNode (joined op a x) (First n))
operand_done k [] op a x n = refl
operand_done k (t ∷ ts) op a x n = refl

operator_turns : (k : ℕ) (rest on : Tokens) (op : Operator) (x : Node) (n : NodeStack (suc k))
    → IsOperator (suc k) rest op on → run rest (HasNode x (First n))
    ≡ run on (NeedUnary (down k (Operand op x n)))
operator_turns k rest on op x n h = let c = h.1 in let e = h.2 in rw (c, e) refl

pub chain_next : (d : ℕ) (ts rest on more : Tokens) (from : NodeStack zero → State) (x y z : Node)
    (op : Operator) (l k : ℕ) → l ≡ suc k → ReadsFirst d ts from x rest k → IsOperator l rest op on
    → ReadsChain d on (λ n. NeedUnary n) y more (l - 1) → z ≡ joined op x y
    → ReadsFirst d ts from z more k
chain_next d ts rest on more from x y z op l k e so_far o h made n dn =
    let q : l - 1 ≡ k = omega arith in
    let g : ReadsChain d on (λ n. NeedUnary n) y more k =
    subst (λ (m : ℕ). ReadsChain d on (λ n. NeedUnary n) y more m) q h in
    let o2 : IsOperator (suc k) rest op on = subst (λ (m : ℕ). IsOperator m rest op on) e o in
    so_far n dn ∙ operator_turns k rest on op x n o2 ∙ g (Operand op x n) dn
    ∙ operand_done k more op x y n ∙ ap (λ (v : Node). run more (HasNode v (First n)))
    (sym made)

first_done : (k : ℕ) (rest : Tokens) (x : Node) (n : NodeStack (suc k)) → NoOperator (suc k) rest
    → run rest (HasNode x (First n)) ≡ run rest (HasNode x n)
first_done k [] x n h = refl
first_done k (t ∷ ts) x n h = rw h refl

pub chain_end : (d : ℕ) (ts rest : Tokens) (from : NodeStack zero → State) (x : Node) (l k : ℕ) → l
    ≡ suc k → ReadsFirst d ts from x rest k → NoOperator l rest → ReadsChain d ts from x rest l
chain_end d ts rest from x l k e so_far none =
    let o : NoOperator (suc k) rest = subst (λ (m : ℕ). NoOperator m rest) e none in
    let g : ReadsChain d ts from x rest (suc k) = λ n dn. so_far n dn ∙ first_done k rest x n o in
    subst (λ (m : ℕ). ReadsChain d ts from x rest m) (sym e) g

-- a line of chains fails where its first chain does, or a later one
pub first_fails : (d : ℕ) (q : Stopped) (ts : Tokens) (from : NodeStack zero → State) (l : ℕ)
    → l ≢ 0 → ((n : NodeStack (l - 1)) → node_holders n
    ≡ d → Fails q (run ts (from (down (l - 1) n))))
    → (n : NodeStack l) → node_holders n ≡ d → Fails q (run ts (from (down l n)))
first_fails d q ts from zero ne h = absurd (ne refl)
first_fails d q ts from (suc k) ne h =
    let m : suc k - 1 ≡ k = omega arith in
    let f : (n : NodeStack k) → node_holders n ≡ d → Fails q (run ts (from (down k n))) =
    subst (λ (j : ℕ). (n : NodeStack j) → node_holders n
    ≡ d → Fails q (run ts (from (down j n)))) m h in
    λ n dn. f (First n) dn

pub chain_fails : (d : ℕ) (q : Stopped) (ts rest on : Tokens) (from : NodeStack zero → State)
    (x : Node) (op : Operator) (l k : ℕ) → l ≡ suc k → ReadsFirst d ts from x rest k
    → IsOperator l rest op on
    → ((n : NodeStack (l - 1)) → node_holders n ≡ d → Fails q (run on (NeedUnary (down (l - 1) n))))
    → (n : NodeStack l) → node_holders n ≡ d → Fails q (run ts (from (down l n)))
chain_fails d q ts rest on from x op l k e so_far o h =
    let m : l - 1 ≡ k = omega arith in
    let f : (n : NodeStack k) → node_holders n ≡ d → Fails q (run on (NeedUnary (down k n))) =
    subst (λ (j : ℕ). (n : NodeStack j) → node_holders n
    ≡ d → Fails q (run on (NeedUnary (down j n)))) m h in
    let o2 : IsOperator (suc k) rest op on = subst (λ (j : ℕ). IsOperator j rest op on) e o in
    let g : (n : NodeStack (suc k)) → node_holders n ≡ d
    → Fails q (run ts (from (down (suc k) n))) =
    λ n dn. fails_along q _ _ (so_far n dn ∙ operator_turns k rest on op x n o2)
    (f (Operand op x n) dn) in
    subst (λ (j : ℕ). (n : NodeStack j) → node_holders n ≡ d → Fails q (run ts (from (down j n))))
    (sym e) g

-- a chain of line 0 is its operand
pub at_zero : (d : ℕ) (ts : Tokens) (x : Node) (l : ℕ) → l ≡ 0
    → ReadsChain d ts (λ n. HasNode x n) x ts l
at_zero d ts x l e = let g : ReadsChain d ts (λ n. HasNode x n) x ts zero = λ n dn. refl in
    subst (λ (m : ℕ). ReadsChain d ts (λ n. HasNode x n) x ts m) (sym e) g

no_operator : (l : ℕ) (ts : Tokens) → ends_chains ts ≡ true → NoOperator (suc l) ts
no_operator l [] h = tt
no_operator l (t ∷ ts) h =
    op_none (suc l) (sort t) (λ e. omega (arith, eqb-true (level (sort t)) 0 h, e))

-- where no operator stands, a chain of any line is its operand
pub at_operand : (d : ℕ) (ts : Tokens) (x : Node) (l : ℕ) → ends_chains ts ≡ true
    → ReadsChain d ts (λ n. HasNode x n) x ts l
at_operand d ts x zero h = λ n dn. refl
at_operand d ts x (suc k) h =
    λ n dn. at_operand d ts x k h (First n) dn ∙ first_done k ts x n (no_operator k ts h)

-- a literal with no index and no operator behind it is an item
pub alone : (first : Token) (on : Tokens) (s : ItemStack) (x : Node) → literal (sort first) first
    ≡ Some x → NotAt sorts.OpenBracket on → ends_chains on ≡ true → over (suc (holders s)) ≡ false
    → run (first ∷ on) (NeedItem s) ≡ run on (HasItem (plain x) s)
alone first on s x e n h low =
    let bare = literal_bare (sort first) first x e in
    let unsigned : signed (sort first) ≡ false = bare.1 in
    let at_literal : item_at first s ≡ Some (HasPrimary x (down 9 (Chained s))) =
    item_bare first s bare.0 ∙ some_taken (literal (sort first) first) _ _ x e in
    let turned : run (first ∷ on) (NeedItem s) ≡ run on (HasPrimary x (down 9 (Chained s))) =
    rw (at_literal, unsigned, low) refl in
    turned ∙ indexes_done on x (down 9 (Chained s)) n
    ∙ at_operand (node_holders (Chained s)) on x 9 h (Chained s) refl ∙ chained on x s

pub down_holders : (l : ℕ) (n : NodeStack l) → node_holders (down l n) ≡ node_holders n
down_holders zero n = refl
down_holders (suc l) n = down_holders l (First n)

pub reference_pushed : (ts : Tokens) (f : Token) (is new : List Item) (i : Item) (s : ItemStack)
    → new ≡ is ++ i ∷ [] → run ts (HasReference f (is ++ i ∷ []) (index (indexed (name f) is) i) s)
    ≡ run ts (HasReference f new (indexed (name f) new) s)
reference_pushed ts f is new i s e = let q = indexed_push (name f) is i in rw (e, q) refl
