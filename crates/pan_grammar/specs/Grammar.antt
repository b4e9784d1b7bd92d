-- Items. IsX d ts x rest says that an X stands at the front of the tokens ts, that x is its tree,
-- and that rest stands after it; d constructs that count for the limit of nesting hold it.
use Rattle.std.specs.Prelude.{◌≡◌, ◌≢◌, ℕ, zero, suc, ◌-◌, ◌^◌, min, ℤ, pos, true, false, List, [], ◌∷◌, Option, Some, None, ◌==◌, if◌then◌else◌}
use Rattle.path_tree.specs.Grammar.{number_of}
use Rattle.path_tree.specs.declared.operators.UnaryOp.{UnaryOp}
use Rattle.path_tree.specs.declared.operators.UnaryOp.TheVariants as unary
use Rattle.path_tree.specs.declared.operators.BinaryOp.{BinaryOp}
use Rattle.path_tree.specs.declared.operators.BinaryOp.TheVariants as binary
use Rattle.pan_ast.specs.declared.sort.Sort.{Sort}
use Rattle.pan_ast.specs.declared.sort.Sort.TheVariants as sorts
use Rattle.pan_ast.specs.declared.token.Token.{Token}
use Rattle.pan_ast.specs.declared.place.Place.{Place}
use Rattle.pan_ast.specs.Sorts.{sort, is_word, is_plain}
use Rattle.pan_ast.specs.Syntax.{Item, Node, Reference, items_of, node_place, choice}
use Rattle.pan_ast.specs.Syntax as trees

abbrev pub Tokens : Type 0
Tokens = List Token

-- ---- the trees of the grammar's lines

abbrev pub block : Place → List Item → Item
block p is = trees.Block p (items_of is)

abbrev pub plain : Node → Item
plain x = trees.Plain (node_place x) x

abbrev pub reference : Token → List Item → Reference
reference t is = trees.Refer t.place t.value (items_of is)

abbrev pub reference_place : Reference → Place
reference_place (trees.Refer p n is) = p

abbrev pub assigned : Reference → Item → Item
assigned r y = trees.Assign (reference_place r) r y

abbrev pub name : Token → Node
name t = trees.Name t.place t.value

abbrev pub called : Token → List Item → Node
called t is = trees.Call t.place t.value (items_of is)

abbrev pub inside : Place → Item → Node
inside p i = trees.Inside p i

abbrev pub index : Node → Item → Node
index x i = trees.Index (node_place x) x i

-- the number of an Int
abbrev pub number : Token → ℤ
number t = pos (min (number_of t.value) (2 ^ 63 - 1))

-- ---- the tables of the grammar's words and signs

-- Int | Text | "true" | "false" | "undef" | "null"
abbrev pub literal : Sort → Token → Option Node
literal sorts.Int t = Some (trees.Long t.place (number t))
literal sorts.Text t = Some (trees.Text t.place t.value)
literal sorts.True t = Some (trees.Boolean t.place true)
literal sorts.False t = Some (trees.Boolean t.place false)
literal sorts.Undef t = Some (trees.Undef t.place)
literal sorts.Null t = Some (trees.Null t.place)
literal _ t = None

-- "+" | "-" | "!" | "~" before a Unary
abbrev pub unary_of : Sort → Option UnaryOp
unary_of sorts.Plus = Some unary.Plus
unary_of sorts.Minus = Some unary.Minus
unary_of sorts.Not = Some unary.Not
unary_of sorts.Flip = Some unary.Flip
unary_of _ = None

-- the line of chains that an operator belongs to, from Product, which is 1, to Or, which is 9; 0
-- for all else
abbrev pub level : Sort → ℕ
level sorts.Star = 1
level sorts.Slash = 1
level sorts.Percent = 1
level sorts.Plus = 2
level sorts.Minus = 2
level sorts.Less = 3
level sorts.LessEqual = 3
level sorts.More = 3
level sorts.MoreEqual = 3
level sorts.Equal = 4
level sorts.NotEqual = 4
level sorts.BitAnd = 5
level sorts.BitXor = 6
level sorts.BitOr = 7
level sorts.And = 8
level sorts.Or = 9
level _ = 0

-- an operator of two operands; `&&` and `||` have nodes of their own
pub data Operator : Type 0 where
  Of : BinaryOp → Operator
  Both : Operator
  Either : Operator

abbrev pub operator : Sort → Operator
operator sorts.Star = Of binary.Multiply
operator sorts.Slash = Of binary.Divide
operator sorts.Percent = Of binary.Rest
operator sorts.Plus = Of binary.Add
operator sorts.Minus = Of binary.Subtract
operator sorts.Less = Of binary.Less
operator sorts.LessEqual = Of binary.LessEqual
operator sorts.More = Of binary.More
operator sorts.MoreEqual = Of binary.MoreEqual
operator sorts.Equal = Of binary.Equal
operator sorts.NotEqual = Of binary.NotEqual
operator sorts.BitAnd = Of binary.BitAnd
operator sorts.BitXor = Of binary.BitXor
operator sorts.BitOr = Of binary.BitOr
operator sorts.And = Both
operator _ = Either

-- the operator of a line of chains
abbrev pub op_of : ℕ → Sort → Option Operator
op_of l s = if level s == l then Some (operator s) else None

abbrev pub joined : Operator → Node → Node → Node
joined (Of op) a b = trees.Binary (node_place a) op a b
joined Both a b = trees.And (node_place a) a b
joined Either a b = trees.Or (node_place a) a b

abbrev pub NotElse : Tokens → Type 0
NotElse [] = Unit {0}
NotElse (t ∷ ts) = sort t ≢ sorts.Else

-- ---- the lines

-- May d ts says that a construct of depth d may begin at ts; the constructs that count are an Item
-- and a Unary with a sign here, and a Type and a Record in Types.
module _ (May : ℕ → Tokens → Type 0) where
  mutual
    -- Item = Block | "if" "(" Item ")" Item [ "else" Item ] | "while" "(" Item ")" Item
    --      | "for" "(" Item ";" Item ";" Item ")" Item
    --      | "foreach" "(" Word ";" Word ";" Item ")" Item
    --      | Reference "=" Item | Or
    -- An "if" without "else" is not followed by "else".
    pub data IsItem : ℕ → Tokens → Item → Tokens → Type 0 where
      a_block : {d : ℕ} {t : Token} {ts rest : Tokens} {is : List Item}
          → May (suc d) (t ∷ ts) → sort t ≡ sorts.OpenBrace → IsItems (suc d) ts is rest
          → IsItem d (t ∷ ts) (block t.place is) rest
      an_if : {d : ℕ} {t o k : Token} {ts ts1 rest : Tokens} {c a : Item}
          → May (suc d) (t ∷ o ∷ ts) → sort t ≡ sorts.If → sort o ≡ sorts.Open
          → IsItem (suc d) ts c (k ∷ ts1)
          → sort k ≡ sorts.Close → IsItem (suc d) ts1 a rest → NotElse rest
          → IsItem d (t ∷ o ∷ ts) (choice t.place c a None) rest
      an_if_else : {d : ℕ} {t o k e : Token} {ts ts1 ts2 rest : Tokens} {c a b : Item}
          → May (suc d) (t ∷ o ∷ ts) → sort t ≡ sorts.If → sort o ≡ sorts.Open
          → IsItem (suc d) ts c (k ∷ ts1)
          → sort k ≡ sorts.Close → IsItem (suc d) ts1 a (e ∷ ts2) → sort e ≡ sorts.Else
          → IsItem (suc d) ts2 b rest
          → IsItem d (t ∷ o ∷ ts) (choice t.place c a (Some b)) rest
      a_while : {d : ℕ} {t o k : Token} {ts ts1 rest : Tokens} {c b : Item}
          → May (suc d) (t ∷ o ∷ ts) → sort t ≡ sorts.While → sort o ≡ sorts.Open
          → IsItem (suc d) ts c (k ∷ ts1)
          → sort k ≡ sorts.Close → IsItem (suc d) ts1 b rest
          → IsItem d (t ∷ o ∷ ts) (trees.While t.place c b) rest
      a_for : {d : ℕ} {t o k1 k2 k3 : Token} {ts ts1 ts2 ts3 rest : Tokens} {a c n b : Item}
          → May (suc d) (t ∷ o ∷ ts) → sort t ≡ sorts.For → sort o ≡ sorts.Open
          → IsItem (suc d) ts a (k1 ∷ ts1)
          → sort k1 ≡ sorts.Semicolon → IsItem (suc d) ts1 c (k2 ∷ ts2) → sort k2 ≡ sorts.Semicolon
          → IsItem (suc d) ts2 n (k3 ∷ ts3) → sort k3 ≡ sorts.Close → IsItem (suc d) ts3 b rest
          → IsItem d (t ∷ o ∷ ts) (trees.For t.place a c n b) rest
      a_foreach : {d : ℕ} {t o k s1 v s2 e : Token} {ts ts1 rest : Tokens} {r b : Item}
          → May (suc d) (t ∷ o ∷ k ∷ s1 ∷ v ∷ s2 ∷ ts) → sort t ≡ sorts.Foreach
          → sort o ≡ sorts.Open
          → is_word (sort k) ≡ true → sort s1 ≡ sorts.Semicolon → is_word (sort v) ≡ true
          → sort s2 ≡ sorts.Semicolon
          → IsItem (suc d) ts r (e ∷ ts1) → sort e ≡ sorts.Close → IsItem (suc d) ts1 b rest
          → IsItem d (t ∷ o ∷ k ∷ s1 ∷ v ∷ s2 ∷ ts) (trees.Foreach t.place k.value v.value r b) rest
      an_assign : {d : ℕ} {e : Token} {ts ts1 rest : Tokens} {r : Reference} {y : Item}
          → May (suc d) ts → IsReference (suc d) ts r (e ∷ ts1) → sort e ≡ sorts.Assign
          → IsItem (suc d) ts1 y rest
          → IsItem d ts (assigned r y) rest
      a_chain : {d : ℕ} {ts rest : Tokens} {x : Node}
          → May (suc d) ts → IsChain (suc d) 9 ts x rest → IsItem d ts (plain x) rest

    -- Block = "{" [ Item { ";" Item } [ ";" ] ] "}", after the "{"
    pub data IsItems : ℕ → Tokens → List Item → Tokens → Type 0 where
      no_item : {d : ℕ} {t : Token} {rest : Tokens} → sort t ≡ sorts.CloseBrace
          → IsItems d (t ∷ rest) [] rest
      items_from : {d : ℕ} {ts ts1 rest : Tokens} {i : Item} {is : List Item}
          → IsItem d ts i ts1 → IsMore d ts1 is rest → IsItems d ts (i ∷ is) rest

    pub data IsMore : ℕ → Tokens → List Item → Tokens → Type 0 where
      closed : {d : ℕ} {t : Token} {rest : Tokens} → sort t ≡ sorts.CloseBrace
          → IsMore d (t ∷ rest) [] rest
      closed_late : {d : ℕ} {s t : Token} {rest : Tokens}
          → sort s ≡ sorts.Semicolon → sort t ≡ sorts.CloseBrace → IsMore d (s ∷ t ∷ rest) [] rest
      more : {d : ℕ} {s : Token} {ts ts1 rest : Tokens} {i : Item} {is : List Item}
          → sort s ≡ sorts.Semicolon → IsItem d ts i ts1 → IsMore d ts1 is rest
          → IsMore d (s ∷ ts) (i ∷ is) rest

    -- Reference = Plain { "[" Item "]" }
    pub data IsReference : ℕ → Tokens → Reference → Tokens → Type 0 where
      a_reference : {d : ℕ} {t : Token} {ts rest : Tokens} {is : List Item}
          → is_plain (sort t) ≡ true → IsIndexes d ts is rest
          → IsReference d (t ∷ ts) (reference t is) rest

    pub data IsIndexes : ℕ → Tokens → List Item → Tokens → Type 0 where
      no_index : {d : ℕ} {ts : Tokens} → IsIndexes d ts [] ts
      one_index : {d : ℕ} {o k : Token} {ts ts1 rest : Tokens} {i : Item} {is : List Item}
          → sort o ≡ sorts.OpenBracket → IsItem d ts i (k ∷ ts1) → sort k ≡ sorts.CloseBracket
          → IsIndexes d ts1 is rest → IsIndexes d (o ∷ ts) (i ∷ is) rest

    -- Or = And { "||" And } .. Product = Unary { ("*" | "/" | "%") Unary }: a chain of level 0 is a
    -- Unary, and each further level is a line of chains, from the left
    pub data IsChain : ℕ → ℕ → Tokens → Node → Tokens → Type 0 where
      a_unary : {d : ℕ} {ts rest : Tokens} {x : Node} → IsUnary d ts x rest
          → IsChain d zero ts x rest
      a_line : {d l : ℕ} {ts ts1 rest : Tokens} {a x : Node}
          → IsChain d l ts a ts1 → IsTail d l a ts1 x rest → IsChain d (suc l) ts x rest

    -- x continues a by operators of the level above l
    pub data IsTail : ℕ → ℕ → Node → Tokens → Node → Tokens → Type 0 where
      tail_ends : {d l : ℕ} {x : Node} {ts : Tokens} → IsTail d l x ts x ts
      tail_more : {d l : ℕ} {t : Token} {op : Operator} {ts ts1 rest : Tokens} {a b x : Node}
          → op_of (suc l) (sort t) ≡ Some op → IsChain d l ts b ts1
          → IsTail d l (joined op a b) ts1 x rest
          → IsTail d l a (t ∷ ts) x rest

    -- Unary = ("+" | "-" | "!" | "~") Unary | Primary { "[" Item "]" }
    pub data IsUnary : ℕ → Tokens → Node → Tokens → Type 0 where
      a_sign : {d : ℕ} {t : Token} {op : UnaryOp} {ts rest : Tokens} {x : Node}
          → May (suc d) (t ∷ ts) → unary_of (sort t) ≡ Some op → IsUnary (suc d) ts x rest
          → IsUnary d (t ∷ ts) (trees.Unary t.place op x) rest
      a_primary : {d : ℕ} {ts ts1 rest : Tokens} {x y : Node}
          → IsPrimary d ts x ts1 → IsSuffix d x ts1 y rest → IsUnary d ts y rest

    pub data IsSuffix : ℕ → Node → Tokens → Node → Tokens → Type 0 where
      suffix_ends : {d : ℕ} {x : Node} {ts : Tokens} → IsSuffix d x ts x ts
      an_index : {d : ℕ} {o k : Token} {ts ts1 rest : Tokens} {x y : Node} {i : Item}
          → sort o ≡ sorts.OpenBracket → IsItem d ts i (k ∷ ts1) → sort k ≡ sorts.CloseBracket
          → IsSuffix d (index x i) ts1 y rest → IsSuffix d x (o ∷ ts) y rest

    -- Primary = Int | Text | "true" | "false" | "undef" | "null"
    --         | Plain | Plain "(" [ Item { "," Item } ] ")" | "(" Item ")"
    pub data IsPrimary : ℕ → Tokens → Node → Tokens → Type 0 where
      a_literal : {d : ℕ} {t : Token} {rest : Tokens} {x : Node}
          → literal (sort t) t ≡ Some x → IsPrimary d (t ∷ rest) x rest
      a_name : {d : ℕ} {t : Token} {rest : Tokens} → is_plain (sort t) ≡ true
          → IsPrimary d (t ∷ rest) (name t) rest
      a_call : {d : ℕ} {t o : Token} {ts rest : Tokens} {is : List Item}
          → is_plain (sort t) ≡ true → sort o ≡ sorts.Open → IsArgs d ts is rest
          → IsPrimary d (t ∷ o ∷ ts) (called t is) rest
      parens : {d : ℕ} {o k : Token} {ts rest : Tokens} {i : Item}
          → sort o ≡ sorts.Open → IsItem d ts i (k ∷ rest) → sort k ≡ sorts.Close
          → IsPrimary d (o ∷ ts) (inside o.place i) rest

    -- [ Item { "," Item } ] ")"
    pub data IsArgs : ℕ → Tokens → List Item → Tokens → Type 0 where
      no_arg : {d : ℕ} {t : Token} {rest : Tokens} → sort t ≡ sorts.Close
          → IsArgs d (t ∷ rest) [] rest
      args_from : {d : ℕ} {ts ts1 rest : Tokens} {i : Item} {is : List Item}
          → IsItem d ts i ts1 → IsMoreArgs d ts1 is rest → IsArgs d ts (i ∷ is) rest

    pub data IsMoreArgs : ℕ → Tokens → List Item → Tokens → Type 0 where
      args_end : {d : ℕ} {t : Token} {rest : Tokens} → sort t ≡ sorts.Close
          → IsMoreArgs d (t ∷ rest) [] rest
      more_args : {d : ℕ} {s : Token} {ts ts1 rest : Tokens} {i : Item} {is : List Item}
          → sort s ≡ sorts.Comma → IsItem d ts i ts1 → IsMoreArgs d ts1 is rest
          → IsMoreArgs d (s ∷ ts) (i ∷ is) rest
