-- The syntax of an item as plain data. Each form has the place of its first token.
use Rattle.std.specs.Prelude.{ℕ, ℤ, Bool, Option, Some, None, List, [], ◌∷◌}
use Rattle.path_tree.specs.declared.operators.UnaryOp.{UnaryOp}
use Rattle.path_tree.specs.declared.operators.BinaryOp.{BinaryOp}
use Rattle.pan_ast.specs.declared.place.Place.{Place}

mutual
  pub data Item : Type 0 where
    Block : Place → Items → Item
    If : Place → Item → Item → Item
    IfElse : Place → Item → Item → Item → Item
    While : Place → Item → Item → Item
    -- first, condition, step, body
    For : Place → Item → Item → Item → Item → Item
    -- the names of key and value, what is walked, body
    Foreach : Place → List ℕ → List ℕ → Item → Item → Item
    Assign : Place → Reference → Item → Item
    Plain : Place → Node → Item
    deriving IsSet as Item-set

  pub data Reference : Type 0 where
    Refer : Place → List ℕ → Items → Reference
    deriving IsSet as Reference-set

  pub data Node : Type 0 where
    Long : Place → ℤ → Node
    Text : Place → List ℕ → Node
    Boolean : Place → Bool → Node
    Undef : Place → Node
    Null : Place → Node
    Name : Place → List ℕ → Node
    Call : Place → List ℕ → Items → Node
    Inside : Place → Item → Node
    Index : Place → Node → Item → Node
    Unary : Place → UnaryOp → Node → Node
    Binary : Place → BinaryOp → Node → Node → Node
    And : Place → Node → Node → Node
    Or : Place → Node → Node → Node
    deriving IsSet as Node-set

  pub data Items : Type 0 where
    none : Items
    more : Item → Items → Items
    deriving IsSet as Items-set

abbrev pub items_of : List Item → Items
items_of [] = none
items_of (i ∷ is) = more i (items_of is)

-- an `if`, with an else part or without
abbrev pub choice : Place → Item → Item → Option Item → Item
choice p c a None = If p c a
choice p c a (Some b) = IfElse p c a b

abbrev pub item_place : Item → Place
item_place (Block p is) = p
item_place (If p c t) = p
item_place (IfElse p c t e) = p
item_place (While p c b) = p
item_place (For p a c n b) = p
item_place (Foreach p k v c b) = p
item_place (Assign p r i) = p
item_place (Plain p n) = p

abbrev pub node_place : Node → Place
node_place (Long p x) = p
node_place (Text p x) = p
node_place (Boolean p x) = p
node_place (Undef p) = p
node_place (Null p) = p
node_place (Name p x) = p
node_place (Call p f is) = p
node_place (Inside p i) = p
node_place (Index p n i) = p
node_place (Unary p op n) = p
node_place (Binary p op a b) = p
node_place (And p a b) = p
node_place (Or p a b) = p

-- what stands to the right of a left operand
pub data Step : Type 0 where
  AtIndex : Item → Step
  AtBinary : BinaryOp → Node → Step
  AtAnd : Node → Step
  AtOr : Node → Step

-- a left operand with one step
abbrev pub stepped : Place → Node → Step → Node
stepped p x (AtIndex i) = Index p x i
stepped p x (AtBinary op y) = Binary p op x y
stepped p x (AtAnd y) = And p x y
stepped p x (AtOr y) = Or p x y

-- a left operand with some steps, from the left
abbrev pub steps_on : Place → Node → List Step → Node
steps_on p x [] = x
steps_on p x (s ∷ ss) = steps_on p (stepped p x s) ss
