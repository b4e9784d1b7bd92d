-- What is open while tokens are read: what waits for the item, the node or the type that is read,
-- from the inside out.
use Rattle.std.specs.Prelude.{ℕ, zero, suc, ℤ, Bool, ◌&&◌, List, Option}
use Rattle.path_tree.specs.Grammar.{is_name}
use Rattle.path_tree.specs.declared.operators.UnaryOp.{UnaryOp}
use Rattle.pan_ast.specs.declared.sort.Sort.{Sort}
use Rattle.pan_ast.specs.declared.sort.Sort.TheVariants as sorts
use Rattle.pan_ast.specs.declared.token.Token.{Token}
use Rattle.pan_ast.specs.declared.place.Place.{Place}
use Rattle.pan_ast.specs.declared.types.Bounds.{Bounds}
use Rattle.pan_ast.specs.declared.types.Suffix.{Suffix}
use Rattle.pan_ast.specs.Sorts.{sort, at, is_word, is_type_name}
use Rattle.pan_ast.specs.Syntax.{Item, Node, Reference, choice}
use Rattle.pan_ast.specs.Syntax as nodes
use Rattle.pan_ast.specs.Types.{FullType, TypeForm, Head, Field}
use Rattle.pan_ast.specs.Templates.{Statement, Template}
use Rattle.pan_grammar.specs.Grammar.{assigned, Operator}
use Rattle.pan_grammar.specs.Types.{is_mark}
use Rattle.pan_grammar.specs.Templates.{is_setting, Header}

-- what waits for a full type: a statement, by those before it and by how the type makes it; or a
-- field, by its key, the sign after it, whether the record is extensible, the fields before, and
-- what waits for the record's full type
pub data FullStack : Type 0 where
  StatementType : Header → List Statement → (FullType → Statement) → FullStack
  InField : Token → Token → Bool → List Field → FullStack → FullStack

-- what waits for an item, and is no item itself
pub data Hole : Type 0 where
  StatementItem : Header → List Statement → (Item → Statement) → Hole
  AfterEquals : TypeForm → FullStack → Hole
  AfterWith : TypeForm → Option Item → FullStack → Hole

pub data Divider : Type 0 where
  AtSemicolon AtClose : Divider

abbrev pub divider : Divider → Sort
divider AtSemicolon = sorts.Semicolon
divider AtClose = sorts.Close

-- the parts of an item from an awaited item on: it is the last; or a sign and further parts follow
-- it; or perhaps an `else` does
pub data Parts : Type 0 where
  Last : (Item → Item) → Parts
  Further : Divider → (Item → Parts) → Parts
  MayElse : (Item → Option Item → Item) → Parts

abbrev pub if_parts : Place → Parts
if_parts p = Further AtClose (λ c. MayElse (λ a b. choice p c a b))

abbrev pub while_parts : Place → Parts
while_parts p = Further AtClose (λ c. Last (λ b. nodes.While p c b))

abbrev pub for_parts : Place → Parts
for_parts p = Further AtSemicolon (λ a. Further AtSemicolon
    (λ c. Further AtClose (λ n. Last (λ b. nodes.For p a c n b))))

abbrev pub foreach_parts : Place → List ℕ → List ℕ → Parts
foreach_parts p k v = Further AtClose (λ r. Last (λ b. nodes.Foreach p k v r b))

abbrev pub right_side : Reference → Parts
right_side r = Last (λ y. assigned r y)

-- what waits for an item, and what waits for a node of a level, from the inside out
mutual
  pub data ItemStack : Type 0 where
    Out : Hole → ItemStack
    InBlock : Place → List Item → ItemStack → ItemStack
    InParts : Parts → ItemStack → ItemStack
    InReference : Token → List Item → Node → ItemStack → ItemStack
    InIndex : Node → NodeStack zero → ItemStack
    InParens : Place → NodeStack zero → ItemStack
    InCall : Token → List Item → NodeStack zero → ItemStack

  pub data NodeStack : ℕ → Type 0 where
    Chained : ItemStack → NodeStack 9
    Signed : UnaryOp → Place → NodeStack zero → NodeStack zero
    First : {l : ℕ} → NodeStack (suc l) → NodeStack l
    Operand : {l : ℕ} → Operator → Node → NodeStack (suc l) → NodeStack l

-- down to a Unary of an operand
abbrev pub down : (l : ℕ) → NodeStack l → NodeStack zero
down zero n = n
down (suc l) n = down l (First n)

-- a sign that closes Bounds
pub data Closing : Type 0 where
  Parens Brackets Braces : Closing

abbrev pub closing : Closing → Sort
closing Parens = sorts.Close
closing Brackets = sorts.CloseBracket
closing Braces = sorts.CloseBrace

-- the tokens that stand alone at their place
pub data Wanted : Type 0 where
  ATemplate AName ASemicolon AnAssign ASetting AText AWord ATypeName AnInt AnOpen AnOpenBrace
      AMark : Wanted
  Closes : Closing → Wanted

abbrev pub fits : Wanted → Token → Bool
fits ATemplate t = at sorts.Template (sort t)
fits AName t = at sorts.Name (sort t) && is_name t.value
fits ASemicolon t = at sorts.Semicolon (sort t)
fits AnAssign t = at sorts.Assign (sort t)
fits ASetting t = is_setting (sort t)
fits AText t = at sorts.Text (sort t)
fits AWord t = is_word (sort t)
fits ATypeName t = is_type_name (sort t)
fits AnInt t = at sorts.Int (sort t)
fits AnOpen t = at sorts.Open (sort t)
fits AnOpenBrace t = at sorts.OpenBrace (sort t)
fits AMark t = is_mark (sort t)
fits (Closes c) t = at (closing c) (sort t)

pub data State : Type 0 where
  Start : State
  -- one token, and then the state that it leads to
  Takes : Wanted → (Token → State) → State
  -- the statements before
  Statements : Header → List Statement → State
  FinalRead : Place → Header → List Statement → State
  IncludeRead : Place → Header → List Statement → State
  NeedFull : FullStack → State
  NameRead : Token → FullStack → State
  TextsOpen : List (List ℕ) → FullStack → State
  FieldsOpen : Bool → List Field → FullStack → State
  HasHead : Head → List Suffix → FullStack → State
  -- a number, Bounds, or perhaps Bounds, and then the state that they lead to
  NeedSigned : (ℤ → State) → State
  NeedBounds : Closing → (Bounds → State) → State
  HasLow : Closing → Place → ℤ → (Bounds → State) → State
  RangeRead : Closing → Place → ℤ → (Bounds → State) → State
  RangeOpen : Closing → (Option Bounds → State) → State
  NeedItem : ItemStack → State
  NeedUnary : NodeStack zero → State
  BlockOpen : Place → List Item → ItemStack → State
  WordRead : Token → NodeStack zero → State
  ItemWord : Token → ItemStack → State
  HasReference : Token → List Item → Node → ItemStack → State
  CallOpen : Token → NodeStack zero → State
  HasItem : Item → ItemStack → State
  HasPrimary : Node → NodeStack zero → State
  HasNode : {l : ℕ} → Node → NodeStack l → State
  Done : Template → State
