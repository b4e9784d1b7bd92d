-- How deep the constructs are that begin at a token.
use Rattle.std.specs.Prelude.{ℕ, suc, Bool, true, false, ◌||◌, is_some, if◌then◌else◌}
use Rattle.pan_ast.specs.declared.sort.Sort.{Sort}
use Rattle.pan_ast.specs.declared.sort.Sort.TheVariants as sorts
use Rattle.pan_ast.specs.declared.token.Token.{Token}
use Rattle.pan_ast.specs.Sorts.{sort, at, is_type_name}
use Rattle.pan_grammar.specs.Grammar.{unary_of}
use Rattle.pan_grammar.specs.States.{FullStack, StatementType, InField, Hole, StatementItem, AfterEquals, AfterWith, ItemStack, Out, InBlock, InParts, InReference, InIndex, InParens, InCall, NodeStack, Chained, Signed, First, Operand, State, IncludeRead, NeedFull, NeedItem, NeedUnary, BlockOpen, CallOpen}

-- how many constructs that count hold what is awaited
abbrev pub full_holders : FullStack → ℕ
full_holders (StatementType h ss make) = 0
full_holders (InField k c e fs s) = suc (suc (full_holders s))

abbrev pub hole_holders : Hole → ℕ
hole_holders (StatementItem h ss make) = 0
hole_holders (AfterEquals f s) = full_holders s
hole_holders (AfterWith f e s) = full_holders s

abbrev mutual
  pub holders : ItemStack → ℕ
  holders (Out o) = hole_holders o
  holders (InBlock p is s) = suc (holders s)
  holders (InParts parts s) = suc (holders s)
  holders (InReference f is x s) = suc (holders s)
  holders (InIndex x n) = node_holders n
  holders (InParens p n) = node_holders n
  holders (InCall f is n) = node_holders n

  pub node_holders : {l : ℕ} → NodeStack l → ℕ
  node_holders (Chained s) = suc (holders s)
  node_holders (Signed op p n) = suc (node_holders n)
  node_holders (First n) = node_holders n
  node_holders (Operand op a n) = node_holders n

abbrev pub signed : Sort → Bool
signed s = is_some (unary_of s)

abbrev pub starts_record : Sort → Bool
starts_record s = at sorts.OpenBrace s || at sorts.Extensible s

-- what an item can begin with
abbrev pub item_start : Sort → Bool
item_start sorts.OpenBrace = true
item_start sorts.If = true
item_start sorts.While = true
item_start sorts.For = true
item_start sorts.Foreach = true
item_start sorts.Int = true
item_start sorts.Text = true
item_start sorts.True = true
item_start sorts.False = true
item_start sorts.Undef = true
item_start sorts.Null = true
item_start sorts.Open = true
item_start sorts.Plus = true
item_start sorts.Minus = true
item_start sorts.Not = true
item_start sorts.Flip = true
item_start sorts.With = true
item_start sorts.Extensible = true
item_start sorts.Include = true
item_start sorts.Choice = true
item_start sorts.Object = true
item_start sorts.Structure = true
item_start sorts.Unique = true
item_start sorts.Declaration = true
item_start sorts.Template = true
item_start sorts.Final = true
item_start sorts.Variable = true
item_start sorts.Function = true
item_start sorts.«Type» = true
item_start sorts.Bind = true
item_start sorts.Valid = true
item_start sorts.Prefix = true
item_start sorts.Word = true
item_start _ = false

-- what a full type can begin with
abbrev pub full_start : Sort → Bool
full_start s =
    is_type_name s || (at sorts.OpenBrace s || (at sorts.Extensible s || at sorts.Choice s))

-- the depth of the deepest construct that begins at a token, or 0
abbrev pub unary_opens : ℕ → Sort → ℕ
unary_opens d s = if signed s then suc d else 0

abbrev pub item_opens : ℕ → Sort → ℕ
item_opens d s = if signed s then suc (suc d) else suc d

abbrev pub full_opens : ℕ → Sort → ℕ
full_opens d s = if starts_record s then suc (suc d) else suc d

abbrev pub opens : State → Token → ℕ
opens (NeedItem s) t = item_opens (holders s) (sort t)
opens (NeedUnary n) t = unary_opens (node_holders n) (sort t)
opens (BlockOpen p is s) t =
    if at sorts.CloseBrace (sort t) then 0 else item_opens (suc (holders s)) (sort t)
opens (CallOpen f n) t = if at sorts.Close (sort t) then 0 else item_opens (node_holders n) (sort t)
opens (NeedFull s) t = full_opens (full_holders s) (sort t)
opens (IncludeRead p h ss) t = 1
opens _ t = 0
