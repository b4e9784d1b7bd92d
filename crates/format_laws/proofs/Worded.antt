-- Trees whose words are words, whose Ints are within their range and whose texts are UTF-8, as
-- those of a file are.
use Rattle.std.specs.Prelude.{◌≡◌, ℕ, ◌^◌, ◌<◌, ℤ, pos, List, [], ◌∷◌, Option, Some, None}
use Rattle.std.specs.Str.{IsUtf8}
use Rattle.pan_ast.specs.Types.{FullType, Full, TypeForm, Formed, Head, Field, Fields}
use Rattle.pan_ast.specs.Types as types
use Rattle.pan_ast.specs.Templates.{StatementForm}
use Rattle.pan_ast.specs.Templates as statements
use Rattle.pan_ast.specs.Syntax.{Item, Node, Reference, Items, none, more, Block, If, IfElse, While, For, Foreach, Assign, Plain, Refer, Long, Text, Boolean, Undef, Null, Name, Call, Inside, Index, Unary, Binary, And, Or}
use Rattle.format_laws.proofs.Reading.{IsWord}

abbrev pub IsInRange : ℤ → Type 0
IsInRange n = (m : ℕ) × (n ≡ pos m) × (m < 2 ^ 63)

abbrev mutual
  pub item_words : Item → Type 0
  item_words (Block p is) = items_words is
  item_words (If p c a) = item_words c × item_words a
  item_words (IfElse p c a b) = item_words c × item_words a × item_words b
  item_words (While p c b) = item_words c × item_words b
  item_words (For p a c n b) = item_words a × item_words c × item_words n × item_words b
  item_words (Foreach p k v r b) = IsWord k × IsWord v × item_words r × item_words b
  item_words (Assign p r i) = reference_words r × item_words i
  item_words (Plain p x) = node_words x

  pub reference_words : Reference → Type 0
  reference_words (Refer p x is) = IsWord x × items_words is

  pub node_words : Node → Type 0
  node_words (Long p n) = IsInRange n
  node_words (Text p x) = IsUtf8 x
  node_words (Boolean p b) = Unit {0}
  node_words (Undef p) = Unit {0}
  node_words (Null p) = Unit {0}
  node_words (Name p x) = IsWord x
  node_words (Call p f is) = IsWord f × items_words is
  node_words (Inside p i) = item_words i
  node_words (Index p x i) = node_words x × item_words i
  node_words (Unary p op x) = node_words x
  node_words (Binary p op a b) = node_words a × node_words b
  node_words (And p a b) = node_words a × node_words b
  node_words (Or p a b) = node_words a × node_words b

  pub items_words : Items → Type 0
  items_words none = Unit {0}
  items_words (more i is) = item_words i × items_words is

abbrev pub option_words : Option Item → Type 0
option_words None = Unit {0}
option_words (Some i) = item_words i

abbrev pub are_texts : List (List ℕ) → Type 0
are_texts [] = Unit {0}
are_texts (x ∷ xs) = IsUtf8 x × are_texts xs

abbrev mutual
  pub full_words : FullType → Type 0
  full_words (Full f e w) = type_words f × option_words e × option_words w

  pub type_words : TypeForm → Type 0
  type_words (Formed h ss) = head_words h

  pub head_words : Head → Type 0
  head_words (types.Named x p b) = IsWord x
  head_words (types.Record extensible fs) = fields_words fs
  head_words (types.Choice xs) = are_texts xs

  pub fields_words : Fields → Type 0
  fields_words types.none = Unit {0}
  fields_words (types.more f fs) = field_words f × fields_words fs

  pub field_words : Field → Type 0
  field_words (types.Own key p required f) = IsUtf8 key × full_words f
  field_words (types.Include p x q) = IsWord x

abbrev pub form_words : StatementForm → Type 0
form_words (statements.Assign l p c i) = IsUtf8 p × item_words i
form_words (statements.Variable l x c i) = IsWord x × item_words i
form_words (statements.Function x i) = IsWord x × item_words i
form_words (statements.Define x f) = IsWord x × full_words f
form_words (statements.Bind p f) = IsUtf8 p × full_words f
form_words (statements.Valid p i) = IsUtf8 p × item_words i
form_words (statements.Include i) = item_words i
form_words (statements.Prefix p) = IsUtf8 p
