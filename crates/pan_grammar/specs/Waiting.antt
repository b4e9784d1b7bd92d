-- What tokens complete what is open to a whole text with the tree z: what the grammar still wants,
-- then what is below.
use Rattle.std.specs.Prelude.{◌≡◌, ℕ, zero, suc, ℤ, Bool, true, ◌⊎◌, List, [], ◌∷◌, ◌++◌, Option, Some, None}
use Rattle.pan_ast.specs.declared.sort.Sort.{Sort}
use Rattle.pan_ast.specs.declared.sort.Sort.TheVariants as sorts
use Rattle.pan_ast.specs.declared.token.Token.{Token}
use Rattle.pan_ast.specs.declared.types.Bounds.{Bounds}
use Rattle.pan_ast.specs.declared.types.Suffix.{Suffix}
use Rattle.pan_ast.specs.Sorts.{sort}
use Rattle.pan_ast.specs.Syntax.{Item, Node, Reference}
use Rattle.pan_ast.specs.Syntax as nodes
use Rattle.pan_ast.specs.Types.{FullType, Full, TypeForm, Formed, Head, Field}
use Rattle.pan_ast.specs.Types as types
use Rattle.pan_ast.specs.Templates.{Statement, Template}
use Rattle.pan_ast.specs.Templates as statements
use Rattle.pan_grammar.specs.Grammar.{Tokens, NotElse, block, plain, reference, assigned, name, called, inside, index, joined, IsItem, IsIndexes, IsItems, IsMore, IsTail, IsUnary, IsSuffix, IsArgs, IsMoreArgs}
use Rattle.pan_grammar.specs.Types.{bounds, named, recorded, own, IsSigned, IsHigh, IsBounds, IsRange, IsBounded, IsSuffixes, IsTexts, IsOption, IsFull, IsFields}
use Rattle.pan_grammar.specs.Templates.{stated, Header, template, IsSetting, IsIncluded, IsStatements, IsTemplate}
use Rattle.pan_grammar.specs.States.{FullStack, StatementType, InField, Hole, StatementItem, AfterEquals, AfterWith, divider, Parts, Last, Further, MayElse, ItemStack, Out, InBlock, InParts, InReference, InIndex, InParens, InCall, NodeStack, Chained, Signed, First, Operand, down, closing, Wanted, fits, State, Start, Takes, Statements, FinalRead, IncludeRead, NeedFull, NameRead, TextsOpen, FieldsOpen, HasHead, NeedSigned, NeedBounds, HasLow, RangeRead, RangeOpen, NeedItem, NeedUnary, BlockOpen, WordRead, ItemWord, HasReference, CallOpen, HasItem, HasPrimary, HasNode, Done}
use Rattle.pan_grammar.specs.Depths.{full_holders, holders, node_holders}

-- one token of a sort
pub data IsOne : Sort → Tokens → Tokens → Type 0 where
  one : {s : Sort} {t : Token} {rest : Tokens} → sort t ≡ s → IsOne s (t ∷ rest) rest

-- the one token t that is wanted
pub data IsThat (w : Wanted) : Token → Tokens → Tokens → Type 0 where
  that : {t : Token} {rest : Tokens} → fits w t ≡ true → IsThat w t (t ∷ rest) rest

module _ (May : ℕ → Tokens → Type 0) where
  -- an else part, if there is one
  pub data IsElse : ℕ → Tokens → Option Item → Tokens → Type 0 where
    no_else : {d : ℕ} {ts : Tokens} → NotElse ts → IsElse d ts None ts
    an_else : {d : ℕ} {e : Token} {ts rest : Tokens} {b : Item} → sort e ≡ sorts.Else
        → IsItem May d ts b rest → IsElse d (e ∷ ts) (Some b) rest

  -- y is a chain of the level of which x is the first Unary
  pub data IsChainFrom : ℕ → ℕ → Node → Tokens → Node → Tokens → Type 0 where
    from_unary : {d : ℕ} {x : Node} {ts : Tokens} → IsChainFrom d zero x ts x ts
    from_line : {d l : ℕ} {x a y : Node} {ts ts1 rest : Tokens} → IsChainFrom d l x ts a ts1
        → IsTail May d l a ts1 y rest → IsChainFrom d (suc l) x ts y rest

  -- the node goes on as a chain, or the word and its indexes are assigned to
  abbrev pub ReferenceGoes : ℕ → (Item → Tokens → Type 0) → Token → List Item → Node → Tokens
      → Type 0
  ReferenceGoes d go f is x ts =
      ((x1 y : Node) × (ts1 rest : Tokens) × IsSuffix May d x ts x1 ts1
      × IsChainFrom d 9 x1 ts1 y rest × go (plain y) rest)
      ⊎ ((js : List Item) × (y : Item) × (ts1 ts2 rest : Tokens) × IsIndexes May d ts js ts1
      × IsOne sorts.Assign ts1 ts2 × IsItem May d ts2 y rest
      × go (assigned (reference f (is ++ js)) y) rest)

  -- the parts of an item from the item i on
  abbrev pub PartsGo : ℕ → (Item → Tokens → Type 0) → Parts → Item → Tokens → Type 0
  PartsGo d go (Last make) i ts = go (make i) ts
  PartsGo d go (Further k next) i ts = (j : Item) × (ts1 ts2 : Tokens) × IsOne (divider k) ts ts1
      × IsItem May d ts1 j ts2 × PartsGo d go (next i) j ts2
  PartsGo d go (MayElse make) i ts =
      (b : Option Item) × (rest : Tokens) × IsElse d ts b rest × go (make i b) rest

  -- ---- statements and types

  abbrev pub StatementsWait : Header → List Statement → Tokens → Template → Type 0
  StatementsWait h ss ts z =
      (xs : List Statement) × IsStatements May ts xs × (template h (ss ++ xs) ≡ z)

  -- the statement x ends
  abbrev pub StatementEnds : Header → List Statement → Statement → Tokens → Template → Type 0
  StatementEnds h ss x ts z =
      (rest : Tokens) × IsOne sorts.Semicolon ts rest × StatementsWait h (ss ++ x ∷ []) rest z

  -- a type goes on by default and with
  abbrev pub TypeGoes : ℕ → (FullType → Tokens → Type 0) → TypeForm → Tokens → Type 0
  TypeGoes d go f ts = (e w : Option Item) × (ts1 rest : Tokens)
      × IsOption May sorts.Assign d ts e ts1 × IsOption May sorts.With d ts1 w rest
      × go (Full f e w) rest

  -- and before that by suffixes
  abbrev pub HeadGoes : ℕ → (FullType → Tokens → Type 0) → Head → List Suffix → Tokens → Type 0
  HeadGoes d go h ss ts = (sx : List Suffix) × (ts1 : Tokens) × IsSuffixes ts sx ts1
      × TypeGoes d go (Formed h (ss ++ sx)) ts1

  abbrev pub FullWaits : FullStack → FullType → Tokens → Template → Type 0
  FullWaits (StatementType h ss make) f ts z = StatementEnds h ss (make f) ts z
  FullWaits (InField k c e fs s) f ts z = (gs : List Field) × (ts1 : Tokens)
      × IsFields May (suc (suc (full_holders s))) ts gs ts1
      × HeadGoes (full_holders s) (λ g r. FullWaits s g r z) (recorded e (fs ++ own k c f ∷ gs)) []
      ts1

  abbrev pub HeadWaits : Head → List Suffix → FullStack → Tokens → Template → Type 0
  HeadWaits h ss s ts z = HeadGoes (full_holders s) (λ g r. FullWaits s g r z) h ss ts

  abbrev pub FieldsWait : Bool → List Field → FullStack → Tokens → Template → Type 0
  FieldsWait e fs s ts z = (gs : List Field) × (ts1 : Tokens)
      × IsFields May (suc (suc (full_holders s))) ts gs ts1
      × HeadWaits (recorded e (fs ++ gs)) [] s ts1 z

  abbrev pub DefaultWaits : TypeForm → Option Item → FullStack → Tokens → Template → Type 0
  DefaultWaits f e s ts z = (w : Option Item) × (rest : Tokens)
      × IsOption May sorts.With (full_holders s) ts w rest × FullWaits s (Full f e w) rest z

  abbrev pub HoleWaits : Hole → Item → Tokens → Template → Type 0
  HoleWaits (StatementItem h ss make) i ts z = StatementEnds h ss (make i) ts z
  HoleWaits (AfterEquals f s) i ts z = DefaultWaits f (Some i) s ts z
  HoleWaits (AfterWith f e s) i ts z = FullWaits s (Full f e (Some i)) ts z

  -- ---- items

  abbrev mutual
    pub ItemWaits : ItemStack → Item → Tokens → Template → Type 0
    ItemWaits (Out o) i ts z = HoleWaits o i ts z
    ItemWaits (InBlock p is s) i ts z = (js : List Item) × (rest : Tokens)
        × IsMore May (suc (holders s)) ts js rest × ItemWaits s (block p (is ++ i ∷ js)) rest z
    ItemWaits (InParts parts s) i ts z =
        PartsGo (suc (holders s)) (λ j r. ItemWaits s j r z) parts i ts
    ItemWaits (InReference f is x s) i ts z = (ts1 : Tokens) × IsOne sorts.CloseBracket ts ts1
        × ReferenceGoes (suc (holders s)) (λ j r. ItemWaits s j r z) f (is ++ i
        ∷ []) (index x i) ts1
    ItemWaits (InIndex x n) i ts z = (y : Node) × (ts1 rest : Tokens)
        × IsOne sorts.CloseBracket ts ts1 × IsSuffix May (node_holders n) (index x i) ts1 y rest
        × NodeWaits n y rest z
    ItemWaits (InParens p n) i ts z = (y : Node) × (ts1 rest : Tokens) × IsOne sorts.Close ts ts1
        × IsSuffix May (node_holders n) (inside p i) ts1 y rest × NodeWaits n y rest z
    ItemWaits (InCall f is n) i ts z = (js : List Item) × (y : Node) × (ts1 rest : Tokens)
        × IsMoreArgs May (node_holders n) ts js ts1
        × IsSuffix May (node_holders n) (called f (is ++ i ∷ js)) ts1 y rest × NodeWaits n y rest z

    pub NodeWaits : {l : ℕ} → NodeStack l → Node → Tokens → Template → Type 0
    NodeWaits (Chained s) x ts z = ItemWaits s (plain x) ts z
    NodeWaits (Signed op p n) x ts z = NodeWaits n (nodes.Unary p op x) ts z
    NodeWaits (First {l} n) x ts z = (y : Node) × (rest : Tokens)
        × IsTail May (node_holders n) l x ts y rest × NodeWaits n y rest z
    NodeWaits (Operand {l} op a n) x ts z = (y : Node) × (rest : Tokens)
        × IsTail May (node_holders n) l (joined op a x) ts y rest × NodeWaits n y rest z

  -- a node of the grammar, after which the stack waits
  abbrev pub PrimaryWaits : NodeStack zero → Node → Tokens → Template → Type 0
  PrimaryWaits n x ts z = (y : Node) × (rest : Tokens) × IsSuffix May (node_holders n) x ts y rest
      × NodeWaits n y rest z

  -- a call of f after its `(`
  abbrev pub CallWaits : Token → NodeStack zero → Tokens → Template → Type 0
  CallWaits f n ts z = (js : List Item) × (y : Node) × (ts1 rest : Tokens)
      × IsArgs May (node_holders n) ts js ts1 × IsSuffix May (node_holders n) (called f js) ts1 y
      rest × NodeWaits n y rest z

  abbrev pub ItemNeeded : ItemStack → Tokens → Template → Type 0
  ItemNeeded s ts z =
      (i : Item) × (rest : Tokens) × IsItem May (holders s) ts i rest × ItemWaits s i rest z

  abbrev pub UnaryNeeded : NodeStack zero → Tokens → Template → Type 0
  UnaryNeeded n ts z =
      (x : Node) × (rest : Tokens) × IsUnary May (node_holders n) ts x rest × NodeWaits n x rest z

  abbrev pub Completes : State → Tokens → Template → Type 0
  Completes Start ts z = IsTemplate May ts z
  Completes (Takes w next) ts z =
      (t : Token) × (rest : Tokens) × IsThat w t ts rest × Completes (next t) rest z
  Completes (Statements h ss) ts z = StatementsWait h ss ts z
  Completes (FinalRead p h ss) ts z = (x : Statement) × (rest : Tokens)
      × IsSetting May p true ts x rest × StatementsWait h (ss ++ x ∷ []) rest z
  Completes (IncludeRead p h ss) ts z = (i : Item) × (ts1 : Tokens) × IsIncluded May ts i ts1
      × StatementEnds h ss (stated p (statements.Include i)) ts1 z
  Completes (NeedFull s) ts z = (f : FullType) × (rest : Tokens)
      × IsFull May (full_holders s) ts f rest × FullWaits s f rest z
  Completes (NameRead n s) ts z =
      (b : Option Bounds) × (ts1 : Tokens) × IsBounded ts b ts1 × HeadWaits (named n b) [] s ts1 z
  Completes (TextsOpen xs s) ts z = (ys : List (List ℕ)) × (ts1 : Tokens) × IsTexts ts ys ts1
      × HeadWaits (types.Choice (xs ++ ys)) [] s ts1 z
  Completes (FieldsOpen e fs s) ts z = FieldsWait e fs s ts z
  Completes (HasHead h ss s) ts z = HeadWaits h ss s ts z
  Completes (NeedSigned next) ts z =
      (n : ℤ) × (rest : Tokens) × IsSigned ts n rest × Completes (next n) rest z
  Completes (NeedBounds c next) ts z = (b : Bounds) × (ts1 rest : Tokens) × IsBounds ts b ts1
      × IsOne (closing c) ts1 rest × Completes (next b) rest z
  Completes (HasLow c p n next) ts z = (b : Bounds) × (ts1 rest : Tokens) × IsHigh p n ts b ts1
      × IsOne (closing c) ts1 rest × Completes (next b) rest z
  Completes (RangeRead c p n next) ts z =
      ((rest : Tokens) × IsOne (closing c) ts rest
      × Completes (next (bounds p (Some n) None)) rest z)
      ⊎ ((m : ℤ) × (ts1 rest : Tokens) × IsSigned ts m ts1 × IsOne (closing c) ts1 rest
      × Completes (next (bounds p (Some n) (Some m))) rest z)
  Completes (RangeOpen c next) ts z = (b : Option Bounds) × (rest : Tokens)
      × IsRange (closing c) ts b rest × Completes (next b) rest z
  Completes (NeedItem s) ts z = ItemNeeded s ts z
  Completes (NeedUnary n) ts z = UnaryNeeded n ts z
  Completes (BlockOpen p is s) ts z = (js : List Item) × (rest : Tokens)
      × IsItems May (suc (holders s)) ts js rest × ItemWaits s (block p (is ++ js)) rest z
  Completes (WordRead f n) ts z = ((ts1 : Tokens) × IsOne sorts.Open ts ts1 × CallWaits f n ts1 z)
      ⊎ PrimaryWaits n (name f) ts z
  Completes (ItemWord f s) ts z = ((ts1 : Tokens) × IsOne sorts.Open ts ts1
      × CallWaits f (down 9 (Chained s)) ts1 z) ⊎ ReferenceGoes (suc (holders s))
      (λ j r. ItemWaits s j r z) f [] (name f) ts
  Completes (HasReference f is x s) ts z =
      ReferenceGoes (suc (holders s)) (λ j r. ItemWaits s j r z) f is x ts
  Completes (CallOpen f n) ts z = CallWaits f n ts z
  Completes (HasItem i s) ts z = ItemWaits s i ts z
  Completes (HasPrimary x n) ts z = PrimaryWaits n x ts z
  Completes (HasNode x n) ts z = NodeWaits n x ts z
  Completes (Done y) ts z = (ts ≡ []) × (y ≡ z)
