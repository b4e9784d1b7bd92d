-- Reading token by token: where a token leads.
use Rattle.std.specs.Prelude.{ℕ, zero, suc, ℤ, neg_ℤ, Bool, true, false, ◌&&◌, nat_lt, List, [], ◌∷◌, ◌++◌, Option, Some, None, Result, Ok, Err, if◌then◌else◌}
use Rattle.base.specs.declared.limits.TheConstants.{MAX_NESTING}
use Rattle.path_tree.specs.Grammar.{is_key}
use Rattle.pan_ast.specs.declared.sort.Sort.{Sort}
use Rattle.pan_ast.specs.declared.sort.Sort.TheVariants as sorts
use Rattle.pan_ast.specs.declared.token.Token.{Token}
use Rattle.pan_ast.specs.declared.place.Place.{Place}
use Rattle.pan_ast.specs.declared.template.TemplateKind.{TemplateKind}
use Rattle.pan_ast.specs.declared.template.TemplateKind.TheVariants as kinds
use Rattle.pan_ast.specs.declared.types.Bounds.{Bounds}
use Rattle.pan_ast.specs.declared.types.Suffix.{Suffix}
use Rattle.pan_ast.specs.declared.types.Suffix.TheVariants as suffixes
use Rattle.pan_ast.specs.Sorts.{sort, at, is_plain, is_type_name}
use Rattle.pan_ast.specs.Syntax.{Item, Node, Reference, choice}
use Rattle.pan_ast.specs.Syntax as nodes
use Rattle.pan_ast.specs.Types.{FullType, Full, TypeForm, Formed, Head, Field}
use Rattle.pan_ast.specs.Types as types
use Rattle.pan_ast.specs.Templates.{Statement, Template}
use Rattle.pan_ast.specs.Templates as statements
use Rattle.pan_grammar.specs.Grammar.{Tokens, block, plain, reference, name, called, inside, index, number, literal, unary_of, Operator, op_of, joined}
use Rattle.pan_grammar.specs.Types.{bounds, named, recorded, own, included}
use Rattle.pan_grammar.specs.Templates.{stated, conditional, kind_of, Header, template}
use Rattle.pan_grammar.specs.States.{FullStack, StatementType, InField, Hole, StatementItem, AfterEquals, AfterWith, divider, Last, Further, MayElse, if_parts, while_parts, for_parts, foreach_parts, right_side, ItemStack, Out, InBlock, InParts, InReference, InIndex, InParens, InCall, NodeStack, Chained, Signed, First, Operand, down, Closing, Parens, Brackets, Braces, closing, ATemplate, AName, ASemicolon, AnAssign, ASetting, AText, AWord, ATypeName, AnInt, AnOpen, AnOpenBrace, AMark, Closes, fits, State, Start, Takes, Statements, FinalRead, IncludeRead, NeedFull, NameRead, TextsOpen, FieldsOpen, HasHead, NeedSigned, NeedBounds, HasLow, RangeRead, RangeOpen, NeedItem, NeedUnary, BlockOpen, WordRead, ItemWord, HasReference, CallOpen, HasItem, HasPrimary, HasNode, Done}
use Rattle.pan_grammar.specs.Depths.{opens}

-- the first where the test holds, or else the second
abbrev pub when_that : {A : Type 0} → Bool → A → Option A → Option A
when_that b a other = if b then Some a else other

abbrev pub when : {A : Type 0} → Sort → Sort → A → Option A → Option A
when s x a other = when_that (at s x) a other

abbrev pub when_some : {A B : Type 0} → Option A → (A → B) → Option B → Option B
when_some (Some a) f other = Some (f a)
when_some None f other = other

-- ---- statements

-- the item, or the full type, of a statement
abbrev pub item_of : Header → List Statement → (Item → Statement) → State
item_of h ss make = NeedItem (Out (StatementItem h ss make))

abbrev pub full_of : Header → List Statement → (FullType → Statement) → State
full_of h ss make = NeedFull (StatementType h ss make)

-- a statement that begins at p, after the word or the text that tells what it is
abbrev pub path_read : Place → Bool → Header → List Statement → Token → State
path_read p last h ss t = Takes ASetting (λ a. item_of h ss
    (λ i. stated p (statements.Assign last t.value (conditional a) i)))

abbrev pub variable_read : Place → Bool → Header → List Statement → State
variable_read p last h ss = Takes AWord (λ w. Takes ASetting
    (λ a. item_of h ss (λ i. stated p (statements.Variable last w.value (conditional a) i))))

abbrev pub function_read : Place → Header → List Statement → State
function_read p h ss = Takes AWord (λ w. Takes AnAssign
    (λ e. item_of h ss (λ i. stated p (statements.Function w.value i))))

abbrev pub type_read : Place → Header → List Statement → State
type_read p h ss = Takes AWord (λ w. Takes AnAssign
    (λ e. full_of h ss (λ f. stated p (statements.Define w.value f))))

abbrev pub bind_read : Place → Header → List Statement → State
bind_read p h ss = Takes AText (λ x. Takes AnAssign
    (λ e. full_of h ss (λ f. stated p (statements.Bind x.value f))))

abbrev pub valid_read : Place → Header → List Statement → State
valid_read p h ss = Takes AText (λ x. Takes AnAssign
    (λ e. item_of h ss (λ i. stated p (statements.Valid x.value i))))

abbrev pub prefix_read : Place → Header → List Statement → State
prefix_read p h ss = Takes AText (λ x. Takes ASemicolon
    (λ e. Statements h (ss ++ stated p (statements.Prefix x.value) ∷ [])))

abbrev pub setting_at : Place → Bool → Header → List Statement → Token → Option State
setting_at p last h ss t = when sorts.Text (sort t) (path_read p last h ss t)
    (when sorts.Variable (sort t) (variable_read p last h ss) None)

abbrev pub statements_at : Header → List Statement → Token → Option State
statements_at h ss t =
    when sorts.End (sort t) (Done (template h ss))
    (when sorts.Final (sort t) (FinalRead t.place h ss)
    (when sorts.Function (sort t) (function_read t.place h ss)
    (when sorts.«Type» (sort t) (type_read t.place h ss)
    (when sorts.Bind (sort t) (bind_read t.place h ss)
    (when sorts.Valid (sort t) (valid_read t.place h ss)
    (when sorts.Include (sort t) (IncludeRead t.place h ss)
    (when sorts.Prefix (sort t) (prefix_read t.place h ss)
    (setting_at t.place false h ss t))))))))

abbrev pub text_included_read : Place → Header → List Statement → Token → State
text_included_read p h ss t = Takes ASemicolon (λ e. Statements h (ss
    ++ stated p (statements.Include (plain (nodes.Text t.place t.value))) ∷ []))

abbrev pub block_included_read : Place → Header → List Statement → Token → State
block_included_read p h ss t =
    BlockOpen t.place [] (Out (StatementItem h ss (λ i. stated p (statements.Include i))))

abbrev pub included_at : Place → Header → List Statement → Token → Option State
included_at p h ss t = when sorts.Text (sort t) (text_included_read p h ss t)
    (when sorts.OpenBrace (sort t) (block_included_read p h ss t) None)

-- a header that begins at p, after `template`
abbrev pub name_wanted : TemplateKind → Place → State
name_wanted kind p = Takes AName (λ n. Takes ASemicolon
    (λ s. Statements (record { kind = kind; place = p; name = n }) []))

abbrev pub kind_read : Place → TemplateKind → State
kind_read p kind = Takes ATemplate (λ w. name_wanted kind p)

abbrev pub start_at : Token → Option State
start_at t = when sorts.Template (sort t) (name_wanted kinds.Ordinary t.place)
    (when_some (kind_of (sort t)) (kind_read t.place) None)

-- ---- types

abbrev pub minus_read : (ℤ → State) → State
minus_read next = Takes AnInt (λ n. next (neg_ℤ (number n)))

abbrev pub signed_at : (ℤ → State) → Token → Option State
signed_at next t =
    when sorts.Int (sort t) (next (number t)) (when sorts.Minus (sort t) (minus_read next) None)

-- after `..` at the front, and after the second number
abbrev pub high_wanted : Closing → Place → (Bounds → State) → State
high_wanted c p next = NeedSigned (λ n. Takes (Closes c) (λ k. next (bounds p None (Some n))))

abbrev pub high_read : Closing → Place → ℤ → (Bounds → State) → ℤ → State
high_read c p n next m = Takes (Closes c) (λ k. next (bounds p (Some n) (Some m)))

abbrev pub bounds_at : Closing → (Bounds → State) → Token → Option State
bounds_at c next t =
    when sorts.Range (sort t) (high_wanted c t.place next)
    (signed_at (λ n. HasLow c t.place n next) t)

-- after a key, and after `include`
abbrev pub key_read : Token → Bool → List Field → FullStack → State
key_read k extensible fs s = Takes AMark (λ c. NeedFull (InField k c extensible fs s))

abbrev pub include_read : Token → Bool → List Field → FullStack → State
include_read i extensible fs s =
    Takes ATypeName (λ n. FieldsOpen extensible (fs ++ included i n ∷ []) s)

abbrev pub is_key_text : Token → Bool
is_key_text t = at sorts.Text (sort t) && is_key t.value

abbrev pub fields_at : Bool → List Field → FullStack → Token → Option State
fields_at extensible fs s t =
    when_that (is_key_text t) (key_read t extensible fs s)
    (when sorts.Include (sort t) (include_read t extensible fs s)
    (when sorts.CloseBrace (sort t) (HasHead (recorded extensible fs) [] s) None))

abbrev pub has_full : FullStack → FullType → Token → Option State
has_full (StatementType h ss make) f t =
    when sorts.Semicolon (sort t) (Statements h (ss ++ make f ∷ [])) None
has_full (InField k c extensible fs s) f t = fields_at extensible (fs ++ own k c f ∷ []) s t

abbrev pub has_default : TypeForm → Option Item → FullStack → Token → Option State
has_default f e s t =
    when sorts.With (sort t) (NeedItem (Out (AfterWith f e s))) (has_full s (Full f e None) t)

abbrev pub has_form : TypeForm → FullStack → Token → Option State
has_form f s t =
    when sorts.Assign (sort t) (NeedItem (Out (AfterEquals f s))) (has_default f None s t)

-- after `[` and `{` of a suffix
abbrev pub list_open : Head → List Suffix → FullStack → State
list_open h ss s = RangeOpen Brackets (λ b. HasHead h (ss ++ suffixes.List b ∷ []) s)

abbrev pub dict_open : Head → List Suffix → FullStack → State
dict_open h ss s = RangeOpen Braces (λ b. HasHead h (ss ++ suffixes.Dict b ∷ []) s)

abbrev pub has_head : Head → List Suffix → FullStack → Token → Option State
has_head h ss s t =
    when sorts.OpenBracket (sort t) (list_open h ss s)
    (when sorts.OpenBrace (sort t) (dict_open h ss s)
    (when sorts.Star (sort t) (HasHead h (ss ++ suffixes.Link ∷ []) s)
    (has_form (Formed h ss) s t)))

-- after `extensible`, after `choice`, and after `,` in a choice
abbrev pub extensible_read : FullStack → State
extensible_read s = Takes AnOpenBrace (λ o. FieldsOpen true [] s)

abbrev pub text_wanted : List (List ℕ) → FullStack → State
text_wanted xs s = Takes AText (λ x. TextsOpen (xs ++ x.value ∷ []) s)

abbrev pub choice_read : FullStack → State
choice_read s = Takes AnOpen (λ o. text_wanted [] s)

-- after the `(` of bounds
abbrev pub bounds_wanted : Token → FullStack → State
bounds_wanted n s = NeedBounds Parens (λ b. HasHead (named n (Some b)) [] s)

abbrev pub full_at : Token → FullStack → Option State
full_at t s =
    when sorts.OpenBrace (sort t) (FieldsOpen false [] s)
    (when sorts.Extensible (sort t) (extensible_read s)
    (when sorts.Choice (sort t) (choice_read s)
    (when_that (is_type_name (sort t)) (NameRead t s) None)))

abbrev pub name_then : Token → FullStack → Token → Option State
name_then n s t = when sorts.Open (sort t) (bounds_wanted n s) (has_head (named n None) [] s t)

abbrev pub texts_then : List (List ℕ) → FullStack → Token → Option State
texts_then xs s t =
    when sorts.Comma (sort t) (text_wanted xs s)
    (when sorts.Close (sort t) (HasHead (types.Choice xs) [] s) None)

abbrev pub hole_has : Hole → Item → Token → Option State
hole_has (StatementItem h ss make) i t =
    when sorts.Semicolon (sort t) (Statements h (ss ++ make i ∷ [])) None
hole_has (AfterEquals f s) i t = has_default f (Some i) s t
hole_has (AfterWith f e s) i t = has_full s (Full f e (Some i)) t

-- ---- items

abbrev pub unary_at : Token → NodeStack zero → Option State
unary_at t n =
    when_some (literal (sort t) t) (λ x. HasPrimary x n)
    (when_that (is_plain (sort t)) (WordRead t n)
    (when sorts.Open (sort t) (NeedItem (InParens t.place n))
    (when_some (unary_of (sort t)) (λ op. NeedUnary (Signed op t.place n)) None)))

-- after `if`, `while`, `for` and `foreach`
abbrev pub if_read : Place → ItemStack → State
if_read p s = Takes AnOpen (λ o. NeedItem (InParts (if_parts p) s))

abbrev pub while_read : Place → ItemStack → State
while_read p s = Takes AnOpen (λ o. NeedItem (InParts (while_parts p) s))

abbrev pub for_read : Place → ItemStack → State
for_read p s = Takes AnOpen (λ o. NeedItem (InParts (for_parts p) s))

abbrev pub foreach_read : Place → ItemStack → State
foreach_read p s = Takes AnOpen (λ o. Takes AWord (λ k. Takes ASemicolon
    (λ s1. Takes AWord (λ v. Takes ASemicolon (λ s2. NeedItem
    (InParts (foreach_parts p k.value v.value) s))))))

abbrev pub item_at : Token → ItemStack → Option State
item_at t s =
    when sorts.OpenBrace (sort t) (BlockOpen t.place [] s)
    (when sorts.If (sort t) (if_read t.place s)
    (when sorts.While (sort t) (while_read t.place s)
    (when sorts.For (sort t) (for_read t.place s)
    (when sorts.Foreach (sort t) (foreach_read t.place s)
    (when_that (is_plain (sort t)) (ItemWord t s)
    (unary_at t (down 9 (Chained s))))))))

-- an operator of the level above l, or what comes without one
abbrev pub operand_at : (l : ℕ) → Option Operator → Node → NodeStack (suc l) → Option State
    → Option State
operand_at l op x n other = when_some op (λ o. NeedUnary (down l (Operand o x n))) other

abbrev mutual
  pub has_item : ItemStack → Item → Token → Option State
  has_item (Out o) i t = hole_has o i t
  has_item (InBlock p is s) i t = when sorts.Semicolon (sort t) (BlockOpen p (is ++ i ∷ []) s)
      (when sorts.CloseBrace (sort t) (HasItem (block p (is ++ i ∷ [])) s) None)
  has_item (InParts (Last make) s) i t = has_item s (make i) t
  has_item (InParts (Further k next) s) i t =
      when (divider k) (sort t) (NeedItem (InParts (next i) s)) None
  has_item (InParts (MayElse make) s) i t = when sorts.Else (sort t)
      (NeedItem (InParts (Last (λ b. make i (Some b))) s)) (has_item s (make i None) t)
  has_item (InReference f is x s) i t =
      when sorts.CloseBracket (sort t) (HasReference f (is ++ i ∷ []) (index x i) s) None
  has_item (InIndex x n) i t = when sorts.CloseBracket (sort t) (HasPrimary (index x i) n) None
  has_item (InParens p n) i t = when sorts.Close (sort t) (HasPrimary (inside p i) n) None
  has_item (InCall f is n) i t = when sorts.Comma (sort t) (NeedItem (InCall f (is ++ i ∷ []) n))
      (when sorts.Close (sort t) (HasPrimary (called f (is ++ i ∷ [])) n) None)

  pub has_node : {l : ℕ} → NodeStack l → Node → Token → Option State
  has_node (Chained s) x t = has_item s (plain x) t
  has_node (Signed op p n) x t = has_node n (nodes.Unary p op x) t
  has_node (First {l} n) x t = operand_at l (op_of (suc l) (sort t)) x n (has_node n x t)
  has_node (Operand {l} op a n) x t =
      operand_at l (op_of (suc l) (sort t)) (joined op a x) n (has_node n (joined op a x) t)

abbrev pub has_primary : NodeStack zero → Node → Token → Option State
has_primary n x t = when sorts.OpenBracket (sort t) (NeedItem (InIndex x n)) (has_node n x t)

-- a word at the start of an item, with its indexes, as a list and as a node
abbrev pub has_reference : Token → List Item → Node → ItemStack → Token → Option State
has_reference f is x s t =
    when sorts.OpenBracket (sort t) (NeedItem (InReference f is x s))
    (when sorts.Assign (sort t) (NeedItem (InParts (right_side (reference f is)) s))
    (has_node (down 9 (Chained s)) x t))

abbrev pub step : State → Token → Option State
step Start t = start_at t
step (Takes w next) t = when_that (fits w t) (next t) None
step (Statements h ss) t = statements_at h ss t
step (FinalRead p h ss) t = setting_at p true h ss t
step (IncludeRead p h ss) t = included_at p h ss t
step (NeedFull s) t = full_at t s
step (NameRead n s) t = name_then n s t
step (TextsOpen xs s) t = texts_then xs s t
step (FieldsOpen e fs s) t = fields_at e fs s t
step (HasHead h ss s) t = has_head h ss s t
step (NeedSigned next) t = signed_at next t
step (NeedBounds c next) t = bounds_at c next t
step (HasLow c p n next) t = when (closing c) (sort t) (next (bounds p (Some n) (Some n)))
    (when sorts.Range (sort t) (RangeRead c p n next) None)
step (RangeRead c p n next) t =
    when (closing c) (sort t) (next (bounds p (Some n) None)) (signed_at (high_read c p n next) t)
step (RangeOpen c next) t =
    when (closing c) (sort t) (next None) (bounds_at c (λ b. next (Some b)) t)
step (NeedItem s) t = item_at t s
step (NeedUnary n) t = unary_at t n
step (BlockOpen p is s) t =
    when sorts.CloseBrace (sort t) (HasItem (block p is) s) (item_at t (InBlock p is s))
step (WordRead f n) t = when sorts.Open (sort t) (CallOpen f n) (has_primary n (name f) t)
step (ItemWord f s) t =
    when sorts.Open (sort t) (CallOpen f (down 9 (Chained s))) (has_reference f [] (name f) s t)
step (HasReference f is x s) t = has_reference f is x s t
step (CallOpen f n) t =
    when sorts.Close (sort t) (HasPrimary (called f []) n) (item_at t (InCall f [] n))
step (HasItem i s) t = has_item s i t
step (HasPrimary x n) t = has_primary n x t
step (HasNode x n) t = has_node n x t
step (Done z) t = None

-- ---- whole readings

-- the tokens from the first on that can't stand there, or at which a construct over the limit
-- begins
pub data Stop : Type 0 where
  Bad : Tokens → Stop
  Deep : Tokens → Stop

abbrev pub and_run : Option State → Bool → (State → Result Template Stop) → Tokens
    → Result Template Stop
and_run None over go ts = Err (Bad ts)
and_run (Some next) over go ts = if over then Err (Deep ts) else go next

abbrev pub at_end : State → Result Template Stop
at_end (Done z) = Ok z
at_end _ = Err (Bad [])

-- whether a construct over the limit begins
abbrev pub over : ℕ → Bool
over d = nat_lt MAX_NESTING d

abbrev pub run : Tokens → State → Result Template Stop
run [] s = at_end s
run (t ∷ ts) s = and_run (step s t) (over (opens s t)) (run ts) (t ∷ ts)
