-- Tokens that complete each state.
use Rattle.std.proofs.Common.{◌≡◌, ◌≢◌, ℕ, true, List, [], ◌∷◌, ◌++◌, Some, None, refl, sym, ◌∙◌}
use Rattle.std.specs.Prelude.{codes}
use Rattle.pan_ast.specs.declared.sort.Sort.TheVariants as sorts
use Rattle.pan_ast.specs.declared.token.Token.{Token}
use Rattle.pan_ast.specs.declared.token.TokenKind.{TokenKind}
use Rattle.pan_ast.specs.declared.token.TokenKind.TheVariants as kinds
use Rattle.pan_ast.specs.Sorts.{sort}
use Rattle.pan_ast.specs.Syntax.{Item, Node}
use Rattle.pan_ast.specs.Syntax as nodes
use Rattle.pan_grammar.specs.Grammar.{Tokens, NotElse, number, joined, block, plain, name, called, inside, index}
use Rattle.pan_grammar.specs.Types.{bounds}
use Rattle.pan_grammar.proofs.Tests.{at_is}
use Rattle.pan_grammar.specs.States.{FullStack, StatementType, InField, Hole, StatementItem, AfterEquals, AfterWith, Divider, AtSemicolon, AtClose, divider, Parts, Last, Further, MayElse, ItemStack, Out, InBlock, InParts, InReference, InIndex, InParens, InCall, NodeStack, Chained, Signed, First, Operand, Closing, Parens, Brackets, Braces, closing, Wanted, ATemplate, AName, ASemicolon, AnAssign, ASetting, AText, AWord, ATypeName, AnInt, AnOpen, AnOpenBrace, AMark, Closes, fits, State, Start, Takes, Statements, FinalRead, IncludeRead, NeedFull, NameRead, TextsOpen, FieldsOpen, HasHead, NeedSigned, NeedBounds, HasLow, RangeRead, RangeOpen, NeedItem, NeedUnary, BlockOpen, WordRead, ItemWord, HasReference, CallOpen, HasItem, HasPrimary, HasNode, Done}

-- a token of a kind and a value
written : TokenKind → List ℕ → Token
written kind value = record {
  kind = kind;
  start = 0;
  end = 0;
  place =
      record { file = []; line = 0; column = 0 };
  value = value;
}

pub an_int : Token
an_int = written kinds.Int (codes "0")

pub a_text_token : Token
a_text_token = written kinds.Text (codes "a")

pub a_name_token : Token
a_name_token = written kinds.Name (codes "a")

pub a_word : Token
a_word = written kinds.Word (codes "a")

pub an_end : Token
an_end = written kinds.End []

pub the_template : Token
the_template = written kinds.Word (codes "template")

pub a_semicolon : Token
a_semicolon = written kinds.Sign (codes ";")

pub an_equals : Token
an_equals = written kinds.Sign (codes "=")

pub an_open : Token
an_open = written kinds.Sign (codes "(")

pub an_open_brace : Token
an_open_brace = written kinds.Sign (codes "{")

pub a_close_brace : Token
a_close_brace = written kinds.Sign (codes "}")

pub a_close : Token
a_close = written kinds.Sign (codes ")")

pub a_close_bracket : Token
a_close_bracket = written kinds.Sign (codes "]")

pub a_colon : Token
a_colon = written kinds.Sign (codes ":")

-- and their sorts
pub sort_an_int : sort an_int ≡ sorts.Int
unfolding an_int written
sort_an_int = refl

pub sort_a_text_token : sort a_text_token ≡ sorts.Text
unfolding a_text_token written
sort_a_text_token = refl

pub sort_a_name_token : sort a_name_token ≡ sorts.Name
unfolding a_name_token written
sort_a_name_token = refl

pub sort_a_word : sort a_word ≡ sorts.Word
unfolding a_word written
sort_a_word = refl

pub sort_an_end : sort an_end ≡ sorts.End
unfolding an_end written
sort_an_end = refl

pub sort_the_template : sort the_template ≡ sorts.Template
unfolding the_template written
sort_the_template = refl

pub sort_a_semicolon : sort a_semicolon ≡ sorts.Semicolon
unfolding a_semicolon written
sort_a_semicolon = refl

pub sort_an_equals : sort an_equals ≡ sorts.Assign
unfolding an_equals written
sort_an_equals = refl

pub sort_a_close_brace : sort a_close_brace ≡ sorts.CloseBrace
unfolding a_close_brace written
sort_a_close_brace = refl

pub sort_a_close : sort a_close ≡ sorts.Close
unfolding a_close written
sort_a_close = refl

pub sort_a_close_bracket : sort a_close_bracket ≡ sorts.CloseBracket
unfolding a_close_bracket written
sort_a_close_bracket = refl

pub divide : Divider → Token
divide AtSemicolon = a_semicolon
divide AtClose = a_close

pub divides : (k : Divider) → sort (divide k) ≡ divider k
unfolding divide
divides AtSemicolon = sort_a_semicolon
divides AtClose = sort_a_close

pub close_by : Closing → Token
close_by Parens = a_close
close_by Brackets = a_close_bracket
close_by Braces = a_close_brace

pub closes_by : (c : Closing) → sort (close_by c) ≡ closing c
unfolding close_by
closes_by Parens = sort_a_close
closes_by Brackets = sort_a_close_bracket
closes_by Braces = sort_a_close_brace

-- a token that is wanted
unfoldable pub sample : Wanted → Token
sample ATemplate = the_template
sample AName = a_name_token
sample ASemicolon = a_semicolon
sample AnAssign = an_equals
sample ASetting = an_equals
sample AText = a_text_token
sample AWord = a_word
sample ATypeName = a_word
sample AnInt = an_int
sample AnOpen = an_open
sample AnOpenBrace = an_open_brace
sample AMark = a_colon
sample (Closes c) = close_by c

pub sample_fits : (w : Wanted) → fits w (sample w) ≡ true
unfolding sample the_template a_name_token a_semicolon an_equals a_text_token a_word an_int an_open
    an_open_brace a_colon written
sample_fits ATemplate = refl
sample_fits AName = refl
sample_fits ASemicolon = refl
sample_fits AnAssign = refl
sample_fits ASetting = refl
sample_fits AText = refl
sample_fits AWord = refl
sample_fits ATypeName = refl
sample_fits AnInt = refl
sample_fits AnOpen = refl
sample_fits AnOpenBrace = refl
sample_fits AMark = refl
sample_fits (Closes c) = at_is (closing c) (sort (close_by c)) (closes_by c)

-- the number, as a node and as an item
abbrev pub zero_node : Node
zero_node = nodes.Long an_int.place (number an_int)

-- ---- the tokens that complete what is open

unfoldable pub full_fill : FullStack → Tokens
full_fill (StatementType h ss make) = a_semicolon ∷ an_end ∷ []
full_fill (InField k c x fs s) = a_close_brace ∷ full_fill s

unfoldable pub hole_fill : Hole → Tokens
hole_fill (StatementItem h ss make) = a_semicolon ∷ an_end ∷ []
hole_fill (AfterEquals f s) = full_fill s
hole_fill (AfterWith f e s) = full_fill s

unfoldable pub parts_fill : Parts → Item → (Item → Tokens) → Tokens
parts_fill (Last make) i go = go (make i)
parts_fill (Further k next) i go = divide k ∷ an_int ∷ parts_fill (next i) (plain zero_node) go
parts_fill (MayElse make) i go = go (make i None)

unfoldable mutual
  pub item_fill : ItemStack → Item → Tokens
  item_fill (Out o) i = hole_fill o
  item_fill (InBlock p is s) i = a_close_brace ∷ item_fill s (block p (is ++ i ∷ []))
  item_fill (InParts parts s) i = parts_fill parts i (λ j. item_fill s j)
  item_fill (InReference f is x s) i = a_close_bracket ∷ item_fill s (plain (index x i))
  item_fill (InIndex x n) i = a_close_bracket ∷ node_fill n (index x i)
  item_fill (InParens p n) i = a_close ∷ node_fill n (inside p i)
  item_fill (InCall f is n) i = a_close ∷ node_fill n (called f (is ++ i ∷ []))

  pub node_fill : {l : ℕ} → NodeStack l → Node → Tokens
  node_fill (Chained s) x = item_fill s (plain x)
  node_fill (Signed op p n) x = node_fill n (nodes.Unary p op x)
  node_fill (First n) x = node_fill n x
  node_fill (Operand op a n) x = node_fill n (joined op a x)

-- the tokens that complete a state
unfoldable pub fill : State → Tokens
fill Start = the_template ∷ a_name_token ∷ a_semicolon ∷ an_end ∷ []
fill (Takes w next) = sample w ∷ fill (next (sample w))
fill (Statements h ss) = an_end ∷ []
fill (FinalRead p h ss) = a_text_token ∷ an_equals ∷ an_int ∷ a_semicolon ∷ an_end ∷ []
fill (IncludeRead p h ss) = a_text_token ∷ a_semicolon ∷ an_end ∷ []
fill (NeedFull s) = a_word ∷ full_fill s
fill (NameRead n s) = full_fill s
fill (TextsOpen xs s) = a_close ∷ full_fill s
fill (FieldsOpen x fs s) = a_close_brace ∷ full_fill s
fill (HasHead a ss s) = full_fill s
fill (NeedSigned next) = an_int ∷ fill (next (number an_int))
fill (NeedBounds c next) =
    an_int ∷ close_by c ∷ fill
    (next (bounds an_int.place (Some (number an_int)) (Some (number an_int))))
fill (HasLow c p n next) = close_by c ∷ fill (next (bounds p (Some n) (Some n)))
fill (RangeRead c p n next) = close_by c ∷ fill (next (bounds p (Some n) None))
fill (RangeOpen c next) = close_by c ∷ fill (next None)
fill (NeedItem s) = an_int ∷ item_fill s (plain zero_node)
fill (NeedUnary n) = an_int ∷ node_fill n zero_node
fill (BlockOpen p is s) = a_close_brace ∷ item_fill s (block p (is ++ []))
fill (WordRead f n) = node_fill n (name f)
fill (ItemWord f s) = item_fill s (plain (name f))
fill (HasReference f is x s) = item_fill s (plain x)
fill (CallOpen f n) = a_close ∷ node_fill n (called f [])
fill (HasItem i s) = item_fill s i
fill (HasPrimary x n) = node_fill n x
fill (HasNode x n) = node_fill n x
fill (Done z) = []

-- ---- none of them begins with an else

full_no_else : (s : FullStack) → NotElse (full_fill s)
unfolding full_fill
full_no_else (StatementType h ss make) = λ e. let k : sorts.Semicolon ≡ sorts.Else =
    sym sort_a_semicolon ∙ e in absurd cc
full_no_else (InField k c x fs s) = λ e. let k : sorts.CloseBrace ≡ sorts.Else =
    sym sort_a_close_brace ∙ e in absurd cc

hole_no_else : (o : Hole) → NotElse (hole_fill o)
unfolding hole_fill
hole_no_else (StatementItem h ss make) = λ e. let k : sorts.Semicolon ≡ sorts.Else =
    sym sort_a_semicolon ∙ e in absurd cc
hole_no_else (AfterEquals f s) = full_no_else s
hole_no_else (AfterWith f d s) = full_no_else s

divide_no_else : (k : Divider) → sort (divide k) ≢ sorts.Else
divide_no_else AtSemicolon e = let q : sorts.Semicolon ≡ sorts.Else =
    sym (divides AtSemicolon) ∙ e in absurd cc
divide_no_else AtClose e = let q : sorts.Close ≡ sorts.Else = sym (divides AtClose) ∙ e in absurd cc

parts_no_else : (parts : Parts) (i : Item) (go : Item → Tokens) → ((j : Item) → NotElse (go j))
    → NotElse (parts_fill parts i go)
unfolding parts_fill
parts_no_else (Last make) i go h = h (make i)
parts_no_else (Further k next) i go h = divide_no_else k
parts_no_else (MayElse make) i go h = h (make i None)

pub not_else : (s : ItemStack) (i : Item) → NotElse (item_fill s i)
unfolding item_fill
not_else (Out o) i = hole_no_else o
not_else (InBlock p is s) i = λ e. let k : sorts.CloseBrace ≡ sorts.Else =
    sym sort_a_close_brace ∙ e in absurd cc
not_else (InParts parts s) i = parts_no_else parts i (λ j. item_fill s j) (λ j. not_else s j)
not_else (InReference f is x s) i = λ e. let k : sorts.CloseBracket ≡ sorts.Else =
    sym sort_a_close_bracket ∙ e in absurd cc
not_else (InIndex x n) i = λ e. let k : sorts.CloseBracket ≡ sorts.Else =
    sym sort_a_close_bracket ∙ e in absurd cc
not_else (InParens p n) i = λ e. let k : sorts.Close ≡ sorts.Else = sym sort_a_close ∙ e in
    absurd cc
not_else (InCall f is n) i = λ e. let k : sorts.Close ≡ sorts.Else = sym sort_a_close ∙ e in
    absurd cc
