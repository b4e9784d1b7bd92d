-- Tables of sorts: what may stand after an item, and what an item, a number and a type begin with.
use Rattle.std.proofs.Common.{◌≡◌, ◌≢◌, ℕ, Bool, true, false, ◌||◌, cond, eqb, Some, None, refl}
use Rattle.std.proofs.lemmas.Bool.{eqb-true}
use Rattle.path_tree.specs.declared.operators.UnaryOp.{UnaryOp}
use Rattle.pan_ast.specs.declared.sort.Sort.{Sort}
use Rattle.pan_ast.specs.declared.sort.Sort.TheVariants as sorts
use Rattle.pan_ast.specs.declared.token.Token.{Token}
use Rattle.pan_ast.specs.Sorts.{at, is_plain}
use Rattle.pan_ast.specs.Syntax.{Node}
use Rattle.pan_grammar.specs.Grammar.{literal, unary_of, level, Operator, operator, op_of}
use Rattle.pan_grammar.specs.States.{Closing, Parens, Brackets, Braces, closing, Divider, AtSemicolon, AtClose, divider}
use Rattle.pan_grammar.specs.Depths.{signed, item_start}

-- ---- what can stand after an item

abbrev pub item_end : Sort → Bool
item_end sorts.Else = true
item_end sorts.Close = true
item_end sorts.CloseBrace = true
item_end sorts.CloseBracket = true
item_end sorts.Comma = true
item_end sorts.Semicolon = true
item_end sorts.With = true
item_end sorts.Include = true
item_end sorts.Text = true
item_end _ = false

pub level-item_end : (s : Sort) → item_end s ≡ true → level s ≡ 0
level-item_end sorts.Star e = absurd cc
level-item_end sorts.Slash e = absurd cc
level-item_end sorts.Percent e = absurd cc
level-item_end sorts.Plus e = absurd cc
level-item_end sorts.Minus e = absurd cc
level-item_end sorts.Less e = absurd cc
level-item_end sorts.LessEqual e = absurd cc
level-item_end sorts.More e = absurd cc
level-item_end sorts.MoreEqual e = absurd cc
level-item_end sorts.Equal e = absurd cc
level-item_end sorts.NotEqual e = absurd cc
level-item_end sorts.BitAnd e = absurd cc
level-item_end sorts.BitXor e = absurd cc
level-item_end sorts.BitOr e = absurd cc
level-item_end sorts.And e = absurd cc
level-item_end sorts.Or e = absurd cc
level-item_end _ e = refl

pub divider_ends : (k : Divider) → item_end (divider k) ≡ true
divider_ends AtSemicolon = refl
divider_ends AtClose = refl

-- ---- operators

pub op_level : (l : ℕ) (s : Sort) (op : Operator) → op_of l s ≡ Some op → level s ≡ l
op_level l s op e = by (eqb (level s) l) refl e where
  by : (b : Bool) → eqb (level s) l ≡ b → cond b (Some (operator s)) None ≡ Some op → level s ≡ l
  by true h e = eqb-true _ _ h
  by false h e = absurd cc

pub op_none : (l : ℕ) (s : Sort) → level s ≢ l → op_of l s ≡ None
op_none l s ne = by (eqb (level s) l) refl where
  by : (b : Bool) → eqb (level s) l ≡ b → cond b (Some (operator s)) None ≡ None
  by true h = absurd (ne (eqb-true _ _ h))
  by false h = refl

-- ---- what Bounds and what a number begin with

abbrev pub number_start : Sort → Bool
number_start s = at sorts.Int s || at sorts.Minus s

abbrev pub bounds_start : Sort → Bool
bounds_start s = at sorts.Range s || number_start s

pub closing_apart : (c : Closing) → bounds_start (closing c) ≡ false
closing_apart Parens = refl
closing_apart Brackets = refl
closing_apart Braces = refl

pub number_bounds : (s : Sort) → number_start s ≡ true → bounds_start s ≡ true
number_bounds s e = by (at sorts.Range s) e where
  by : (b : Bool) → number_start s ≡ true → (b || number_start s) ≡ true
  by true h = refl
  by false h = h

-- ---- what a Unary begins with, besides a name

abbrev pub bare_start : Sort → Bool
bare_start sorts.Int = true
bare_start sorts.Text = true
bare_start sorts.True = true
bare_start sorts.False = true
bare_start sorts.Undef = true
bare_start sorts.Null = true
bare_start sorts.Open = true
bare_start sorts.Plus = true
bare_start sorts.Minus = true
bare_start sorts.Not = true
bare_start sorts.Flip = true
bare_start _ = false

pub bare_not_plain : (s : Sort) → bare_start s ≡ true → is_plain s ≡ false
bare_not_plain sorts.Int e = refl
bare_not_plain sorts.Text e = refl
bare_not_plain sorts.True e = refl
bare_not_plain sorts.False e = refl
bare_not_plain sorts.Undef e = refl
bare_not_plain sorts.Null e = refl
bare_not_plain sorts.Open e = refl
bare_not_plain sorts.Plus e = refl
bare_not_plain sorts.Minus e = refl
bare_not_plain sorts.Not e = refl
bare_not_plain sorts.Flip e = refl
bare_not_plain _ e = absurd cc

pub literal_bare : (s : Sort) (t : Token) (x : Node) → literal s t ≡ Some x → (bare_start s ≡ true)
    × (signed s ≡ false)
literal_bare sorts.Int t x e = (refl, refl)
literal_bare sorts.Text t x e = (refl, refl)
literal_bare sorts.True t x e = (refl, refl)
literal_bare sorts.False t x e = (refl, refl)
literal_bare sorts.Undef t x e = (refl, refl)
literal_bare sorts.Null t x e = (refl, refl)
literal_bare _ t x e = absurd cc

pub sign_bare : (s : Sort) (op : UnaryOp) → unary_of s ≡ Some op → bare_start s ≡ true
sign_bare sorts.Plus op e = refl
sign_bare sorts.Minus op e = refl
sign_bare sorts.Not op e = refl
sign_bare sorts.Flip op e = refl
sign_bare _ op e = absurd cc

pub sign_no_literal : (s : Sort) (t : Token) (op : UnaryOp) → unary_of s ≡ Some op → literal s t
    ≡ None
sign_no_literal sorts.Plus t op e = refl
sign_no_literal sorts.Minus t op e = refl
sign_no_literal sorts.Not t op e = refl
sign_no_literal sorts.Flip t op e = refl
sign_no_literal _ t op e = absurd cc

pub plain_no_literal : (s : Sort) (t : Token) → is_plain s ≡ true → literal s t ≡ None
plain_no_literal sorts.Int t e = absurd cc
plain_no_literal sorts.Text t e = absurd cc
plain_no_literal sorts.True t e = absurd cc
plain_no_literal sorts.False t e = absurd cc
plain_no_literal sorts.Undef t e = absurd cc
plain_no_literal sorts.Null t e = absurd cc
plain_no_literal _ t e = refl

pub plain_not_signed : (s : Sort) → is_plain s ≡ true → signed s ≡ false
plain_not_signed sorts.Plus e = absurd cc
plain_not_signed sorts.Minus e = absurd cc
plain_not_signed sorts.Not e = absurd cc
plain_not_signed sorts.Flip e = absurd cc
plain_not_signed _ e = refl

-- ---- what an item begins with

pub bare_item : (s : Sort) → bare_start s ≡ true → item_start s ≡ true
bare_item sorts.Int e = refl
bare_item sorts.Text e = refl
bare_item sorts.True e = refl
bare_item sorts.False e = refl
bare_item sorts.Undef e = refl
bare_item sorts.Null e = refl
bare_item sorts.Open e = refl
bare_item sorts.Plus e = refl
bare_item sorts.Minus e = refl
bare_item sorts.Not e = refl
bare_item sorts.Flip e = refl
bare_item _ e = absurd cc

pub plain_item : (s : Sort) → is_plain s ≡ true → item_start s ≡ true
plain_item sorts.With e = refl
plain_item sorts.Extensible e = refl
plain_item sorts.Include e = refl
plain_item sorts.Choice e = refl
plain_item sorts.Object e = refl
plain_item sorts.Structure e = refl
plain_item sorts.Unique e = refl
plain_item sorts.Declaration e = refl
plain_item sorts.Template e = refl
plain_item sorts.Final e = refl
plain_item sorts.Variable e = refl
plain_item sorts.Function e = refl
plain_item sorts.«Type» e = refl
plain_item sorts.Bind e = refl
plain_item sorts.Valid e = refl
plain_item sorts.Prefix e = refl
plain_item sorts.Word e = refl
plain_item _ e = absurd cc
