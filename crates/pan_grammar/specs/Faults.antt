-- What a reading of tokens answers.
use Rattle.std.specs.Prelude.{◌≡◌, ℕ, suc, ◌≤◌, ◌⊎◌, length, [], ◌∷◌, ◌++◌}
use Rattle.base.specs.declared.limits.TheConstants.{MAX_NESTING}
use Rattle.pan_ast.specs.Detail.{fault_at}
use Rattle.pan_ast.specs.declared.fault.Code.TheVariants.{BadSyntax, TooDeep}
use Rattle.pan_ast.specs.declared.fault.Fault.{Fault}
use Rattle.pan_ast.specs.declared.token.Token.{Token}
use Rattle.pan_ast.specs.Templates.{Template}
use Rattle.pan_grammar.specs.Grammar.{Tokens}
use Rattle.pan_grammar.specs.Templates.{IsTemplate}

abbrev pub ParsesWhere : (ℕ → Tokens → Type 0) → Tokens → Template → Type 0
ParsesWhere May ts z = IsTemplate May ts z

-- the grammar, with no limit on depth
abbrev pub Anywhere : ℕ → Tokens → Type 0
Anywhere d ts = Unit {0}

abbrev pub Parses : Tokens → Template → Type 0
Parses ts z = ParsesWhere Anywhere ts z

-- a construct over the limit of nesting begins in the last m tokens alone
abbrev pub DeepInLast : ℕ → ℕ → Tokens → Type 0
DeepInLast m d ts = (d ≤ MAX_NESTING) ⊎ (length ts ≤ m)

-- some list of tokens that parses begins with these
abbrev pub IsViable : Tokens → Type 0
IsViable ts = (on : Tokens) × (z : Template) × Parses (ts ++ on) z

-- and no construct over the limit of nesting begins in them
abbrev pub IsShallow : Tokens → Type 0
IsShallow ts = (on : Tokens) × (z : Template) × ParsesWhere (DeepInLast (length on)) (ts ++ on) z

-- a syntax fault at the first token of bad: those before it begin a text that parses, with no
-- construct over the limit of nesting in them, and no text that parses begins with those through it
pub record IsFirstBad (ts bad : Tokens) : Type 0 where
  pub before : Tokens
  pub parts : ts ≡ before ++ bad
  pub viable : IsShallow before
  pub dead : (k : Token) (on : Tokens) → bad ≡ k ∷ on → IsViable (before ++ k ∷ []) → ⊥

-- a fault of nesting at k: some text that parses begins with the tokens through k, and in each of
-- those the first construct over the limit of nesting begins at k
pub record IsTooDeep (ts : Tokens) (k : Token) (on : Tokens) : Type 0 where
  pub before : Tokens
  pub parts : ts ≡ before ++ k ∷ on
  pub viable : IsViable (before ++ k ∷ [])
  pub none_before : (other : Tokens) (z : Template) → Parses (before ++ k ∷ other) z
      → ParsesWhere (DeepInLast (suc (length other))) (before ++ k ∷ other) z
  pub one_at : (other : Tokens) (z : Template) → ParsesWhere (DeepInLast (length other)) (before
      ++ k ∷ other) z → ⊥

-- the fault of tokens that are no template: F06 where they are wrong, F07 where they nest over the
-- limit
abbrev pub IsFault : Tokens → Fault → Type 0
IsFault ts f =
    ((k : Token) × (on : Tokens) × IsFirstBad ts (k ∷ on) × (f ≡ fault_at BadSyntax k.place))
    ⊎ ((k : Token) × (on : Tokens) × IsTooDeep ts k on × (f ≡ fault_at TooDeep k.place))
