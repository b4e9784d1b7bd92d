-- What a function of the parser answers, from any state that needs what it reads.
use Rattle.std.specs.Borrow.{Bor}
use Rattle.std.specs.Prelude.{◌≡◌, ℕ, Bool, true, false, ◌==◌, List, [], ◌∷◌, ◌++◌, Option, Some, None, Result, Ok, Err}
use Rattle.pan_ast.specs.declared.sort.Sort.{Sort}
use Rattle.pan_ast.specs.declared.token.Token.{Token}
use Rattle.pan_ast.specs.declared.types.Suffix.{Suffix}
use Rattle.pan_ast.specs.Sorts.{at, is_type_name, is_word, sort}
use Rattle.pan_ast.specs.Syntax.{Item, Node}
use Rattle.pan_ast.specs.Templates.{Template}
use Rattle.pan_ast.specs.Types.{Head}
use Rattle.pan_grammar.specs.Depths.{opens}
use Rattle.pan_grammar.specs.Grammar.{Both, Either, Of, Operator, Tokens, index, level, op_of, unary_of}
use Rattle.pan_grammar.specs.Machine.{Bad, Deep, Stop, and_run, at_end, run, step, when_that}
use Rattle.pan_grammar.specs.States.{FullStack, HasHead, State}
use Rattle.pan_grammar.specs.Templates.{is_setting}
use Rattle.pan_grammar.specs.Types.{is_mark, is_suffix}
use Rattle.pan_parser.specs.declared.stopped.Stopped.{Stopped}
use Rattle.pan_parser.specs.declared.stopped.Stopped.TheVariants as stops
use Rattle.pan_parser.specs.declared.tokens.Expected.{Expected}
use Rattle.pan_parser.specs.declared.tokens.Expected.TheVariants as expected
use Rattle.pan_parser.specs.declared.tables.Operator.{Operator as ROperator}
use Rattle.pan_parser.specs.declared.tables.Operator.TheVariants as operators

abbrev pub Fails : Stopped → Result Template Stop → Type 0
Fails stops.Memory read = Unit {0}
Fails (stops.Bad ts) read = read ≡ Err (Bad ts.now)
Fails (stops.Deep ts) read = read ≡ Err (Deep ts.now)

-- the whole reading goes on as next says, or fails
abbrev pub Goes : {X : Type 0} → Result X Stopped → (X → Result Template Stop)
    → Result Template Stop → Type 0
Goes (Ok x) next read = read ≡ next x
Goes (Err e) next read = Fails e read

-- the state takes a token of which the test holds and no other, with which nothing begins, and then
-- there is the next one
abbrev pub Wants : State → (Token → Bool) → (Token → State) → Type 0
Wants s test next = (at_end s ≡ Err (Bad [])) × ((t : Token)
    → step s t ≡ when_that (test t) (next t) None) × ((t : Token) → opens s t ≡ 0)

-- whether a token of the sort is what is expected
abbrev pub takes : Expected → Sort → Bool
takes (expected.Sort wanted) x = at wanted x
takes expected.Word x = is_word x
takes expected.TypeName x = is_type_name x
takes expected.Mark x = is_mark x
takes expected.Setting x = is_setting x

-- a token of the sort stands at the front, and rest after it
abbrev pub IsAt : Sort → Tokens → Tokens → Type 0
IsAt s ts rest = (t : Token) × (ts ≡ t ∷ rest) × (at s (sort t) ≡ true)

-- the first token gives this, or there is none
abbrev pub Front : {A : Type 0} → (Sort → A) → A → Tokens → Type 0
Front of value [] = Unit {0}
Front of value (t ∷ ts) = of (sort t) ≡ value

-- none of the sort stands at the front
abbrev pub NotAt : Sort → Tokens → Type 0
NotAt s ts = Front (at s) false ts

-- an operator of the line stands at the front, and rest after it
abbrev pub IsOperator : ℕ → Tokens → Operator → Tokens → Type 0
IsOperator line ts op rest = (t : Token) × (ts ≡ t ∷ rest) × (op_of line (sort t) ≡ Some op)

-- none stands there
abbrev pub NoOperator : ℕ → Tokens → Type 0
NoOperator line ts = Front (op_of line) None ts

-- none of any line stands there
abbrev pub ends_chains : Tokens → Bool
ends_chains [] = true
ends_chains (t ∷ ts) = level (sort t) == 0

-- no sign of an operand stands at the front
abbrev pub NoSign : Tokens → Type 0
NoSign ts = Front unary_of None ts

-- a node with indexes
abbrev pub indexed : Node → List Item → Node
indexed x [] = x
indexed x (i ∷ is) = indexed (index x i) is

abbrev pub op_seen : ROperator → Operator
op_seen (operators.Of op) = Of op
op_seen operators.Both = Both
op_seen operators.Either = Either

-- no suffix of a type stands at the front
abbrev pub NoSuffix : Tokens → Type 0
NoSuffix ts = Front is_suffix false ts

-- a type's head and suffixes, with the suffix that was read, or as before
abbrev pub suffixed : Option (Suffix × Bor (List Token)) → Head → List Suffix → FullStack → Tokens
    → Result Template Stop
suffixed None h ss s ts = run ts (HasHead h ss s)
suffixed (Some r) h ss s ts = run r.1.now (HasHead h (ss ++ r.0 ∷ []) s)

-- the reading goes on at the first token as `here` says, where nothing begins
abbrev pub on_front : (Token → Option State) → Tokens → Result Template Stop
on_front here [] = Err (Bad [])
on_front here (t ∷ ts) = and_run (here t) false (run ts) (t ∷ ts)
