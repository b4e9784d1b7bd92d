-- What a token is to the grammar.
use Rattle.std.specs.Prelude.{◌≡◌, ℕ, Bool, ◌&&◌, ◌==◌, not, if◌then◌else◌, List, [], ◌∷◌, ◌++◌, map, codes}
use Rattle.std.specs.List.{list_any}
use Rattle.std.specs.Cmp.Lexicographic.{pointwise}
use Rattle.pan_ast.specs.declared.sort.Sort.{Sort}
use Rattle.pan_ast.specs.declared.sort.Sort.TheVariants.{Int, Text, Name, End, If, Else, While, For, Foreach, True, False, Undef, Null, With, Extensible, Include, Choice, Object, Structure, Unique, Declaration, Template, Final, Variable, Function, «Type», Bind, Valid, Prefix, Word, OpenBrace, CloseBrace, Open, Close, OpenBracket, CloseBracket, Semicolon, Comma, Colon, Question, ConditionalAssign, Assign, Equal, NotEqual, Less, LessEqual, More, MoreEqual, Plus, Minus, Star, Slash, Percent, Not, Flip, BitAnd, And, BitOr, Or, BitXor, Range, NoSign}
use Rattle.pan_ast.specs.declared.token.TokenKind.{TokenKind}
use Rattle.pan_ast.specs.declared.token.TokenKind.TheVariants as kinds
use Rattle.pan_ast.specs.declared.token.Token.{Token}

-- the words of the language
abbrev pub words : List (List ℕ × Sort)
words =
    (codes "if", If) ∷ (codes "else", Else) ∷ (codes "while", While) ∷ (codes "for", For)
    ∷ (codes "foreach", Foreach)
    ∷ (codes "true", True) ∷ (codes "false", False) ∷ (codes "undef", Undef) ∷ (codes "null", Null)
    ∷ (codes "with", With) ∷ (codes "extensible", Extensible) ∷ (codes "include", Include)
    ∷ (codes "choice", Choice)
    ∷ (codes "object", Object) ∷ (codes "structure", Structure) ∷ (codes "unique", Unique)
    ∷ (codes "declaration", Declaration) ∷ (codes "template", Template)
    ∷ (codes "final", Final) ∷ (codes "variable", Variable) ∷ (codes "function", Function)
    ∷ (codes "type", «Type»)
    ∷ (codes "bind", Bind) ∷ (codes "valid", Valid) ∷ (codes "prefix", Prefix) ∷ []

-- the signs of the language
abbrev pub signs : List (List ℕ × Sort)
signs =
    (codes "{", OpenBrace) ∷ (codes "}", CloseBrace) ∷ (codes "(", Open) ∷ (codes ")", Close)
    ∷ (codes "[", OpenBracket) ∷ (codes "]", CloseBracket) ∷ (codes ";", Semicolon)
    ∷ (codes ",", Comma)
    ∷ (codes ":", Colon) ∷ (codes "?", Question) ∷ (codes "?=", ConditionalAssign)
    ∷ (codes "=", Assign)
    ∷ (codes "==", Equal) ∷ (codes "!=", NotEqual) ∷ (codes "<", Less) ∷ (codes "<=", LessEqual)
    ∷ (codes ">", More) ∷ (codes ">=", MoreEqual) ∷ (codes "+", Plus) ∷ (codes "-", Minus)
    ∷ (codes "*", Star)
    ∷ (codes "/", Slash) ∷ (codes "%", Percent) ∷ (codes "!", Not) ∷ (codes "~", Flip)
    ∷ (codes "&", BitAnd)
    ∷ (codes "&&", And) ∷ (codes "|", BitOr) ∷ (codes "||", Or) ∷ (codes "^", BitXor)
    ∷ (codes "..", Range) ∷ []

-- the sort of a text in a table, and `other` where the table has no such text
abbrev pub look_up : Sort → List ℕ → List (List ℕ × Sort) → Sort
look_up other text [] = other
look_up other text (entry ∷ entries) =
    if pointwise ◌==◌ text entry.0 then entry.1 else look_up other text entries

-- the sort of a token by its kind and value
abbrev pub sort_of : TokenKind → List ℕ → Sort
sort_of kinds.Word value = look_up Word value words
sort_of kinds.Name value = Name
sort_of kinds.Int value = Int
sort_of kinds.Text value = Text
sort_of kinds.Sign value = look_up NoSign value signs
sort_of kinds.End value = End

abbrev pub sort : Token → Sort
sort t = sort_of t.kind t.value

-- the last token is an End
abbrev pub EndsInEnd : List Token → Type 0
EndsInEnd ts = (before : List Token) × (end : Token) × (sort end ≡ End) × (ts ≡ before ++ end ∷ [])

-- a number for each sort, by which sorts are told apart
abbrev pub code : Sort → ℕ
code Int = 0
code Text = 1
code Name = 2
code End = 3
code If = 4
code Else = 5
code While = 6
code For = 7
code Foreach = 8
code True = 9
code False = 10
code Undef = 11
code Null = 12
code With = 13
code Extensible = 14
code Include = 15
code Choice = 16
code Object = 17
code Structure = 18
code Unique = 19
code Declaration = 20
code Template = 21
code Final = 22
code Variable = 23
code Function = 24
code «Type» = 25
code Bind = 26
code Valid = 27
code Prefix = 28
code Word = 29
code OpenBrace = 30
code CloseBrace = 31
code Open = 32
code Close = 33
code OpenBracket = 34
code CloseBracket = 35
code Semicolon = 36
code Comma = 37
code Colon = 38
code Question = 39
code ConditionalAssign = 40
code Assign = 41
code Equal = 42
code NotEqual = 43
code Less = 44
code LessEqual = 45
code More = 46
code MoreEqual = 47
code Plus = 48
code Minus = 49
code Star = 50
code Slash = 51
code Percent = 52
code Not = 53
code Flip = 54
code BitAnd = 55
code And = 56
code BitOr = 57
code Or = 58
code BitXor = 59
code Range = 60
code NoSign = 61

-- whether the second sort is the first
abbrev pub at : Sort → Sort → Bool
at s x = code s == code x

-- whether a sort is one of these
abbrev pub is_one_of : List Sort → Sort → Bool
is_one_of ss x = list_any (λ s. at s x) ss

-- a word of the language, or any other word
abbrev pub is_word : Sort → Bool
is_word s = is_one_of (Word ∷ map (λ entry. entry.1) words) s

-- the words that cannot be names in an item
abbrev pub quoted : List Sort
quoted = If ∷ Else ∷ While ∷ For ∷ Foreach ∷ True ∷ False ∷ Undef ∷ Null ∷ []

-- the words that cannot be names of types
abbrev pub type_words : List Sort
type_words = With ∷ Extensible ∷ Include ∷ Choice ∷ []

-- a word that may be a name in an item
abbrev pub is_plain : Sort → Bool
is_plain s = is_word s && not (is_one_of quoted s)

-- a word that may be the name of a type
abbrev pub is_type_name : Sort → Bool
is_type_name s = is_word s && not (is_one_of type_words s)
