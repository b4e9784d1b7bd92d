-- Tokens that may be expected.
use Rattle.std.specs.Prelude.{ℕ, Bool, List, [], ◌∷◌, codes, bytes_eq}
use Rattle.std.specs.List.{list_any}
use Rattle.pan_ast.specs.declared.place.Place.{Place}
use Rattle.pan_ast.specs.declared.token.Token.{Token}
use Rattle.pan_ast.specs.declared.token.TokenKind.{TokenKind}
use Rattle.pan_ast.specs.declared.token.TokenKind.TheVariants as kinds
use Rattle.expected_tokens.specs.declared.candidate.Candidate.{Candidate}
use Rattle.expected_tokens.specs.declared.candidate.Candidate.TheVariants.{Value, Statement, Header, Operator, Word, Name, Text, Number, Include, Variable, Template, Else, With, Semicolon, Comma, Colon, Question, Assign, ConditionalAssign, Range, Open, Close, OpenBracket, CloseBracket, OpenBrace, CloseBrace, End}

abbrev pub kind_of : Candidate → TokenKind
kind_of Value = kinds.Sign
kind_of Statement = kinds.Word
kind_of Header = kinds.Word
kind_of Operator = kinds.Sign
kind_of Word = kinds.Word
kind_of Name = kinds.Name
kind_of Text = kinds.Text
kind_of Number = kinds.Int
kind_of Include = kinds.Word
kind_of Variable = kinds.Word
kind_of Template = kinds.Word
kind_of Else = kinds.Word
kind_of With = kinds.Word
kind_of Semicolon = kinds.Sign
kind_of Comma = kinds.Sign
kind_of Colon = kinds.Sign
kind_of Question = kinds.Sign
kind_of Assign = kinds.Sign
kind_of ConditionalAssign = kinds.Sign
kind_of Range = kinds.Sign
kind_of Open = kinds.Sign
kind_of Close = kinds.Sign
kind_of OpenBracket = kinds.Sign
kind_of CloseBracket = kinds.Sign
kind_of OpenBrace = kinds.Sign
kind_of CloseBrace = kinds.Sign
kind_of End = kinds.End

-- a text that the token may have
abbrev pub spelling : Candidate → List ℕ
spelling Value = codes "!"
spelling Statement = codes "valid"
spelling Header = codes "object"
spelling Operator = codes "*"
spelling Word = codes "word"
spelling Name = codes "name"
spelling Text = codes "text"
spelling Number = codes "1"
spelling Include = codes "include"
spelling Variable = codes "variable"
spelling Template = codes "template"
spelling Else = codes "else"
spelling With = codes "with"
spelling Semicolon = codes ";"
spelling Comma = codes ","
spelling Colon = codes ":"
spelling Question = codes "?"
spelling Assign = codes "="
spelling ConditionalAssign = codes "?="
spelling Range = codes ".."
spelling Open = codes "("
spelling Close = codes ")"
spelling OpenBracket = codes "["
spelling CloseBracket = codes "]"
spelling OpenBrace = codes "{"
spelling CloseBrace = codes "}"
spelling End = []

-- such a token at a place
abbrev pub sample : Place → Candidate → Token
sample place c = record {
  kind = kind_of c;
  start = 0;
  end = 0;
  place = place;
  value = spelling c;
}

-- what a reader is told where it may stand
abbrev pub words : Candidate → List ℕ
words Value = codes "a value"
words Statement = codes "a statement"
words Header = codes "a header"
words Operator = codes "an operator"
words Word = codes "a name"
words Name = codes "a name"
words Text = codes "a text"
words Number = codes "a number"
words Include = codes "'include'"
words Variable = codes "'variable'"
words Template = codes "'template'"
words Else = codes "'else'"
words With = codes "'with'"
words Semicolon = codes "';'"
words Comma = codes "','"
words Colon = codes "':'"
words Question = codes "'?'"
words Assign = codes "'='"
words ConditionalAssign = codes "'?='"
words Range = codes "'..'"
words Open = codes "'('"
words Close = codes "')'"
words OpenBracket = codes "'['"
words CloseBracket = codes "']'"
words OpenBrace = codes "'{'"
words CloseBrace = codes "'}'"
words End = codes "the end of the file"

-- those that tell as much, where they may stand too
abbrev pub tells_as_much : Candidate → List Candidate
tells_as_much Value = []
tells_as_much Statement = Word ∷ []
tells_as_much Header = Word ∷ []
tells_as_much Operator = []
tells_as_much Word = Value ∷ []
tells_as_much Name = []
tells_as_much Text = Value ∷ Statement ∷ []
tells_as_much Number = Value ∷ []
tells_as_much Include = Word ∷ Statement ∷ []
tells_as_much Variable = Word ∷ Statement ∷ []
tells_as_much Template = Word ∷ Header ∷ []
tells_as_much Else = Word ∷ []
tells_as_much With = Word ∷ []
tells_as_much Semicolon = []
tells_as_much Comma = []
tells_as_much Colon = []
tells_as_much Question = []
tells_as_much Assign = []
tells_as_much ConditionalAssign = []
tells_as_much Range = []
tells_as_much Open = Value ∷ []
tells_as_much Close = []
tells_as_much OpenBracket = Operator ∷ []
tells_as_much CloseBracket = []
tells_as_much OpenBrace = Value ∷ []
tells_as_much CloseBrace = []
tells_as_much End = []

abbrev pub is_among : Candidate → List Candidate → Bool
is_among c cs = list_any (λ other. bytes_eq (spelling other) (spelling c)) cs
