-- What is expected in a file.
use Rattle.std.specs.Prelude.{◌≡◌, ◌==◌, ◌&&◌, ℕ, List, [], ◌∷◌, Bool, Option, Some, None, Ok, Err, fold, take}
use Rattle.std.specs.List.{before_first}
use Rattle.pan_ast.specs.Detail.{fault_at}
use Rattle.pan_ast.specs.declared.fault.Code.TheVariants.{BadSyntax}
use Rattle.pan_ast.specs.declared.place.Place.{Place}
use Rattle.pan_ast.specs.declared.token.Token.{Token}
use Rattle.pan_grammar.specs.Grammar.{Tokens}
use Rattle.pan_grammar.specs.Parsed.{parsed}
use Rattle.pan_lexer.specs.Lexed.{lexed_file, origin, place_after, place_in}
use Rattle.expected_tokens.specs.Following.{CouldFollow, IsSifted}
use Rattle.expected_tokens.specs.declared.candidate.TheConstants.{CANDIDATES}
use Rattle.expected_tokens.specs.declared.expecting.Expectation.{Expectation}

abbrev pub is_at : Place → Token → Bool
is_at p t = t.place.line == p.line && t.place.column == p.column

-- the tokens of a file before a place
abbrev pub before : Place → Tokens → Tokens
before p tokens = before_first (is_at p) tokens

-- how many bytes of their file tokens reach over: the end of the last
abbrev pub end_of : Tokens → ℕ
end_of tokens = fold (λ end t. t.end) 0 tokens

-- Of a file whose tokens are no template, by the first that no template goes on with: its place,
-- which tokens could stand there, and the place behind the tokens before it.
pub record IsExpected (file bytes : List ℕ) (tokens : Tokens) (e : Expectation) : Type 0 where
  pub wrong : parsed tokens ≡ Err (fault_at BadSyntax e.place)
  pub candidates : IsSifted (CouldFollow (before e.place tokens) e.place) CANDIDATES
      e.candidates.items
  pub behind : e.behind
      ≡ place_in file (place_after origin (take (end_of (before e.place tokens)) bytes))

-- of a file without such a fault nothing is expected
abbrev pub IsExpectedIn : List ℕ → List ℕ → Option Expectation → Type 0
IsExpectedIn file bytes None = (tokens : Tokens) (p : Place) → lexed_file file bytes ≡ Ok tokens
    → parsed tokens ≡ Err (fault_at BadSyntax p) → ⊥
IsExpectedIn file bytes (Some e) = (tokens : Tokens) × (lexed_file file bytes ≡ Ok tokens)
    × IsExpected file bytes tokens e
