-- A text that is read back: it is spelled by tokens that parse to the same template but for places,
-- with these comments and annotations between them, and it has itself as its layout.
use Rattle.std.specs.Prelude.{◌≡◌, ℕ, List, map}
use Rattle.pan_ast.specs.declared.token.Token.{Token}
use Rattle.pan_ast.specs.Templates.{Template}
use Rattle.pan_lexer.specs.Skipped.{kept}
use Rattle.pan_lexer.specs.Spelled.{Piece, SpelledWith}
use Rattle.pan_grammar.specs.Faults.{DeepInLast, ParsesWhere}
use Rattle.pan_format.specs.Bare.{bare}
use Rattle.pan_format.specs.Layout.{layout}
use Rattle.pan_format.specs.Notes.{ends, notes}

pub record IsReadBack (file text : List ℕ) (z : Template) (noted : List (List ℕ)) : Type 0 where
  pub tokens : List Token
  pub pieces : List Piece
  pub template : Template
  pub spelled : SpelledWith file text tokens pieces
  pub parses : ParsesWhere (DeepInLast 0) tokens template
  pub same : bare template ≡ bare z
  pub notes_kept : map (λ n. n.text) (notes text (kept pieces)) ≡ noted
  pub settled : layout template (ends tokens) (notes text (kept pieces)) ≡ text

-- A text that keeps what a file says: its template, and its comments and annotations as the layout
-- leaves them.
pub record Keeps (file bytes text : List ℕ) : Type 0 where
  pub tokens : List Token
  pub pieces : List Piece
  pub template : Template
  pub spelled : SpelledWith file bytes tokens pieces
  pub parses : ParsesWhere (DeepInLast 0) tokens template
  pub read_back : IsReadBack file text template (map (λ n. n.text) (notes bytes (kept pieces)))
