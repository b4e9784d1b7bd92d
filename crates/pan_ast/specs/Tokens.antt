-- A token as contracts see it.
use Rattle.std.specs.Prelude.{ℕ, List}
use Rattle.pan_ast.specs.declared.place.Place.{Place}
use Rattle.pan_ast.specs.declared.token.TokenKind.{TokenKind}

-- the bytes from `start` to before `end` of a file, the place of the first of them, and a value
pub record TokenSeen : Type 0 where
  pub kind : TokenKind
  pub start : ℕ
  pub end : ℕ
  pub place : Place
  pub value : List ℕ
