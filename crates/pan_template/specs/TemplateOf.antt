-- The template that a file spells, or its first fault: that of its bytes, F01 to F05, or else that
-- of its tokens, F06 or F07.
use Rattle.std.specs.Prelude.{ℕ, List, Result, Ok, Err}
use Rattle.pan_ast.specs.declared.fault.Fault.{Fault}
use Rattle.pan_ast.specs.declared.token.Token.{Token}
use Rattle.pan_ast.specs.Templates.{Template}
use Rattle.pan_grammar.specs.Parsed.{parsed}
use Rattle.pan_lexer.specs.Lexed.{lexed_file}

abbrev pub of_tokens : Result (List Token) Fault → Result Template Fault
of_tokens (Ok tokens) = parsed tokens
of_tokens (Err f) = Err f

-- of the bytes of a file of this name
abbrev pub template_of : List ℕ → List ℕ → Result Template Fault
template_of file bytes = of_tokens (lexed_file file bytes)
