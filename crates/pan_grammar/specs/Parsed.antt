-- The template that tokens spell, or their first fault of syntax or nesting: what the machine
-- answers, as a fault with its place. A law of the parser's crate ties it to the grammar both ways.
use Rattle.std.specs.Prelude.{[], ◌∷◌, Result, Ok, Err}
use Rattle.pan_ast.specs.declared.fault.Code.{Code}
use Rattle.pan_ast.specs.declared.fault.Code.TheVariants.{BadSyntax, TooDeep}
use Rattle.pan_ast.specs.declared.fault.Fault.{Fault}
use Rattle.pan_ast.specs.declared.place.Place.{Place}
use Rattle.pan_ast.specs.Detail.{fault_at}
use Rattle.pan_ast.specs.Templates.{Template}
use Rattle.pan_grammar.specs.Grammar.{Tokens}
use Rattle.pan_grammar.specs.States.{Start}
use Rattle.pan_grammar.specs.Machine.{Stop, Bad, Deep, run}

-- The place of the first token. There is always one where a reading stops, as an End closes the
-- tokens of a file: what stands here for none is never an answer.
abbrev pub first_place : Tokens → Place
first_place [] = record { file = []; line = 1; column = 1 }
first_place (t ∷ ts) = t.place

-- a fault at the first of the tokens from where a reading stops on
abbrev pub fault_on : Code → Tokens → Fault
fault_on code ts = fault_at code (first_place ts)

abbrev pub answer_of : Result Template Stop → Result Template Fault
answer_of (Ok z) = Ok z
answer_of (Err (Bad ts)) = Err (fault_on BadSyntax ts)
answer_of (Err (Deep ts)) = Err (fault_on TooDeep ts)

abbrev pub parsed : Tokens → Result Template Fault
parsed ts = answer_of (run ts Start)
