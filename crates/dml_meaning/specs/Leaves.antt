-- What opens nothing: literals, names, refusals, and operators once their operands are values.
use Rattle.std.specs.Prelude.{ℕ, List, Option, Some, None, Bool, true, false, Result, Ok, Err}
use Rattle.path_tree.specs.Plain.{Plain, boolean}
use Rattle.path_tree.specs.Find.{text_of}
use Rattle.path_tree.specs.declared.operators.UnaryOp.{UnaryOp}
use Rattle.path_tree.specs.declared.operators.BinaryOp.{BinaryOp}
use Rattle.path_tree.specs.declared.refused.Refused.{Refused}
use Rattle.path_tree.specs.declared.refused.Refused.TheVariants as refused
use Rattle.dml_ops.specs.Operators.{unary_of, binary_of}
use Rattle.pan_ast.specs.declared.place.Place.{Place}
use Rattle.pan_ast.specs.declared.fault.Code.{Code}
use Rattle.pan_ast.specs.declared.fault.Code.TheVariants as code
use Rattle.questions.specs.Run.{◌>>=◌, give, fail, step}
use Rattle.dml_meaning.specs.Run.{Run}
use Rattle.dml_meaning.specs.Around.{Around}
use Rattle.dml_meaning.specs.Indexes.{at_index}
use Rattle.dml_meaning.specs.Names.{read}

abbrev pub code_of : Refused → Code
code_of refused.TypeClash = code.TypeClash
code_of refused.Overflow = code.Overflow
code_of refused.ZeroDivisor = code.ZeroDivisor
code_of refused.BadArgument = code.BadArgument
code_of refused.BadPattern = code.BadPattern
code_of refused.BadIndex = code.BadIndex
code_of refused.TooLarge = code.TooLarge
code_of refused.Memory = code.TooLarge

abbrev pub or_refuse : Place → Result Plain Refused → Run Plain
or_refuse p (Ok t) = give t
or_refuse p (Err r) = fail (code_of r) p

-- goes on with a text; any other value is a bad argument
abbrev pub on_text_of : Place → (List ℕ → Run Plain) → Option (List ℕ) → Run Plain
on_text_of p next (Some t) = next t
on_text_of p next None = fail code.BadArgument p

abbrev pub on_text : Place → (List ℕ → Run Plain) → Plain → Run Plain
on_text p next v = on_text_of p next (text_of v)

abbrev pub as_boolean : Code → Place → Plain → Run Bool
as_boolean c p (boolean b) = give b
as_boolean c p _ = fail c p

abbrev pub or_bad_index : Place → Option Plain → Run Plain
or_bad_index p (Some t) = give t
or_bad_index p None = fail code.BadIndex p

-- a literal costs a step, and so does a name
abbrev pub literal_run : Place → Plain → Run Plain
literal_run p t = do
  _ ← step p
  give t

abbrev pub name_run : Around → Place → List ℕ → Run Plain
name_run a p x = do
  _ ← step p
  read a p x

-- Chains: an operator is applied after its operands were evaluated, at the place of the chain.

abbrev pub apply_index : Place → Plain → Plain → Run Plain
apply_index p t k = do
  _ ← step p
  or_bad_index p (at_index k t)

abbrev pub apply_binary : Place → BinaryOp → Plain → Plain → Run Plain
apply_binary p op s t = do
  _ ← step p
  or_refuse p (binary_of op s t)

abbrev pub apply_unary : Place → UnaryOp → Plain → Run Plain
apply_unary p op t = do
  _ ← step p
  or_refuse p (unary_of op t)

-- the second operand, which decides
abbrev pub apply_boolean : Place → Plain → Run Plain
apply_boolean p t = do
  _ ← step p
  b ← as_boolean code.TypeClash p t
  give (boolean b)

-- `&&` and `||`: where the first operand does not decide, the second one does
abbrev pub both : Place → Run Plain → Plain → Run Plain
both p second (boolean true) = second >>= apply_boolean p
both p second t = apply_boolean p t

abbrev pub either : Place → Run Plain → Plain → Run Plain
either p second (boolean false) = second >>= apply_boolean p
either p second t = apply_boolean p t
