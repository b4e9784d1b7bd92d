-- What a definition of a function leaves.
use Rattle.std.specs.Prelude.{ℕ, List, [], ◌∷◌, ◌++◌, Option, Some, None, Result, Ok, Err, if◌then◌else◌}
use Rattle.pan_ast.specs.Syntax.{Item}
use Rattle.dml_meaning.specs.Around.{Function, ValueCalls, is_function}
use Rattle.dml_world.specs.declared.frame.DefineError.{DefineError}
use Rattle.dml_world.specs.declared.frame.DefineError.TheVariants as error

-- the functions with one more; no name of a function is defined again
abbrev pub defined : ValueCalls → List ℕ → Item → List Function
    → Result (List Function) DefineError
defined calls name body fs = if is_function calls fs name then Err error.Redefined
    else Ok (fs ++ record { name = name; body = body } ∷ [])

-- want of memory is no refusal of the definition's
abbrev pub define_refusal : DefineError → Option DefineError
define_refusal error.Memory = None
define_refusal e = Some e
