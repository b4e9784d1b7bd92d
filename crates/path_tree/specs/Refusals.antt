-- What an error of a call is to the definition that the call gives: itself, and nothing where
-- memory was wanting.
use Rattle.std.specs.Prelude.{Option, Some, None}
use Rattle.path_tree.specs.declared.refused.Refused.{Refused}
use Rattle.path_tree.specs.declared.refused.Refused.TheVariants as refused
use Rattle.path_tree.specs.declared.path.PathError.{PathError}
use Rattle.path_tree.specs.declared.path.PathError.TheVariants as path_error
use Rattle.path_tree.specs.declared.path.PutError.{PutError}
use Rattle.path_tree.specs.declared.path.PutError.TheVariants as put_error

abbrev pub refusal : Refused → Option Refused
refusal refused.Memory = None
refusal e = Some e

abbrev pub path_refusal : PathError → Option PathError
path_refusal path_error.Memory = None
path_refusal e = Some e

abbrev pub put_refusal : PutError → Option PutError
put_refusal put_error.Memory = None
put_refusal e = Some e
