-- What an error of a resolution is to the definition: itself, and nothing where memory was wanting.
use Rattle.std.specs.Prelude.{Option, Some, None}
use Rattle.type_defs.specs.declared.type_error.TypeError.{TypeError}
use Rattle.type_defs.specs.declared.type_error.TypeError.TheVariants as error

abbrev pub type_refusal : TypeError → Option TypeError
type_refusal error.Memory = None
type_refusal e = Some e
