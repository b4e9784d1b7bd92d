-- The fault that a failed call answers. Out of memory says nothing of the template.
use Rattle.std.specs.Prelude.{Option, Some, None}
use Rattle.pan_ast.specs.declared.fault.Fault.{Fault}
use Rattle.pan_ast.specs.declared.failure.Failure.{Failure}
use Rattle.pan_ast.specs.declared.failure.Failure.TheVariants as failures

abbrev pub fault_of : Failure → Option Fault
fault_of (failures.Fault f) = Some f
fault_of failures.Memory = None
