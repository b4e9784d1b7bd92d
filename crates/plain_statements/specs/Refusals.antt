-- The faults of refused changes, at a place; want of memory, and only that, is its own.
use Rattle.std.specs.Prelude.{◌≡◌, ℕ, List}
use Rattle.pan_ast.specs.declared.place.Place.{Place}
use Rattle.pan_ast.specs.declared.fault.Code.TheVariants as code
use Rattle.pan_ast.specs.Detail.{fault_at, fault_with}
use Rattle.path_tree.specs.declared.path.PutError.TheVariants as put_error
use Rattle.assign_rules.specs.declared.profile.AssignError.{AssignError}
use Rattle.assign_rules.specs.declared.profile.AssignError.TheVariants as assign_error
use Rattle.assign_rules.specs.declared.globals.SetError.{SetError}
use Rattle.assign_rules.specs.declared.globals.SetError.TheVariants as set_error
use Rattle.type_defs.specs.declared.type_error.TypeError.{TypeError}
use Rattle.type_defs.specs.declared.type_error.TypeError.TheVariants as type_error
use Rattle.dml_world.specs.declared.stop.Stop.{Stop}
use Rattle.dml_world.specs.declared.stop.Stop.TheVariants as stop
use Rattle.dml_world.specs.Exits.{IsStop}

-- of an assignment to a path as it is written
abbrev pub IsUnassigned : AssignError → Stop → Place → List ℕ → Type 0
IsUnassigned assign_error.Memory x p d = x ≡ stop.Memory
IsUnassigned (assign_error.Put put_error.TooLarge) x p d = IsStop x (fault_at code.TooLarge p)
IsUnassigned (assign_error.Put put_error.TooHigh) x p d = IsStop x (fault_at code.TooLarge p)
IsUnassigned _ x p d = IsStop x (fault_with code.BadPath p d)

-- of a change of a variable
abbrev pub IsUnset : SetError → Stop → Place → List ℕ → Type 0
IsUnset set_error.Memory x p d = x ≡ stop.Memory
IsUnset set_error.Automatic x p d = IsStop x (fault_with code.GlobalChange p d)
IsUnset set_error.Final x p d = IsStop x (fault_with code.Final p d)

-- of a type
abbrev pub IsUntyped : TypeError → Stop → Type 0
IsUntyped type_error.Memory x = x ≡ stop.Memory
IsUntyped (type_error.NoType p name) x = IsStop x (fault_with code.NoType p name)
IsUntyped (type_error.Redefined p key) x = IsStop x (fault_with code.Redefined p key)
IsUntyped (type_error.BadRange p) x = IsStop x (fault_at code.BadRange p)
IsUntyped (type_error.TooDeep p) x = IsStop x (fault_at code.TooDeep p)
