-- That a case is this one is a proposition: so a tester may keep the fact.
use Rattle.std.specs.Prelude.{◌≡◌, ℕ, List}
use Rattle.std.specs.Coded.{Coded-set, codes}
use Rattle.std.proofs.Props.{props}
use Rattle.path_tree.specs.Code.{plain_code}
use Rattle.pan_ast.specs.declared.work.Limits.{Limits}
use Rattle.runner.specs.declared.ends.Built.{Built}
use Rattle.object_meaning.specs.Rest.{Rest}
use Rattle.object_run.specs.SyntaxCode.{item_code}
use Rattle.object_run.specs.TypeCode.{type_code}
use Rattle.object_run.specs.Testing.{Case, Case-set}

names_set : IsSet (List (List ℕ))
names_set = hlevel props

name_set : IsSet (List ℕ)
name_set = hlevel props

limits_set : IsSet Limits
limits_set = hlevel props

built_set : IsSet (Built Rest)
built_set = Coded-set (Prim.hlevel (codes, plain_code, item_code, type_code))

case_set : IsSet Case
case_set = hlevel (Case-set, name_set, names_set, limits_set, built_set)

pub IsCase-prop : (c d : Case) → IsProp (c ≡ d)
IsCase-prop c d = case_set c d
