-- The built-in functions of values by their names, and what each gives of its arguments.
use Rattle.std.specs.Prelude.{ℕ, List, Option, Some, None, Result, option_map}
use Rattle.path_tree.specs.Plain.{Plain}
use Rattle.path_tree.specs.declared.refused.Refused.{Refused}
use Rattle.builtins_text.specs.Calls as texts
use Rattle.builtins_tree.specs.Calls as trees
use Rattle.builtins_code.specs.Calls as codes
use Rattle.value_calls.specs.declared.names.ValueCall.{ValueCall}
use Rattle.value_calls.specs.declared.names.ValueCall.TheVariants as value

abbrev pub or_else : {X : Type 0} → Option X → Option X → Option X
or_else (Some x) next = Some x
or_else None next = next

-- no name stands in two of the tables
abbrev pub find_of : List ℕ → Option ValueCall
find_of name = or_else (option_map value.Text (texts.find_of name))
    (or_else (option_map value.Tree (trees.find_of name))
    (option_map value.Code (codes.find_of name)))

abbrev pub call_of : ValueCall → List Plain → Result Plain Refused
call_of (value.Text call) args = texts.call_of call args
call_of (value.Tree call) args = trees.call_of call args
call_of (value.Code call) args = codes.call_of call args

-- what the function of a name gives, where the name is that of one
abbrev pub value_calls : List ℕ → Option (List Plain → Result Plain Refused)
value_calls name = option_map call_of (find_of name)
