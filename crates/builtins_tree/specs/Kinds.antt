-- The rows of the functions that ask for the kind of a value.
use Rattle.std.specs.Prelude.{Bool, true, false, List, [], ◌∷◌, Result, Ok, Err}
use Rattle.path_tree.specs.Find.{kind_of}
use Rattle.path_tree.specs.Plain.{Plain, boolean}
use Rattle.path_tree.specs.declared.kind.Kind.{Kind}
use Rattle.path_tree.specs.declared.kind.Kind.TheVariants as kind
use Rattle.path_tree.specs.declared.refused.Refused.{Refused}
use Rattle.path_tree.specs.declared.refused.Refused.TheVariants.{BadArgument}
use Rattle.builtins_tree.specs.declared.kinds.Test.{Test}
use Rattle.builtins_tree.specs.declared.kinds.Test.TheVariants as test

abbrev pub is_list : Kind → Bool
is_list kind.List = true
is_list _ = false

abbrev pub is_dict : Kind → Bool
is_dict kind.Dict = true
is_dict _ = false

-- a text, a long or a boolean
abbrev pub is_property : Kind → Bool
is_property kind.Text = true
is_property kind.Long = true
is_property kind.Bool = true
is_property _ = false

-- whether a kind passes a test
abbrev pub passes : Test → Kind → Bool
passes test.Defined kind.Undef = false
passes test.Defined kind.Null = false
passes test.Defined _ = true
passes test.Boolean kind.Bool = true
passes test.Boolean _ = false
passes test.Long kind.Long = true
passes test.Long _ = false
passes test.Text kind.Text = true
passes test.Text _ = false
passes test.Property k = is_property k
passes test.Resource kind.Dict = true
passes test.Resource kind.List = true
passes test.Resource _ = false
passes test.List k = is_list k
passes test.Dict k = is_dict k
passes test.Null kind.Null = true
passes test.Null _ = false

-- whether the one argument passes
abbrev pub test_of : Test → List Plain → Result Plain Refused
test_of t (v ∷ []) = Ok (boolean (passes t (kind_of v)))
test_of t _ = Err BadArgument
