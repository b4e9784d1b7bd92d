-- The functions by their names.
use Rattle.std.specs.Prelude.{ℕ, List, [], ◌∷◌, Option, Result, codes}
use Rattle.path_tree.specs.Lists.{list_of}
use Rattle.path_tree.specs.Plain.{Plain}
use Rattle.path_tree.specs.declared.refused.Refused.{Refused}
use Rattle.call_values.specs.Names.{found_in}
use Rattle.builtins_tree.specs.Dicts.{dict_of}
use Rattle.builtins_tree.specs.Kinds.{test_of}
use Rattle.builtins_tree.specs.Lists.{append_of, prepend_of}
use Rattle.builtins_tree.specs.Merges.{merge_of}
use Rattle.builtins_tree.specs.Reads.{clone_of, key_of, length_of}
use Rattle.builtins_tree.specs.Searches.{index_of}
use Rattle.builtins_tree.specs.Splices.{splice_of}
use Rattle.builtins_tree.specs.declared.kinds.Test.TheVariants as test
use Rattle.builtins_tree.specs.declared.names.Call.{Call}
use Rattle.builtins_tree.specs.declared.names.Call.TheVariants.{List as ListCall, Dict, Nlist, Append, Prepend, Splice, Merge, Key, Length, IsDefined, IsBoolean, IsLong, IsString, IsNumber, IsProperty, IsResource, IsList, IsDict, IsNlist, IsNull, Clone, Index}

-- each name with its function
abbrev pub names : List (List ℕ × Call)
names =
    (codes "list", ListCall) ∷ (codes "dict", Dict) ∷ (codes "nlist", Nlist)
    ∷ (codes "append", Append) ∷ (codes "prepend", Prepend) ∷ (codes "splice", Splice)
    ∷ (codes "merge", Merge) ∷ (codes "key", Key) ∷ (codes "length", Length)
    ∷ (codes "is_defined", IsDefined) ∷ (codes "is_boolean", IsBoolean)
    ∷ (codes "is_long", IsLong) ∷ (codes "is_string", IsString) ∷ (codes "is_number", IsNumber)
    ∷ (codes "is_property", IsProperty) ∷ (codes "is_resource", IsResource)
    ∷ (codes "is_list", IsList) ∷ (codes "is_dict", IsDict) ∷ (codes "is_nlist", IsNlist)
    ∷ (codes "is_null", IsNull) ∷ (codes "clone", Clone) ∷ (codes "index", Index) ∷ []

-- the function of a name
abbrev pub find_of : List ℕ → Option Call
find_of name = found_in names name

-- what a function gives of its arguments
abbrev pub call_of : Call → List Plain → Result Plain Refused
call_of ListCall args = list_of args
call_of Dict args = dict_of args
call_of Nlist args = dict_of args
call_of Append args = append_of args
call_of Prepend args = prepend_of args
call_of Splice args = splice_of args
call_of Merge args = merge_of args
call_of Key args = key_of args
call_of Length args = length_of args
call_of IsDefined args = test_of test.Defined args
call_of IsBoolean args = test_of test.Boolean args
call_of IsLong args = test_of test.Long args
call_of IsString args = test_of test.Text args
call_of IsNumber args = test_of test.Long args
call_of IsProperty args = test_of test.Property args
call_of IsResource args = test_of test.Resource args
call_of IsList args = test_of test.List args
call_of IsDict args = test_of test.Dict args
call_of IsNlist args = test_of test.Dict args
call_of IsNull args = test_of test.Null args
call_of Clone args = clone_of args
call_of Index args = index_of args
