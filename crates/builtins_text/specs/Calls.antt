-- The functions by their names.
use Rattle.std.specs.Prelude.{ℕ, List, [], ◌∷◌, Option, Result, codes}
use Rattle.path_tree.specs.Plain.{Plain}
use Rattle.path_tree.specs.declared.refused.Refused.{Refused}
use Rattle.call_values.specs.Names.{found_in}
use Rattle.builtins_text.specs.Texts.{escape_of, to_lowercase_of, substr_of, to_boolean_of, to_string_of, unescape_of, to_uppercase_of}
use Rattle.builtins_text.specs.Numbers.{to_long_of}
use Rattle.builtins_text.specs.Joins.{join_of}
use Rattle.builtins_text.specs.Formats.{format_of}
use Rattle.builtins_text.specs.Addresses.{ip4_to_long_of, long_to_ip4_of}
use Rattle.builtins_text.specs.declared.names.Call.{Call}
use Rattle.builtins_text.specs.declared.names.Call.TheVariants.{Escape, Unescape, ToString, ToLong, ToBoolean, ToLowercase, ToUppercase, Substr, Join, Format, Ip4ToLong, LongToIp4}

-- each name with its function
abbrev pub names : List (List ℕ × Call)
names =
    (codes "escape", Escape) ∷ (codes "unescape", Unescape) ∷ (codes "to_string", ToString)
    ∷ (codes "to_long", ToLong) ∷ (codes "to_boolean", ToBoolean)
    ∷ (codes "to_lowercase", ToLowercase) ∷ (codes "to_uppercase", ToUppercase)
    ∷ (codes "substr", Substr) ∷ (codes "join", Join) ∷ (codes "format", Format)
    ∷ (codes "ip4_to_long", Ip4ToLong) ∷ (codes "long_to_ip4", LongToIp4) ∷ []

-- the function of a name
abbrev pub find_of : List ℕ → Option Call
find_of name = found_in names name

-- what a function gives of its arguments
abbrev pub call_of : Call → List Plain → Result Plain Refused
call_of Escape args = escape_of args
call_of Unescape args = unescape_of args
call_of ToString args = to_string_of args
call_of ToLong args = to_long_of args
call_of ToBoolean args = to_boolean_of args
call_of ToLowercase args = to_lowercase_of args
call_of ToUppercase args = to_uppercase_of args
call_of Substr args = substr_of args
call_of Join args = join_of args
call_of Format args = format_of args
call_of Ip4ToLong args = ip4_to_long_of args
call_of LongToIp4 args = long_to_ip4_of args
