-- The rows of the functions that turn one value into another, and of parts of texts: what each
-- gives of its arguments.
use Rattle.std.specs.Prelude.{ℕ, ◌-◌, pos, Bool, not, List, [], ◌∷◌, length, take, drop, Option, Some, None, Result, Ok, Err, codes, bytes_eq, encode_utf8_all, if◌then◌else◌}
use Rattle.std.specs.Fmt.{signed_decimal}
use Rattle.std.specs.Str.{chars, is_utf8, str_to_ascii_lowercase, str_to_ascii_uppercase}
use Rattle.std.specs.Ordering.{int_eq}
use Rattle.base.specs.Answers.{given}
use Rattle.path_tree.specs.Escape.{escape, unescape}
use Rattle.path_tree.specs.Plain.{Plain, text, long, boolean}
use Rattle.path_tree.specs.Values.{text_value}
use Rattle.path_tree.specs.declared.refused.Refused.{Refused}
use Rattle.path_tree.specs.declared.refused.Refused.TheVariants.{BadArgument, BadIndex}
use Rattle.call_values.specs.Positions.{position_in}

abbrev pub escape_of : List Plain → Result Plain Refused
escape_of (text t ∷ []) = text_value (escape t)
escape_of _ = Err BadArgument

-- the text of bytes that are UTF-8
abbrev pub if_utf8 : List ℕ → Result Plain Refused
if_utf8 bytes = if is_utf8 bytes then text_value bytes else Err BadArgument

abbrev pub unescape_of : List Plain → Result Plain Refused
unescape_of (text t ∷ []) = if_utf8 (unescape t)
unescape_of _ = Err BadArgument

-- a text, a long in decimal, a boolean by its word
abbrev pub text_of_value : Plain → Option (List ℕ)
text_of_value (text t) = Some t
text_of_value (long z) = Some (signed_decimal z)
text_of_value (boolean b) = Some (if b then codes "true" else codes "false")
text_of_value _ = None

abbrev pub to_string_of : List Plain → Result Plain Refused
to_string_of (v ∷ []) = given BadArgument (text_of_value v) text_value
to_string_of _ = Err BadArgument

abbrev pub to_boolean_of : List Plain → Result Plain Refused
to_boolean_of (boolean b ∷ []) = Ok (boolean b)
to_boolean_of (long z ∷ []) = Ok (boolean (not (int_eq z (pos 0))))
to_boolean_of (text t ∷ []) =
    if bytes_eq t (codes "true") then Ok (boolean Bool.true)
    else if bytes_eq t (codes "false") then Ok (boolean Bool.false)
    else Err BadArgument
to_boolean_of _ = Err BadArgument

abbrev pub to_lowercase_of : List Plain → Result Plain Refused
to_lowercase_of (text t ∷ []) = text_value (str_to_ascii_lowercase t)
to_lowercase_of _ = Err BadArgument

abbrev pub to_uppercase_of : List Plain → Result Plain Refused
to_uppercase_of (text t ∷ []) = text_value (str_to_ascii_uppercase t)
to_uppercase_of _ = Err BadArgument

-- the characters from s on, or n characters from s
abbrev pub substr_of : List Plain → Result Plain Refused
substr_of (text t ∷ long s ∷ []) =
    given BadIndex (position_in (length (chars t)) s) (λ i.
    text_value (encode_utf8_all (drop i (chars t))))
substr_of (text t ∷ long s ∷ long n ∷ []) =
    given BadIndex (position_in (length (chars t)) s) (λ i.
    given BadIndex (position_in (length (chars t) - i) n) (λ m.
    text_value (encode_utf8_all (take m (drop i (chars t))))))
substr_of _ = Err BadArgument
