-- The row of `format`: a text in which forms as `%05d` stand for values.
use Rattle.std.specs.Prelude.{Bool, false, ℕ, zero, suc, ◌+◌, ◌-◌, ℤ, ◌==◌, ◌&&◌, not, List, [], ◌∷◌, ◌++◌, drop, take, length, replicate, Option, Some, None, option_map, option_and_then, Result, Err, nat_le, unsigned_abs, if◌then◌else◌}
use Rattle.std.specs.Fmt.{decimal, digits, sign_text}
use Rattle.std.specs.Int.{is_negative}
use Rattle.std.specs.List.{prefix_len}
use Rattle.std.specs.Str.{chars}
use Rattle.base.specs.Answers.{given}
use Rattle.base.specs.Ascii.{is_digit}
use Rattle.base.specs.Characters.{digit_0, lower_x, minus_sign}
use Rattle.base.specs.Integers.{digits_value}
use Rattle.path_tree.specs.Find.{long_of}
use Rattle.path_tree.specs.Plain.{Plain, text}
use Rattle.path_tree.specs.Values.{text_value}
use Rattle.path_tree.specs.declared.refused.Refused.{Refused}
use Rattle.path_tree.specs.declared.refused.Refused.TheVariants.{BadArgument}
use Rattle.builtins_text.specs.Texts.{text_of_value}
use Rattle.builtins_text.specs.declared.forms.TheConstants.{MAX_WIDTH}
use Rattle.builtins_text.specs.declared.forms.Form.{Form}
use Rattle.builtins_text.specs.declared.forms.Flag.{Flag}
use Rattle.builtins_text.specs.declared.forms.Flag.TheVariants as flag
use Rattle.builtins_text.specs.declared.forms.Letter.{Letter}
use Rattle.builtins_text.specs.declared.forms.Letter.TheVariants as letter

abbrev pub space : ℕ
space = 32

abbrev pub percent_sign : ℕ
percent_sign = 37

abbrev pub lower_d : ℕ
lower_d = 100

abbrev pub lower_s : ℕ
lower_s = 115

-- the byte stands first
abbrev pub begins : ℕ → List ℕ → Bool
begins c [] = false
begins c (d ∷ ds) = d == c

-- the flag that stands first
abbrev pub flag_of : List ℕ → Flag
flag_of bytes =
    if begins minus_sign bytes then flag.Left
    else if begins digit_0 bytes then flag.Zeros
    else flag.Unset

-- how many bytes it takes
abbrev pub flag_length : Flag → ℕ
flag_length flag.Unset = 0
flag_length flag.Left = 1
flag_length flag.Zeros = 1

abbrev pub behind_flag : List ℕ → List ℕ
behind_flag bytes = drop (flag_length (flag_of bytes)) bytes

-- how many digits stand first
abbrev pub digit_count : List ℕ → ℕ
digit_count bytes = prefix_len is_digit bytes

-- a width: 1 to MAX_WIDTH without a leading zero; 0 where it is left out
abbrev pub width_of : List ℕ → Option ℕ
width_of [] = Some 0
width_of (c ∷ cs) =
    if not (begins digit_0 (c ∷ cs)) && nat_le (digits_value 10 (c ∷ cs)) MAX_WIDTH
    then Some (digits_value 10 (c ∷ cs)) else None

-- the letter that stands first
abbrev pub letter_of : List ℕ → Option Letter
letter_of bytes =
    if begins lower_s bytes then Some letter.Text
    else if begins lower_d bytes then Some letter.Decimal
    else if begins lower_x bytes then Some letter.Hexadecimal
    else None

abbrev pub form_with : Flag → Option ℕ → Option Letter → Option Form
form_with f (Some n) (Some l) = Some (record { flag = f; width = n; letter = l })
form_with f _ _ = None

-- the form that stands first behind a `%`: a flag, a width, a letter
abbrev pub form_of : List ℕ → Option Form
form_of bytes =
    let rest = behind_flag bytes in
    form_with (flag_of bytes) (width_of (take (digit_count rest) rest))
    (letter_of (drop (digit_count rest) rest))

-- how many bytes it takes
abbrev pub form_length : List ℕ → ℕ
form_length bytes = flag_length (flag_of bytes) + digit_count (behind_flag bytes) + 1

-- blanks before a text, or behind it under `-`
abbrev pub beside : Flag → List ℕ → List ℕ → List ℕ
beside flag.Unset blanks t = blanks ++ t
beside flag.Left blanks t = t ++ blanks
beside flag.Zeros blanks t = blanks ++ t

-- a text with blanks up to the width in characters
abbrev pub padded : Form → List ℕ → List ℕ
padded form t = beside form.flag (replicate (form.width - length (chars t)) space) t

-- digits behind zeros up to a width
abbrev pub with_zeros : ℕ → List ℕ → List ℕ
with_zeros width ds = replicate (width - length ds) digit_0 ++ ds

-- digits behind their sign, padded; under `0` with zeros between
abbrev pub number_by : Flag → Form → List ℕ → List ℕ → List ℕ
number_by flag.Unset form sign ds = padded form (sign ++ ds)
number_by flag.Left form sign ds = padded form (sign ++ ds)
number_by flag.Zeros form sign ds = sign ++ with_zeros (form.width - length sign) ds

abbrev pub number_in : Form → List ℕ → List ℕ → List ℕ
number_in form sign ds = number_by form.flag form sign ds

-- `%s`: no text is padded with zeros
abbrev pub text_by : Flag → Form → Plain → Option (List ℕ)
text_by flag.Unset form v = option_map (padded form) (text_of_value v)
text_by flag.Left form v = option_map (padded form) (text_of_value v)
text_by flag.Zeros form v = None

-- `%d`
abbrev pub decimal_in : Form → ℤ → List ℕ
decimal_in form z = number_in form (sign_text (is_negative z)) (decimal (unsigned_abs z))

-- `%x`
abbrev pub hexadecimal_in : Form → ℤ → Option (List ℕ)
hexadecimal_in form z =
    if is_negative z then None else Some (number_in form [] (digits 16 false (unsigned_abs z)))

-- what a form writes of a value
abbrev pub written_by : Letter → Form → Plain → Option (List ℕ)
written_by letter.Text form v = text_by form.flag form v
written_by letter.Decimal form v = option_map (decimal_in form) (long_of v)
written_by letter.Hexadecimal form v = option_and_then (hexadecimal_in form) (long_of v)

abbrev pub written : Form → Plain → Option (List ℕ)
written form v = written_by form.letter form v

-- the text first, and then more
abbrev pub before : List ℕ → Option (List ℕ) → Option (List ℕ)
before t more = option_map (λ rest. t ++ rest) more

-- what a form writes of the next value, and then what `more` makes of the other values
abbrev pub with_next : Option Form → (List Plain → Option (List ℕ)) → List Plain → Option (List ℕ)
with_next None more vs = None
with_next (Some form) more [] = None
with_next (Some form) more (v ∷ vs) = option_and_then (λ t. before t (more vs)) (written form v)

-- What a format writes of the values once so many of its bytes are passed over: `%%` is one `%`,
-- a form takes the next value, another byte stands for itself, and no value is left.
abbrev pub formatted_after : ℕ → List ℕ → List Plain → Option (List ℕ)
formatted_after passed [] [] = Some []
formatted_after passed [] (v ∷ vs) = None
formatted_after (suc n) (c ∷ cs) vs = formatted_after n cs vs
formatted_after zero (c ∷ cs) vs =
    if not (c == percent_sign) then before (c ∷ []) (formatted_after 0 cs vs)
    else if begins percent_sign cs then before (percent_sign ∷ []) (formatted_after 1 cs vs)
    else with_next (form_of cs) (formatted_after (form_length cs) cs) vs

abbrev pub formatted : List ℕ → List Plain → Option (List ℕ)
formatted bytes vs = formatted_after 0 bytes vs

abbrev pub format_of : List Plain → Result Plain Refused
format_of (text t ∷ vs) = given BadArgument (formatted t vs) text_value
format_of _ = Err BadArgument
