-- What is known of the value that a fault is about: which faults are about one, how it is shown,
-- and who set it.
use Rattle.std.specs.Prelude.{ℕ, Bool, true, false, ◌&&◌, List, [], ◌++◌, take, length, nat_lt, if◌then◌else◌, is_some, Option, Some, None, bytes_eq, codes, encode_utf8_all}
use Rattle.std.specs.List.{before_first, find}
use Rattle.std.specs.Str.{chars}
use Rattle.base.specs.declared.limits.TheConstants.{MAX_DETAIL_CHARACTERS}
use Rattle.pan_ast.specs.Codes.{code_text}
use Rattle.pan_ast.specs.declared.fault.Code.TheVariants.{NoTemplate}
use Rattle.fault_notes.specs.Lines.{is_colon, code_in, detail_in}
use Rattle.fault_notes.specs.declared.cause.Setter.{Setter}
use Rattle.fault_notes.specs.declared.cause.TheConstants.{MAX_VALUE_CHARS, VALUE_CODES}

-- the detail of the fault is a path in the profile, and was not cut
abbrev pub has_cause : List ℕ → Bool
has_cause fault =
    nat_lt (length (detail_in fault)) MAX_DETAIL_CHARACTERS
    && is_some (find (λ code. bytes_eq (code_text code) (code_in fault)) VALUE_CODES)

-- the detail of the fault is the name of a template or file that is not there
abbrev pub misses_file : List ℕ → Bool
misses_file fault = bytes_eq (code_text NoTemplate) (code_in fault)

abbrev pub first_chars : List ℕ → List ℕ
first_chars text = encode_utf8_all (take MAX_VALUE_CHARS (chars text))

-- the first characters of a value, and `..` where there are more
abbrev pub shown_value : List ℕ → List ℕ
shown_value text =
    first_chars text ++ (if nat_lt (length (first_chars text)) (length text) then codes ".." else
    [])

abbrev pub setter_file : Setter → List ℕ
setter_file s = before_first is_colon s.place

-- that a value was set; where there is none, that what is around it was
abbrev pub set_by : Option (List ℕ) → List ℕ
set_by None = codes "set around it by "
set_by (Some value) = codes "set by "

abbrev pub set_here : Option (List ℕ) → List ℕ
set_here None = codes ": note: set around it here"
set_here (Some value) = codes ": note: set here"

abbrev pub default_mark : Bool → List ℕ
default_mark true = codes " (default)"
default_mark false = []

-- a place, as the fault without a code that is there
abbrev pub at_place : List ℕ → List ℕ
at_place place = codes " " ++ place
