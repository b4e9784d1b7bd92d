-- A fault of a report for other programs: as a compiler prints it, and as JSON.
use Rattle.std.specs.Prelude.{ℕ, List, [], ◌∷◌, ◌++◌, Option, Some, None, bytes_eq, map, codes, decimal}
use Rattle.std.specs.List.{find, flat_map}
use Rattle.std.specs.Str.Lossy.{utf8_lossy}
use Rattle.json.specs.Json.{Json, null, number, string, array, object, Items, no_items, item, Members, no_members, member}
use Rattle.json.specs.Print.{print}
use Rattle.json.specs.Tree.{json_tokens}
use Rattle.base.specs.Characters.{line_feed}
use Rattle.pan_ast.specs.Codes.{code_text}
use Rattle.pan_ast.specs.declared.fault.Code.{Code}
use Rattle.fault_notes.specs.Lines.{object_in, fault_in, code_in, file_in, line_in, column_in, detail_in}
use Rattle.fault_notes.specs.Meanings.{meaning_of}
use Rattle.fault_notes.specs.Excerpts.{place_number, shown_byte}
use Rattle.fault_notes.specs.Notes.{place, detail_part}
use Rattle.fault_notes.specs.Causes.{default_mark, set_here}
use Rattle.fault_notes.specs.declared.cause.Cause.{Cause}
use Rattle.fault_notes.specs.declared.cause.Setter.{Setter}
use Rattle.fault_notes.specs.declared.printed.Explained.{Explained}
use Rattle.fault_notes.specs.declared.meanings.TheConstants.{CODES}

-- the code that is printed so
abbrev pub code_named : List ℕ → Option Code
code_named text = find (λ code. bytes_eq (code_text code) text) CODES

abbrev pub meant : Option Code → List ℕ
meant None = []
meant (Some code) = codes " " ++ meaning_of code

-- `CODE MEANING: DETAIL`
abbrev pub told_fault : List ℕ → List ℕ
told_fault fault =
    code_in fault ++ meant (code_named (code_in fault)) ++ detail_part (detail_in fault)

abbrev pub owner : List ℕ → List ℕ
owner name = codes " (object " ++ name ++ codes ")\n"

abbrev pub value_text : Option (List ℕ) → List ℕ
value_text None = []
value_text (Some value) = codes ": " ++ map shown_byte value

abbrev pub wanted_text : Option (List ℕ) → List ℕ
wanted_text None = []
wanted_text (Some wanted) = codes ", wanted " ++ map shown_byte wanted

-- `FILE:LINE:COLUMN: note: set here: VALUE, wanted TYPE`
abbrev pub setter_note : Option (List ℕ) → Option (List ℕ) → Option Setter → List ℕ
setter_note value wanted None = []
setter_note value wanted (Some s) =
    s.place ++ set_here value ++ default_mark s.default ++ value_text value ++ wanted_text wanted
    ++ codes "\n"

-- `FILE:LINE:COLUMN: note: reached from here`, the place of a call or an include
abbrev pub reached_note : List ℕ → List ℕ
reached_note origin = origin ++ codes ": note: reached from here\n"

-- of a line of a report `FILE:LINE:COLUMN: error: CODE MEANING: DETAIL (object NAME)`, and behind
-- it who set the value, and the calls and includes inside which the fault is
abbrev pub compiler_line : Explained → List ℕ
compiler_line e =
    place (fault_in e.line) ++ codes ": error: " ++ told_fault (fault_in e.line)
    ++ owner (object_in e.line) ++ setter_note e.cause.value e.cause.wanted e.cause.set_by
    ++ flat_map reached_note e.cause.trace

-- what is not UTF-8 is U+FFFD
abbrev pub text_json : List ℕ → Json
text_json bytes = string (utf8_lossy bytes)

abbrev pub number_json : Option ℕ → Json
number_json None = null
number_json (Some n) = number (decimal n)

abbrev pub name_json : Option Code → Json
name_json None = null
name_json (Some code) = string (meaning_of code)

abbrev pub option_json : Option (List ℕ) → Json
option_json None = null
option_json (Some bytes) = text_json bytes

abbrev pub setter_place : Option Setter → Option (List ℕ)
setter_place None = None
setter_place (Some s) = Some s.place

abbrev pub text_items : List (List ℕ) → Items
text_items [] = no_items
text_items (text ∷ texts) = item (text_json text) (text_items texts)

-- the places of the calls and includes inside which a fault is, the innermost first
abbrev pub trace_json : List (List ℕ) → Json
trace_json origins = array (text_items origins)

-- the value, what is wanted in its place, where it was set, and what led to the fault
abbrev pub cause_members : Cause → Members
cause_members cause =
    member (codes "value") (option_json cause.value)
    (member (codes "expected") (option_json cause.wanted)
    (member (codes "set_by") (option_json (setter_place cause.set_by))
    (member (codes "trace") (trace_json cause.trace) no_members)))

-- where a fault is, and its detail
abbrev pub place_members : List ℕ → Members → Members
place_members fault others =
    member (codes "file") (text_json (file_in fault))
    (member (codes "line") (number_json (place_number (line_in fault)))
    (member (codes "column") (number_json (place_number (column_in fault)))
    (member (codes "detail") (text_json (detail_in fault)) others)))

-- one object of JSON for a line of a report
abbrev pub fault_json : List ℕ → Cause → Json
fault_json line cause = object
    (member (codes "object") (text_json (object_in line))
    (member (codes "code") (text_json (code_in (fault_in line)))
    (member (codes "name") (name_json (code_named (code_in (fault_in line))))
    (place_members (fault_in line) (cause_members cause)))))

abbrev pub json_line : Explained → List ℕ
json_line e = print (json_tokens (fault_json e.line e.cause)) ++ line_feed ∷ []
