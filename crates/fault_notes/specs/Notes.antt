-- The text for one fault.
use Rattle.std.specs.Prelude.{ℕ, ◌-◌, ◌==◌, if◌then◌else◌, List, [], ◌∷◌, ◌++◌, map, take, length, Option, Some, None, bytes_eq, codes, decimal}
use Rattle.std.specs.List.{find, flat_map, repeat}
use Rattle.pan_ast.specs.Codes.{code_text}
use Rattle.pan_ast.specs.declared.fault.Code.{Code}
use Rattle.fault_notes.specs.Lines.{code_in, file_in, line_in, column_in, detail_in}
use Rattle.fault_notes.specs.Meanings.{meaning_of}
use Rattle.fault_notes.specs.Excerpts.{place_number, line_at, shown_line, shown_byte, indent_to}
use Rattle.fault_notes.specs.Causes.{at_place, default_mark, set_by}
use Rattle.fault_notes.specs.declared.cause.Cause.{Cause}
use Rattle.fault_notes.specs.declared.cause.Setter.{Setter}
use Rattle.fault_notes.specs.declared.meanings.TheConstants.{CODES}
use Rattle.fault_notes.specs.declared.note.Colours.{Colours}
use Rattle.fault_notes.specs.declared.note.Colours.TheVariants.{On, Off}
use Rattle.fault_notes.specs.declared.note.TheConstants.{MAX_TRACE_LINES}
use Rattle.fault_notes.specs.declared.report.Repeated.{Repeated}

-- what a terminal takes for bold red, bold blue, and its own colour
abbrev pub red : Colours → List ℕ
red On = 27 ∷ codes "[1;31m"
red Off = []

abbrev pub blue : Colours → List ℕ
blue On = 27 ∷ codes "[1;34m"
blue Off = []

abbrev pub plain : Colours → List ℕ
plain On = 27 ∷ codes "[0m"
plain Off = []

abbrev pub in_red : Colours → List ℕ → List ℕ
in_red colours text = red colours ++ text ++ plain colours

abbrev pub in_blue : Colours → List ℕ → List ℕ
in_blue colours text = blue colours ++ text ++ plain colours

-- behind a colon, what the code means and the detail, where there are such
abbrev pub meaning_part : Option Code → List ℕ
meaning_part None = []
meaning_part (Some code) = codes ": " ++ meaning_of code

abbrev pub detail_part : List ℕ → List ℕ
detail_part [] = []
detail_part (c ∷ cs) = codes ": " ++ (c ∷ cs)

-- `error CODE: MEANING: DETAIL`
abbrev pub headline : Colours → List ℕ → List ℕ
headline colours fault =
    in_red colours (codes "error " ++ code_in fault)
    ++ meaning_part (find (λ code. bytes_eq (code_text code) (code_in fault)) CODES)
    ++ detail_part (detail_in fault) ++ codes "\n"

-- the first object, and how many others have the fault
abbrev pub others : ℕ → List ℕ
others n =
    if n == 0 then []
    else (if n == 1 then codes ", and 1 other"
    else codes ", and " ++ decimal n ++ codes " others")

abbrev pub objects_part : List (List ℕ) → List ℕ
objects_part [] = []
objects_part (object ∷ objects) =
    codes "  (object " ++ object ++ others (length objects) ++ codes ")"

-- blanks as wide as the number of the line
abbrev pub margin : List ℕ → List ℕ
margin fault = repeat (length (line_in fault)) (32 ∷ [])

abbrev pub place : List ℕ → List ℕ
place fault = file_in fault ++ codes ":" ++ line_in fault ++ codes ":" ++ column_in fault

-- ` --> FILE:LINE:COLUMN  (object NAME, and N others)`
abbrev pub place_line : Colours → List ℕ → List (List ℕ) → List ℕ
place_line colours fault objects =
    margin fault ++ in_blue colours (codes "-->") ++ codes " " ++ place fault
    ++ objects_part objects ++ codes "\n"

-- the bar in front of a line, behind its number
abbrev pub bar : Colours → List ℕ → List ℕ
bar colours number = in_blue colours (number ++ codes " |")

-- a mark below the column
abbrev pub mark : Colours → List ℕ → ℕ → List ℕ → List ℕ
mark colours fault column text =
    margin fault ++ bar colours [] ++ codes " " ++ indent_to column text
    ++ in_red colours (codes "^") ++ codes "\n"

-- the line of the file, with a mark below it
abbrev pub excerpt : Colours → List ℕ → ℕ → List ℕ → List ℕ
excerpt colours fault column text =
    margin fault ++ bar colours [] ++ codes "\n"
    ++ bar colours (line_in fault) ++ codes " " ++ map shown_byte text ++ codes "\n"
    ++ mark colours fault column text

abbrev pub excerpt_of : Colours → List ℕ → ℕ → Option (List ℕ) → List ℕ
excerpt_of colours fault column None = []
excerpt_of colours fault column (Some text) = excerpt colours fault column text

abbrev pub excerpt_at : Colours → List ℕ → List ℕ → Option ℕ → Option ℕ → List ℕ
excerpt_at colours fault source None column = []
excerpt_at colours fault source (Some line) None = []
excerpt_at colours fault source (Some line) (Some column) =
    excerpt_of colours fault column (shown_line (line_at line source))

abbrev pub excerpt_in : Colours → List ℕ → List ℕ → List ℕ
excerpt_in colours fault source =
    excerpt_at colours fault source (place_number (line_in fault)) (place_number (column_in fault))

-- nothing where the file is not at hand
abbrev pub excerpt_part : Colours → List ℕ → Option (List ℕ) → List ℕ
excerpt_part colours fault None = []
excerpt_part colours fault (Some source) = excerpt_in colours fault source

-- ` = ` behind the margin
abbrev pub equals : Colours → List ℕ → List ℕ
equals colours fault = margin fault ++ codes " " ++ in_blue colours (codes "=") ++ codes " "

-- ` = LABEL TEXT`, where there is a text
abbrev pub fact : Colours → List ℕ → List ℕ → Option (List ℕ) → List ℕ
fact colours fault label None = []
fact colours fault label (Some text) =
    equals colours fault ++ label ++ map shown_byte text ++ codes "\n"

-- ` = set by FILE:LINE:COLUMN`, and whether that was a default; of no value who set what is around it
abbrev pub setter_line : Colours → List ℕ → Option (List ℕ) → Setter → List ℕ
setter_line colours fault value s =
    equals colours fault ++ set_by value ++ s.place ++ default_mark s.default ++ codes "\n"

-- .. with the line of the file
abbrev pub setter_part : Colours → List ℕ → Option (List ℕ) → Option Setter → Option (List ℕ)
    → List ℕ
setter_part colours fault value None source = []
setter_part colours fault value (Some s) source =
    setter_line colours fault value s ++ excerpt_part colours (at_place s.place) source

-- the value, what is wanted, and the files that were looked for
abbrev pub facts_part : Colours → List ℕ → Cause → List ℕ
facts_part colours fault cause =
    fact colours fault (codes "value: ") cause.value
    ++ fact colours fault (codes "wanted: ") cause.wanted
    ++ fact colours fault (codes "looked for: ") cause.looked_for

-- ` = reached from FILE:LINE:COLUMN`, the place of a call or an include
abbrev pub trace_line : Colours → List ℕ → List ℕ → List ℕ
trace_line colours fault origin = fact colours fault (codes "reached from ") (Some origin)

abbrev pub places_more : ℕ → List ℕ
places_more n = if n == 1 then codes "1 place more" else decimal n ++ codes " places more"

-- ` = LABEL N places more`
abbrev pub count_fact : Colours → List ℕ → List ℕ → ℕ → List ℕ
count_fact colours fault label n =
    equals colours fault ++ label ++ places_more n ++ codes "\n"

-- ` = reached from N places more`, where there are more than are told
abbrev pub trace_rest : Colours → List ℕ → ℕ → List ℕ
trace_rest colours fault n =
    if n == 0 then [] else count_fact colours fault (codes "reached from ") n

-- the first places, and how many more there are
abbrev pub trace_part : Colours → List ℕ → List (List ℕ) → List ℕ
trace_part colours fault origins =
    flat_map (trace_line colours fault) (take MAX_TRACE_LINES origins)
    ++ trace_rest colours fault (length origins - MAX_TRACE_LINES)

-- what is known of the value, who set it, from the bytes of the setter's file, and the calls and
-- includes inside which the fault is
abbrev pub cause_part : Colours → List ℕ → Cause → Option (List ℕ) → List ℕ
cause_part colours fault cause source =
    facts_part colours fault cause ++ setter_part colours fault cause.value cause.set_by source
    ++ trace_part colours fault cause.trace

-- the note, from the bytes of the file in which the fault is, and of the setter's file
abbrev pub note_of : Colours → Repeated → Option (List ℕ) → Cause → Option (List ℕ)
    → List ℕ
note_of colours told source cause set_in =
    headline colours told.fault ++ place_line colours told.fault told.objects
    ++ excerpt_part colours told.fault source ++ cause_part colours told.fault cause set_in
    ++ codes "\n"

-- how many different faults are not told
abbrev pub rest_of : ℕ → List ℕ
rest_of n =
    if n == 0 then []
    else (if n == 1 then codes "and 1 different fault more\n"
    else codes "and " ++ decimal n ++ codes " different faults more\n")
