-- The fields of rows.
use Rattle.std.specs.Prelude.{ℕ, List, [], ◌∷◌, length, Option, Some, None, Result, Ok, Err, Bool, true, ◌&&◌, not, ◌⊎◌, ◌==◌, nat_le, nat_lt, find}
use Rattle.std.specs.List.{list_all}
use mathlib.Core.Logic.{inl, inr}
use Rattle.base.specs.declared.limits.TheConstants.{MAX_DETAIL_CHARACTERS, MAX_FILE_BYTES}
use Rattle.base.specs.Characters.{colon}
use Rattle.load_path.specs.declared.picture.Content.{Content}
use Rattle.load_path.specs.declared.picture.Content.TheVariants.{Bytes, TooLong}
use Rattle.load_path.specs.FileNames.{is_file_name}
use Rattle.pan_ast.specs.declared.fault.Code.{Code}
use Rattle.pan_ast.specs.declared.fault.Code.TheVariants as code
use Rattle.pan_ast.specs.declared.fault.Fault.{Fault}
use Rattle.pan_ast.specs.declared.place.Place.{Place}
use Rattle.pan_ast.specs.declared.work.Limits.{Limits}
use Rattle.pan_ast.specs.Codes.{code_number}
use Rattle.pan_ast.specs.Detail.{first_chars}
use Rattle.path_tree.specs.Grammar.{is_name}
use Rattle.path_tree.specs.Plain.{Plain}
use Rattle.path_tree.specs.declared.path.Term.{Term}
use Rattle.path_tree.specs.declared.path.Term.TheVariants as term
use Rattle.questions.specs.declared.key.Key.{Key}
use Rattle.questions.specs.declared.key.Key.TheVariants.{File, Under}
use Rattle.read_sets.specs.declared.trace.Item.{Item}
use Rattle.read_sets.specs.Items.{keys_in, are_once}
use Rattle.kept_state.specs.declared.limits.TheConstants.{FIRST_NUMBER, MAX_ASKED_BYTES, MAX_INDEX, MAX_ITEMS, MAX_TERMS}
use Rattle.load_path.specs.declared.limits.TheConstants.{MAX_PARTS, MAX_ITERATIONS, MAX_RECURSION}
use Rattle.asking.specs.declared.limits.TheConstants.{END_OF_NUMBERS}
use Rattle.record_rows.specs.declared.format.Format.{Format}
use Rattle.record_rows.specs.declared.format.Format.TheVariants.{First, Second, Third}
use Rattle.record_rows.specs.Forms.{Form, nothing, one_of, number32, number64, bytes_form, only, seen_as, seen_where, pair, either, list, text, is_empty}
use Rattle.record_rows.specs.Trees.{dict_key, tree}

-- ---- names, keys and items

-- 1 to 2,000 bytes
abbrev pub is_asked : List ℕ → Bool
is_asked name = nat_lt 0 (length name) && nat_le (length name) MAX_ASKED_BYTES

abbrev pub file_text : Form (List ℕ)
file_text = only is_asked text

abbrev pub name_text : Form (List ℕ)
name_text = only is_name text

abbrev pub term_of : List ℕ ⊎ ℕ → Term
term_of (inl k) = term.Key k
term_of (inr i) = term.Index i

abbrev pub of_term : Term → List ℕ ⊎ ℕ
of_term (term.Key k) = inl k
of_term (term.Index i) = inr i

abbrev pub index : Form ℕ
index = only (λ i. nat_le i MAX_INDEX) number32

abbrev pub a_term : Form Term
a_term = seen_as term_of of_term (either dict_key index)

abbrev pub terms : Form (List Term)
terms = only (λ ts. nat_le (length ts) MAX_TERMS) (list a_term)

abbrev pub key_of : List ℕ ⊎ (List ℕ × List Term) → Key
key_of (inl file) = File file
key_of (inr (object, ts)) = Under object ts

abbrev pub of_key : Key → List ℕ ⊎ (List ℕ × List Term)
of_key (File file) = inl file
of_key (Under object ts) = inr (object, ts)

abbrev pub key : Form Key
key = seen_as key_of of_key (either file_text (pair name_text terms))

-- in the first format an object is asked for as a whole
abbrev pub no_terms : List ℕ → List ℕ × List Term
no_terms object = (object, [])

abbrev pub of_no_terms : List ℕ × List Term → List ℕ
of_no_terms (object, ts) = object

abbrev pub has_no_terms : List ℕ × List Term → Bool
has_no_terms (object, ts) = is_empty ts

abbrev pub whole_key : Form Key
whole_key = seen_as key_of of_key
    (either file_text (seen_where has_no_terms no_terms of_no_terms name_text))

abbrev pub key_in : Format → Form Key
key_in First = whole_key
key_in Second = key
key_in Third = key

-- no file has the number 2
abbrev pub may_have : Key → ℕ → Bool
may_have (File file) n = not (n == 2)
may_have (Under object ts) n = true

abbrev pub item_of : Key × ℕ → Item
item_of (key, number) = record { key = key; number = number }

abbrev pub of_item : Item → Key × ℕ
of_item item = (item.key, item.number)

-- its number is below the counter
abbrev pub is_item : ℕ → Item → Bool
is_item counter item = nat_lt item.number counter && may_have item.key item.number

abbrev pub item_in : Format → ℕ → Form Item
item_in format counter =
    only (is_item counter) (seen_as item_of of_item (pair (key_in format) number64))

-- each key once
abbrev pub is_trace : List Item → Bool
is_trace items = nat_le (length items) MAX_ITEMS && are_once (keys_in items)

abbrev pub trace_in : Format → ℕ → Form (List Item)
trace_in format counter = only is_trace (list (item_in format counter))

-- ---- faults

abbrev pub all_codes : List Code
all_codes = code.BadCharacter ∷ code.NotUtf8 ∷ code.OpenText ∷ code.Double ∷ code.IntegerTooLarge
    ∷ code.BadSyntax ∷ code.TooDeep ∷ code.TypeClash ∷ code.Overflow ∷ code.ZeroDivisor
    ∷ code.BadArgument ∷ code.BadPattern ∷ code.BadIndex ∷ code.TooLarge ∷ code.Final
    ∷ code.BadPath ∷ code.GlobalChange ∷ code.NoVariable ∷ code.NoFunction ∷ code.Iterations
    ∷ code.CallDepth ∷ code.WorkSpent ∷ code.UserError ∷ code.NotBoolean ∷ code.SelfChange
    ∷ code.NoPath ∷ code.NoObject ∷ code.ForeignFailed ∷ code.Circular ∷ code.NoType
    ∷ code.Redefined ∷ code.BadRange ∷ code.WrongType ∷ code.OutOfRange ∷ code.MissingField
    ∷ code.ExtraField ∷ code.FalseTest ∷ code.FalseValid ∷ code.UndefLeft ∷ code.NoBoundPath
    ∷ code.NoTemplate ∷ code.WrongKind ∷ code.WrongStatement ∷ code.WrongTemplate
    ∷ code.IncludeDepth ∷ code.FileTooLong ∷ []

-- the code with this number
abbrev pub code_by : ℕ → Option Code
code_by n = find (λ c. code_number c == n) all_codes

-- lines and columns count from 1
abbrev pub place_number : Form ℕ
place_number = only (λ n. nat_lt 0 n) number32

-- no more characters than a fault keeps
abbrev pub is_detail : List ℕ → Bool
is_detail detail = length (first_chars MAX_DETAIL_CHARACTERS detail) == length detail

abbrev pub place_of : List ℕ × (ℕ × ℕ) → Place
place_of (file, (line, column)) = record { file = file; line = line; column = column }

abbrev pub of_place : Place → List ℕ × (ℕ × ℕ)
of_place p = (p.file, (p.line, p.column))

abbrev pub place : Form Place
place = seen_as place_of of_place (pair file_text (pair place_number place_number))

abbrev pub code_form : Form Code
code_form = one_of code_number code_by

abbrev pub detail_text : Form (List ℕ)
detail_text = only is_detail text

abbrev pub fault_of : Code × (Place × List ℕ) → Fault
fault_of (c, (p, detail)) = record { code = c; place = p; detail = detail }

abbrev pub of_fault : Fault → Code × (Place × List ℕ)
of_fault f = (f.code, (f.place, f.detail))

abbrev pub fault : Form Fault
fault = seen_as fault_of of_fault (pair code_form (pair place detail_text))

-- ---- results

abbrev pub built_of : Plain ⊎ Fault → Result Plain Fault
built_of (inl t) = Ok t
built_of (inr f) = Err f

abbrev pub of_built : Result Plain Fault → Plain ⊎ Fault
of_built (Ok t) = inl t
of_built (Err f) = inr f

abbrev pub built : Form (Result Plain Fault)
built = seen_as built_of of_built (either tree fault)

abbrev pub verdict_of : Unit {0} ⊎ Fault → Option Fault
verdict_of (inl x) = None
verdict_of (inr f) = Some f

abbrev pub of_verdict : Option Fault → Unit {0} ⊎ Fault
of_verdict None = inl tt
of_verdict (Some f) = inr f

abbrev pub verdict : Form (Option Fault)
verdict = seen_as verdict_of of_verdict (either nothing fault)

-- ---- files

abbrev pub content_of : Unit {0} ⊎ List ℕ → Content
content_of (inl x) = TooLong
content_of (inr bytes) = Bytes bytes

abbrev pub of_content : Content → Unit {0} ⊎ List ℕ
of_content TooLong = inl tt
of_content (Bytes bytes) = inr bytes

abbrev pub short_bytes : Form (List ℕ)
short_bytes = only (λ bytes. nat_le (length bytes) MAX_FILE_BYTES) bytes_form

abbrev pub content : Form Content
content = seen_as content_of of_content (either nothing short_bytes)

-- ---- the header

abbrev pub format_number : Format → ℕ
format_number First = 1
format_number Second = 2
format_number Third = 3

abbrev pub all_formats : List Format
all_formats = First ∷ Second ∷ Third ∷ []

abbrev pub format_by : ℕ → Option Format
format_by n = find (λ f. format_number f == n) all_formats

pub record Header : Type 0 where
  pub format : Format
  pub counter : ℕ
  pub limits : Limits
  pub dirs : List (List ℕ)

abbrev pub is_counter : ℕ → Bool
is_counter n = nat_le FIRST_NUMBER n && nat_le n END_OF_NUMBERS

abbrev pub is_limit : ℕ → ℕ → Bool
is_limit most n = nat_le 1 n && nat_le n most

abbrev pub has_no_colon : List ℕ → Bool
has_no_colon name = list_all (λ b. not (b == colon)) name

-- the directory of all files, or a file name without a colon
abbrev pub is_directory : List ℕ → Bool
is_directory [] = true
is_directory (c ∷ cs) = is_file_name (c ∷ cs) && has_no_colon (c ∷ cs)

abbrev pub are_directories : List (List ℕ) → Bool
are_directories dirs = nat_le 1 (length dirs) && nat_le (length dirs) MAX_PARTS

abbrev pub header_of : Format × (ℕ × (ℕ × (ℕ × List (List ℕ)))) → Header
header_of (format, (counter, (iterations, (recursion, dirs)))) = record {
  format = format;
  counter = counter;
  limits = record { max_iteration = iterations; max_recursion = recursion };
  dirs = dirs;
}

abbrev pub of_header : Header → Format × (ℕ × (ℕ × (ℕ × List (List ℕ))))
of_header h =
    (h.format, (h.counter, (h.limits.max_iteration, (h.limits.max_recursion, h.dirs))))

abbrev pub format_form : Form Format
format_form = one_of format_number format_by

abbrev pub counter_number : Form ℕ
counter_number = only is_counter number64

abbrev pub limit_number : ℕ → Form ℕ
limit_number most = only (is_limit most) number64

abbrev pub directory : Form (List ℕ)
directory = only is_directory text

abbrev pub directories : Form (List (List ℕ))
directories = only are_directories (list directory)

abbrev pub header : Form Header
header = seen_as header_of of_header (pair format_form (pair counter_number
    (pair (limit_number MAX_ITERATIONS) (pair (limit_number MAX_RECURSION) directories))))
