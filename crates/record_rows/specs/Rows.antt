-- What is kept, as rows: one for each file, a header, and one for each object.
use Rattle.std.specs.Prelude.{◌≡◌, ℕ, List, [], ◌∷◌, ◌++◌, map, Option, Result, Ok, Err, Bool, true, ◌&&◌, not, ◌⊎◌, ◌==◌, cond, is_none, length, nat_le, nat_lt, codes}
use Rattle.std.specs.List.{list_all, list_any}
use Rattle.load_path.specs.declared.picture.Content.{Content}
use Rattle.load_path.specs.declared.picture.Content.TheVariants.{Bytes, TooLong}
use Rattle.load_path.specs.FileNames.{is_file_name}
use Rattle.pan_ast.specs.declared.fault.Fault.{Fault}
use Rattle.path_tree.specs.Grammar.{is_name}
use Rattle.path_tree.specs.Plain.{Plain}
use Rattle.questions.specs.Laws.{is_circular}
use Rattle.read_sets.specs.declared.trace.Item.{Item}
use Rattle.kept_state.specs.declared.kept.KeptFile.{KeptFile}
use Rattle.kept_state.specs.declared.kept.KeptObject.{KeptObject}
use Rattle.load_path.specs.declared.limits.TheConstants.{DEFAULT_ITERATIONS, DEFAULT_RECURSION}
use Rattle.kept_state.specs.declared.limits.TheConstants.{FIRST_NUMBER}
use Rattle.kept_state.specs.Stored.{Stored, file_name, object_name}
use Rattle.stored_rows.specs.declared.row.StoredRow.{StoredRow}
use Rattle.stored_rows.specs.Rows.{are_rising}
use Rattle.record_rows.specs.declared.format.Format.{Format}
use Rattle.record_rows.specs.declared.format.Format.TheVariants.{First, Second, Third}
use Rattle.record_rows.specs.Forms.{Form, number64, only, seen_as, pair}
use Rattle.record_rows.specs.Fields.{Header, header, content, built, verdict, trace_in}

-- ---- a file's row

pub record FileParts : Type 0 where
  pub number : ℕ
  pub content : Content

abbrev pub file_parts_of : ℕ × Content → FileParts
file_parts_of (number, content) = record { number = number; content = content }

abbrev pub of_file_parts : FileParts → ℕ × Content
of_file_parts p = (p.number, p.content)

-- a number that was drawn
abbrev pub is_drawn : ℕ → ℕ → Bool
is_drawn counter n = nat_le FIRST_NUMBER n && nat_lt n counter

abbrev pub has_file_number : ℕ → ℕ → Content → Bool
has_file_number counter n TooLong = n == 1
has_file_number counter n (Bytes bytes) = is_drawn counter n

abbrev pub are_file_parts : ℕ → FileParts → Bool
are_file_parts counter p = has_file_number counter p.number p.content

abbrev pub file_parts : ℕ → Form FileParts
file_parts counter = only (are_file_parts counter)
    (seen_as file_parts_of of_file_parts (pair number64 content))

abbrev pub parts_of_file : KeptFile → FileParts
parts_of_file f = record { number = f.number; content = f.content }

abbrev pub file_row : ℕ → KeptFile → StoredRow
file_row counter f = record {
  name = codes "f/" ++ f.name;
  bytes = (file_parts counter).spell (parts_of_file f);
}

abbrev pub is_kept_file : ℕ → KeptFile → Bool
is_kept_file counter f = is_file_name f.name && (file_parts counter).fits (parts_of_file f)

-- ---- an object's row

pub record ObjectParts : Type 0 where
  pub number : ℕ
  pub built : Result Plain Fault
  pub build_reads : List Item
  pub verdict : Option Fault
  pub check_reads : List Item

abbrev pub object_parts_of :
    ℕ × (Result Plain Fault × (List Item × (Option Fault × List Item))) → ObjectParts
object_parts_of (number, (built, (build_reads, (verdict, check_reads)))) = record {
  number = number;
  built = built;
  build_reads = build_reads;
  verdict = verdict;
  check_reads = check_reads;
}

abbrev pub of_object_parts :
    ObjectParts → ℕ × (Result Plain Fault × (List Item × (Option Fault × List Item)))
of_object_parts p = (p.number, (p.built, (p.build_reads, (p.verdict, p.check_reads))))

-- a build that failed has a number of its own, and was not checked
abbrev pub are_parts_by : ℕ → Result Plain Fault → ObjectParts → Bool
are_parts_by counter (Ok t) p = is_drawn counter p.number
are_parts_by counter (Err f) p = (p.number == cond (is_circular f.code) 2 1)
    && is_none p.verdict && (length p.check_reads == 0)

abbrev pub are_object_parts : ℕ → ObjectParts → Bool
are_object_parts counter p = are_parts_by counter p.built p

abbrev pub object_parts : Format → ℕ → Form ObjectParts
object_parts format counter = only (are_object_parts counter)
    (seen_as object_parts_of of_object_parts (pair number64 (pair built
    (pair (trace_in format counter) (pair verdict (trace_in format counter))))))

abbrev pub parts_of_object : KeptObject → ObjectParts
parts_of_object o = record {
  number = o.number;
  built = o.built;
  build_reads = o.build_reads;
  verdict = o.verdict;
  check_reads = o.check_reads;
}

abbrev pub object_row : Format → ℕ → KeptObject → StoredRow
object_row format counter o = record {
  name = codes "o/" ++ o.name;
  bytes = (object_parts format counter).spell (parts_of_object o);
}

abbrev pub is_kept_object : Format → ℕ → KeptObject → Bool
is_kept_object format counter o =
    is_name o.name && (object_parts format counter).fits (parts_of_object o)

-- ---- all rows

abbrev pub header_in : Format → Stored → Header
header_in format s =
    record { format = format; counter = s.counter; limits = s.limits; dirs = s.dirs }

abbrev pub header_row : Header → StoredRow
header_row h = record { name = codes "h"; bytes = header.spell h }

abbrev pub rows_in : Format → Stored → List StoredRow
rows_in format s = map (file_row s.counter) s.files
    ++ header_row (header_in format s) ∷ map (object_row format s.counter) s.objects

-- the numbers that were drawn for files and trees
abbrev pub with_file_number : KeptFile → Content → List ℕ → List ℕ
with_file_number f TooLong ns = ns
with_file_number f (Bytes bytes) ns = f.number ∷ ns

abbrev pub with_tree_number : KeptObject → Result Plain Fault → List ℕ → List ℕ
with_tree_number o (Ok t) ns = o.number ∷ ns
with_tree_number o (Err f) ns = ns

abbrev pub tree_numbers : List KeptObject → List ℕ
tree_numbers [] = []
tree_numbers (o ∷ os) = with_tree_number o o.built (tree_numbers os)

abbrev pub file_numbers : List KeptFile → List ℕ
file_numbers [] = []
file_numbers (f ∷ fs) = with_file_number f f.content (file_numbers fs)

abbrev pub are_distinct : List ℕ → Bool
are_distinct [] = true
are_distinct (n ∷ ns) = not (list_any (λ m. m == n) ns) && are_distinct ns

-- names rise, and no number was drawn twice
abbrev pub are_in_order : List KeptFile → List KeptObject → Bool
are_in_order files objects = are_rising (map file_name files)
    && are_rising (map object_name objects) && are_distinct
    (file_numbers files ++ tree_numbers objects)

-- what is kept has rows of this format
abbrev pub is_kept : Format → Stored → Bool
is_kept format s = header.fits (header_in format s)
    && list_all (is_kept_file s.counter) s.files
    && list_all (is_kept_object format s.counter) s.objects
    && are_in_order s.files s.objects

pub record Spells (format : Format) (s : Stored) (rows : List StoredRow) : Type 0 where
  pub kept : is_kept format s ≡ true
  pub rows_are : rows ≡ rows_in format s

-- the rows that are written
abbrev pub rows_of : Stored → List StoredRow
rows_of s = rows_in Third s

-- nothing is kept
abbrev pub empty : Stored
empty = record {
  counter = FIRST_NUMBER;
  limits = record { max_iteration = DEFAULT_ITERATIONS; max_recursion = DEFAULT_RECURSION };
  dirs = [] ∷ [];
  files = [];
  objects = [];
}

-- of rows of an older format no object is kept
abbrev pub left_by : Format → Stored → Stored
left_by First s = record s { objects = [] }
left_by Second s = record s { objects = [] }
left_by Third s = s

-- what rows give: no row at all gives nothing
abbrev pub Give : List StoredRow → Stored → Type 0
Give rows s = ((rows ≡ []) × (s ≡ empty))
    ⊎ ((format : Format) × (whole : Stored) × Spells format whole rows × (s ≡ left_by format whole))
