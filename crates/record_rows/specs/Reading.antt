-- Reading rows. Inner contracts use it.
use Rattle.std.specs.Prelude.{◌≡◌, ℕ, ◌+◌, List, [], ◌∷◌, take, drop, length, position, slice_get, Option, Some, None, Bool, ◌&&◌, cond, codes, bytes_eq}
use Rattle.load_path.specs.FileNames.{is_file_name}
use Rattle.path_tree.specs.Grammar.{is_name}
use Rattle.path_tree.specs.Plain.{Plain, dict, Fields}
use Rattle.std.specs.HashSet.{HashSet, contains}
use Rattle.pan_ast.specs.declared.fault.Code.{Code}
use Rattle.pan_ast.specs.declared.fault.Fault.{Fault}
use Rattle.pan_ast.specs.declared.place.Place.{Place}
use Rattle.questions.specs.declared.key.Key.{Key}
use Rattle.questions.specs.Keys.{key_eq}
use Rattle.questions.specs.Contents.{is_among}
use Rattle.read_sets.specs.declared.trace.Item.{Item}
use Rattle.read_sets.specs.Items.{keys_in}
use Rattle.kept_state.specs.declared.kept.KeptFile.{KeptFile}
use Rattle.kept_state.specs.declared.kept.KeptObject.{KeptObject}
use Rattle.kept_state.specs.Stored.{Stored}
use Rattle.stored_rows.specs.declared.row.StoredRow.{StoredRow}
use Rattle.record_rows.specs.declared.format.Format.{Format}
use Rattle.record_rows.specs.declared.format.Format.TheVariants.{First, Second, Third}
use Rattle.record_rows.specs.declared.header.Header.{Header as InMemory}
use Rattle.record_rows.specs.Forms.{◌>>=◌, IsBytes, is_empty, whole}
use Rattle.record_rows.specs.Trees.{added, fields_at}
use Rattle.record_rows.specs.Fields.{is_detail, Header, header}
use Rattle.record_rows.specs.Rows.{FileParts, file_parts, ObjectParts, object_parts, are_object_parts, parts_of_object, are_in_order, empty}

-- a set has the keys of items, and no other
abbrev pub HasKeys : {S : Type 0} → HashSet Key S → List Item → Type 0
HasKeys set items = (k : Key) → contains key_eq set k ≡ is_among k (keys_in items)

-- a fault with this whole detail, where that is none too long
abbrev pub whole_fault : Code → Place → List ℕ → Option Fault
whole_fault code place detail =
    cond (is_detail detail) (Some (record { code = code; place = place; detail = detail })) None

abbrev pub dict_of : Fields → Option Plain
dict_of fs = Some (dict fs)

abbrev pub added_dict : List ℕ → Plain → Fields → Option Plain
added_dict k v fs = added k v fs >>= dict_of

-- so many fields behind others, as a dict
abbrev pub dict_with : Fields × List ℕ → Option (Plain × List ℕ)
dict_with (fs, rest) = Some (dict fs, rest)

abbrev pub dicts_at : (List ℕ → Option (Plain × List ℕ)) → ℕ → Fields → List ℕ
    → Option (Plain × List ℕ)
dicts_at below n fs bytes = fields_at below n fs bytes >>= dict_with

abbrev pub seen_header : InMemory → Header
seen_header h = record {
  format = h.format;
  counter = h.counter;
  limits = h.limits;
  dirs = h.dirs.items;
}

-- what stands behind a front
abbrev pub behind : List ℕ → List ℕ → Option (List ℕ)
behind front name = cond (bytes_eq (take (length front) name) front)
    (Some (drop (length front) name))
    None

abbrev pub file_with : List ℕ → FileParts → KeptFile
file_with name p = record { name = name; number = p.number; content = p.content }

abbrev pub file_by : ℕ → List ℕ → List ℕ → Option KeptFile
file_by counter name bytes = whole (file_parts counter) bytes >>= λ p. Some (file_with name p)

abbrev pub file_named : ℕ → List ℕ → List ℕ → Option KeptFile
file_named counter bytes name = cond (is_file_name name) (file_by counter name bytes) None

unfoldable pub file_at : ℕ → StoredRow → Option KeptFile
file_at counter row = behind (codes "f/") row.name >>= file_named counter row.bytes

abbrev pub object_with : List ℕ → ObjectParts → KeptObject
object_with name p = record {
  name = name;
  number = p.number;
  built = p.built;
  build_reads = p.build_reads;
  verdict = p.verdict;
  check_reads = p.check_reads;
}

abbrev pub object_by : Format → ℕ → List ℕ → List ℕ → Option KeptObject
object_by format counter name bytes =
    whole (object_parts format counter) bytes >>= λ p. Some (object_with name p)

-- parts that go together, with nothing behind them
abbrev pub whole_object : ℕ → KeptObject → List ℕ → Option KeptObject
whole_object counter object rest =
    cond (are_object_parts counter (parts_of_object object) && is_empty rest) (Some object) None

abbrev pub object_named : Format → ℕ → List ℕ → List ℕ → Option KeptObject
object_named format counter bytes name =
    cond (is_name name) (object_by format counter name bytes) None

unfoldable pub object_at : Format → ℕ → StoredRow → Option KeptObject
object_at format counter row =
    behind (codes "o/") row.name >>= object_named format counter row.bytes

abbrev pub AreBytes : List StoredRow → Type 0
AreBytes [] = Unit {0}
AreBytes (r ∷ rows) = IsBytes r.bytes × AreBytes rows

-- each of a list
unfoldable pub all_at : {A B : Type 0} → (A → Option B) → List A → Option (List B)
all_at read [] = Some []
all_at read (x ∷ xs) = read x >>= λ y. all_at read xs >>= λ ys. Some (y ∷ ys)

abbrev pub is_header : StoredRow → Bool
is_header row = bytes_eq row.name (codes "h")

-- of an older format no object is kept
abbrev pub objects_left : Format → List KeptObject → List KeptObject
objects_left First objects = []
objects_left Second objects = []
objects_left Third objects = objects

abbrev pub with_header : Header → List KeptFile → List KeptObject → Stored
with_header h files objects = record {
  counter = h.counter;
  limits = h.limits;
  dirs = h.dirs;
  files = files;
  objects = objects_left h.format objects;
}

abbrev pub if_in_order : Header → List KeptFile → List KeptObject → Option Stored
if_in_order h files objects =
    cond (are_in_order files objects) (Some (with_header h files objects)) None

abbrev pub kept_with : Header → List StoredRow → List StoredRow → Option Stored
kept_with h front back = all_at (file_at h.counter) front >>= λ files.
    all_at (object_at h.format h.counter) back >>= λ objects. if_in_order h files objects

-- rows with their header at this place
abbrev pub header_at : Option StoredRow → Option Header
header_at row = row >>= λ r. whole header r.bytes

abbrev pub kept_by : List StoredRow → ℕ → Option Stored
kept_by rows i = header_at (slice_get rows i) >>= λ h.
    kept_with h (take i rows) (drop (i + 1) rows)

unfoldable pub given_by : List StoredRow → Option Stored
given_by [] = Some empty
given_by (r ∷ rows) = position is_header (r ∷ rows) >>= kept_by (r ∷ rows)
