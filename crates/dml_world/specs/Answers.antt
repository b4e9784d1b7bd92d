-- What a world tells.
use Rattle.std.specs.Prelude.{◌≡◌, ℕ, List, [], Option, Some, None, option_map, Result, Ok, Err, if◌then◌else◌}
use Rattle.std.specs.Option.{option_map_or}
use Rattle.std.specs.Str.{is_utf8}
use Rattle.path_tree.specs.Plain.{Plain, text}
use Rattle.path_tree.specs.declared.path.Term.{Term}
use Rattle.pan_ast.specs.declared.fault.Fault.{Fault}
use Rattle.pan_ast.specs.Templates.{Template}
use Rattle.questions.specs.declared.key.Key.{Key}
use Rattle.questions.specs.declared.key.Key.TheVariants.{File, Under}
use Rattle.questions.specs.Contents.{Answers, Content, TooLong, Bytes, Absent, Failed, Circular, NoValue, Value, with_key}
use Rattle.dml_meaning.specs.Lookups as plain
use Rattle.dml_world.specs.declared.files.Present.{Present}
use Rattle.dml_world.specs.declared.files.Present.TheVariants as present
use Rattle.dml_world.specs.declared.paths.Looked.{Looked}
use Rattle.dml_world.specs.declared.paths.Looked.TheVariants as looked
use Rattle.dml_world.specs.declared.world.Seen.{Seen}
use Rattle.dml_world.specs.declared.world.Seen.TheVariants as seen
use Rattle.dml_world.specs.declared.world.TemplateStop.{TemplateStop}
use Rattle.dml_world.specs.declared.world.TemplateStop.TheVariants as template_stop
use Rattle.dml_world.specs.declared.world.Foreign.{Foreign}
use Rattle.dml_world.specs.declared.world.Foreign.TheVariants as foreign
use Rattle.dml_world.specs.declared.world.WorldStop.{WorldStop}
use Rattle.dml_world.specs.declared.world.WorldStop.TheVariants as stop

-- what the content of a file says of it; one of another kind says that it is missing
abbrev pub seen_of : Content → Seen
seen_of TooLong = seen.TooLong
seen_of (Bytes bs) = seen.There
seen_of _ = seen.Missing

-- the file is known, and is or is not there
abbrev pub IsSeen : List ℕ → Seen → Answers → Type 0
IsSeen f s answers = option_map seen_of (answers (File f)) ≡ Some s

abbrev pub bytes_in : Content → List ℕ
bytes_in (Bytes bs) = bs
bytes_in _ = []

-- the bytes of a file that is there
abbrev pub bytes_of : List ℕ → Answers → List ℕ
bytes_of f answers = option_map_or bytes_in (answers (File f)) []

-- a file that was found, as a lookup tells it
abbrev pub present_of : Answers → Present → plain.Present
present_of answers (present.Whole f) = plain.Whole f (bytes_of f answers)
present_of answers (present.Long f) = plain.Long f

-- a file of which the bytes are asked is there
abbrev pub IsPresent : Present → Answers → Type 0
IsPresent (present.Whole f) answers = IsSeen f seen.There answers
IsPresent (present.Long f) answers = Unit {0}

-- a file's first fault
abbrev pub IsFileFault : TemplateStop → Result Template Fault → Type 0
IsFileFault template_stop.Memory r = Unit {0}
IsFileFault (template_stop.Fault f) r = r ≡ Err f

-- bytes as a text, where they are UTF-8
abbrev pub text_read : List ℕ → Option Plain
text_read bs = if is_utf8 bs then Some (text bs) else None

abbrev pub looked_of : Looked → plain.Looked
looked_of (looked.NoObject o) = plain.NoObject o
looked_of looked.Nothing = plain.Nothing
looked_of (looked.There t) = plain.There t

abbrev pub content_of : Foreign → Content
content_of foreign.Absent = Absent
content_of foreign.Failed = Failed
content_of foreign.Circular = Circular
content_of foreign.NoValue = NoValue
content_of (foreign.Value t) = Value t

-- an answer is the key's content, and the key counts as asked; need says that the content is not
-- known
abbrev pub TellsValue : Result Foreign WorldStop → List Key → List Key → List ℕ → List Term
    → Answers → Type 0
TellsValue (Ok x) old new o ms answers =
    (answers (Under o ms) ≡ Some (content_of x)) × (new ≡ with_key (Under o ms) old)
TellsValue (Err stop.Need) old new o ms answers = (answers (Under o ms) ≡ None) × (new ≡ old)
TellsValue (Err stop.Memory) old new o ms answers = new ≡ old
