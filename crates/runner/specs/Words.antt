-- What a picture, and what is known of objects, tell of keys.
use Rattle.std.specs.Prelude.{ℕ, zero, suc, List, Option, Some, None, option_map, option_copied}
use Rattle.path_tree.specs.Plain.{Plain}
use Rattle.path_tree.specs.declared.path.Term.{Term}
use Rattle.load_path.specs.declared.picture.Content.{Content as FileContent}
use Rattle.load_path.specs.declared.picture.Content.TheVariants as file
use Rattle.load_path.specs.declared.picture.PictureFile.{PictureFile}
use Rattle.load_path.specs.Pictures.{content_in}
use Rattle.asking.specs.Asked.{Word, Tells, Needs}
use Rattle.questions.specs.declared.key.Key.{Key}
use Rattle.questions.specs.declared.key.Key.TheVariants.{File, Under}
use Rattle.questions.specs.Contents.{Content, Missing, TooLong, Bytes, Absent, Failed, Circular, NoValue, Value}
use Rattle.runner.specs.declared.known.Told.{Told}

-- what is known of an object, its value as a plain tree
abbrev pub seen_told : Option Told → Option (ℕ × Option Plain)
seen_told = option_map (λ t. (t.number, option_copied t.value))

abbrev pub file_content : Option FileContent → Content
file_content None = Missing
file_content (Some file.TooLong) = TooLong
file_content (Some (file.Bytes bytes)) = Bytes bytes

abbrev pub value_content : Option Plain → Content
value_content None = NoValue
value_content (Some t) = Value t

-- the numbers 0, 1 and 2 are those of an object without a tree
abbrev pub object_content : ℕ → Option Plain → Content
object_content zero v = Absent
object_content (suc zero) v = Failed
object_content (suc (suc zero)) v = Circular
object_content (suc (suc (suc n))) v = value_content v

abbrev pub object_word : List ℕ → Option (ℕ × Option Plain) → Word Content
object_word object None = Needs object
object_word object (Some q) = Tells q.0 (object_content q.0 q.1)

-- files are told by the picture and their numbers, objects as they are known
abbrev pub words : List PictureFile → (List ℕ → ℕ)
    → (List ℕ → List Term → Option (ℕ × Option Plain)) → Key → Word Content
words picture numbers objects (File f) = Tells (numbers f) (file_content (content_in picture f))
words picture numbers objects (Under p terms) = object_word p (objects p terms)
