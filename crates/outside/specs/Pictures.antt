-- The pictures of a source: lists of files, each with its bytes, or gone.
use Rattle.std.specs.Prelude.{◌≡◌, ℕ, List, [], ◌∷◌, Option, Some, None, Bool, true, IfSome, slice_get, if◌then◌else◌, not, ◌&&◌, bytes_eq}
use Rattle.std.specs.List.{list_any}
use Rattle.load_path.specs.Pictures.{is_short}
use Rattle.outside.specs.declared.source.MemFile.{MemFile}
use Rattle.outside.specs.declared.source.Got.{Got}
use Rattle.outside.specs.declared.source.Got.TheVariants.{Bytes, Gone, TooLong}

-- the next picture, an empty one where none is left, and those after it
abbrev pub next_picture : List (List MemFile) → List MemFile
next_picture [] = []
next_picture (p ∷ ps) = p

abbrev pub later_pictures : List (List MemFile) → List (List MemFile)
later_pictures [] = []
later_pictures (p ∷ ps) = ps

-- file number i has this name
abbrev pub NameOf : List MemFile → ℕ → List ℕ → Type 0
NameOf files i name = IfSome (slice_get files i) (λ f. name ≡ f.name)

-- what a read of a file with this content gives: its answer, and its bytes
abbrev pub got_of : Option (List ℕ) → Got
got_of None = Gone
got_of (Some bytes) = if is_short bytes then Bytes else TooLong

abbrev pub read_of : Option (List ℕ) → List ℕ
read_of None = []
read_of (Some bytes) = if is_short bytes then bytes else []

-- file number i was read
abbrev pub Finds : List MemFile → ℕ → Got → List ℕ → Type 0
Finds files i got into =
    IfSome (slice_get files i) (λ f. (got ≡ got_of f.content) × (into ≡ read_of f.content))

-- a file of the picture has this name
abbrev pub has_name : List ℕ → List MemFile → Bool
has_name name files = list_any (λ f. bytes_eq f.name name) files

-- no name stands twice
abbrev pub are_distinct : List MemFile → Bool
are_distinct [] = true
are_distinct (f ∷ fs) = not (has_name f.name fs) && are_distinct fs

abbrev pub are_pictures : List (List MemFile) → Bool
are_pictures [] = true
are_pictures (p ∷ ps) = are_distinct p && are_pictures ps
