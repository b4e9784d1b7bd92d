-- What the answers of a scan say.
use Rattle.std.specs.Prelude.{◌≡◌, ◌≤◌, ◌+◌, ◌⊎◌, ℕ, List, Option, IfSome, IsErrOf, OnOk, option_map, Result, slice_get, if◌then◌else◌}
use Rattle.load_path.specs.declared.picture.PictureFile.{PictureFile}
use Rattle.outside.specs.Pictures.{next_picture, later_pictures}
use Rattle.outside.specs.declared.source.MemFile.{MemFile}
use Rattle.scans.specs.Scans.{has_file_name, weight_of, taken_in, scanned_of}

-- the pictures that are still to come
abbrev pub Coming : Type 0
Coming = Option (List (List MemFile))

-- the source's next picture makes this, where the source tells it
abbrev pub IsScan : Coming → Option (List PictureFile) → Type 0
IsScan coming picture = IfSome coming (λ ps. picture ≡ scanned_of (next_picture ps))

-- the next picture was taken from the source
abbrev pub IsPassed : Coming → Coming → Type 0
IsPassed old new = new ≡ option_map later_pictures old

abbrev pub IsPerhapsPassed : Coming → Coming → Type 0
IsPerhapsPassed old new = (new ≡ old) ⊎ IsPassed old new

-- Facts about file number i of a picture, where the source tells that.
abbrev pub OfFile : Option (List MemFile) → ℕ → (MemFile → Type 0) → Type 0
OfFile scanned i fact = IfSome scanned (λ files. IfSome (slice_get files i) fact)

abbrev pub one_where_named : MemFile → ℕ
one_where_named f = if has_file_name f then 1 else 0

-- what a read of the file counts, and the picture with it
abbrev pub IsTakenIn : ℕ → List PictureFile → List PictureFile → MemFile → Type 0
IsTakenIn weight old new f = (weight ≡ weight_of f) × (new ≡ taken_in old f)
