-- A picture as a list of files in byte order of names.
use Rattle.std.specs.Prelude.{ℕ, suc, List, [], ◌∷◌, Option, Some, None, Bool, true, ◌&&◌, bytes_eq, nat_le, length, if◌then◌else◌}
use Rattle.base.specs.declared.limits.TheConstants.{MAX_FILE_BYTES}
use Rattle.std.specs.Cmp.Lexicographic.{slice_cmp}
use Rattle.std.specs.Ordering.{nat_cmp, is_lt}
use Rattle.load_path.specs.declared.picture.Content.{Content}
use Rattle.load_path.specs.declared.picture.PictureFile.{PictureFile}

-- at most the bytes that a file may have
abbrev pub is_short : List ℕ → Bool
is_short bytes = nat_le (length bytes) MAX_FILE_BYTES

-- a stands before b in byte order
abbrev pub is_below : List ℕ → List ℕ → Bool
is_below a b = is_lt (slice_cmp nat_cmp a b)

-- the name stands before the first file's
abbrev pub begins_above : List ℕ → List PictureFile → Bool
begins_above n [] = true
begins_above n (f ∷ fs) = is_below n f.name

-- each name stands before the next
abbrev pub is_rising : List PictureFile → Bool
is_rising [] = true
is_rising (f ∷ fs) = begins_above f.name fs && is_rising fs

-- the bytes that are kept are no more than a file may have
abbrev pub has_short_content : Content → Bool
has_short_content (Content.Bytes bytes) = is_short bytes
has_short_content Content.TooLong = true

abbrev pub are_short : List PictureFile → Bool
are_short [] = true
are_short (f ∷ fs) = has_short_content f.content && are_short fs

-- the content of the file with this name
abbrev pub content_in : List PictureFile → List ℕ → Option Content
content_in [] n = None
content_in (f ∷ fs) n = if bytes_eq f.name n then Some f.content else content_in fs n

-- a file comes in after all those whose names are below its own
abbrev pub with_file : List ℕ → Content → List PictureFile → List PictureFile
with_file n c [] = record { name = n; content = c } ∷ []
with_file n c (f ∷ fs) =
    if is_below f.name n then f ∷ with_file n c fs else record { name = n; content = c } ∷ f ∷ fs

-- how many files stand before the position of this name
abbrev pub position_in : List PictureFile → List ℕ → ℕ
position_in [] n = 0
position_in (f ∷ fs) n = if is_below f.name n then suc (position_in fs n) else 0
