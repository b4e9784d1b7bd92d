-- The objects of a picture.
use Rattle.std.specs.Prelude.{◌≡◌, ℕ, List, [], ◌∷◌, Bool, true, false, ◌&&◌, Option, Some, None, codes}
use Rattle.std.specs.List.{list_any}
use Rattle.std.specs.Str.{bytes_eq}
use Rattle.load_path.specs.Pictures.{content_in, is_below}
use Rattle.load_path.specs.declared.picture.Content.{Content}
use Rattle.load_path.specs.declared.picture.Content.TheVariants.{Bytes, TooLong}
use Rattle.load_path.specs.declared.picture.PictureFile.{PictureFile}
use Rattle.path_tree.specs.Grammar.{is_name}
use Rattle.pan_lexer.specs.Objects.{is_object}
use Rattle.load_path.specs.Candidates.{candidates}

abbrev pub or_next : Option Content → Option Content → Option Content
or_next None next = next
or_next (Some c) next = Some c

-- the content of the first of these files that is there
abbrev pub first_there : List PictureFile → List (List ℕ) → Option Content
first_there files [] = None
first_there files (name ∷ names) = or_next (content_in files name) (first_there files names)

abbrev pub is_object_text : Content → Bool
is_object_text TooLong = false
is_object_text (Bytes text) = is_object text

abbrev pub is_object_content : Option Content → Bool
is_object_content None = false
is_object_content (Some content) = is_object_text content

-- a template name is an object where the first of its files that is there begins as an object
-- template
abbrev pub is_object_in : List PictureFile → List (List ℕ) → List ℕ → Bool
is_object_in files dirs name =
    is_name name && is_object_content (first_there files (candidates name (codes ".pan") [] dirs))

abbrev pub stands_in : List ℕ → List (List ℕ) → Bool
stands_in name names = list_any (λ n. bytes_eq n name) names

abbrev pub begins_above : List ℕ → List (List ℕ) → Bool
begins_above name [] = true
begins_above name (n ∷ names) = is_below name n

-- each name stands before the next in byte order
abbrev pub are_rising : List (List ℕ) → Bool
are_rising [] = true
are_rising (n ∷ names) = begins_above n names && are_rising names

-- the objects of a picture with these include directories, in byte order
pub record AreObjects (files : List PictureFile) (dirs : List (List ℕ))
    (names : List (List ℕ)) : Type 0 where
  pub rising : are_rising names ≡ true
  pub exactly : (name : List ℕ) → stands_in name names ≡ is_object_in files dirs name
