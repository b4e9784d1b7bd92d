-- How objects are found, one name after another.
use Rattle.std.specs.Prelude.{◌≡◌, ◌⊎◌, ℕ, suc, List, [], ◌∷◌, ◌++◌, Bool, true, false, Option, Some, None, is_some, codes, if◌then◌else◌}
use Rattle.std.specs.Str.{bytes_eq}
use Rattle.load_path.specs.Pictures.{content_in, is_below}
use Rattle.load_path.specs.declared.picture.PictureFile.{PictureFile}
use Rattle.object_names.specs.Objects.{stands_in, are_rising, is_object_in}

-- how many names stand before the place of this one
abbrev pub place_in : List (List ℕ) → List ℕ → ℕ
place_in [] name = 0
place_in (n ∷ names) name = if is_below n name then suc (place_in names name) else 0

abbrev pub is_same : List ℕ → Option (List ℕ) → Bool
is_same name None = false
is_same name (Some n) = bytes_eq n name

-- a name in its place, once
abbrev pub with_object : List ℕ → List (List ℕ) → List (List ℕ)
with_object name [] = name ∷ []
with_object name (n ∷ names) = if is_below n name then n ∷ with_object name names
    else (if bytes_eq n name then n ∷ names else name ∷ n ∷ names)

abbrev pub with_found : List PictureFile → List (List ℕ) → List ℕ → List (List ℕ) → List (List ℕ)
with_found files dirs name names =
    if is_object_in files dirs name then with_object name names else names

-- a name has a file below this front
abbrev pub HasFile : List PictureFile → List ℕ → List ℕ → Type 0
HasFile files front name = is_some (content_in files (front ++ (name ++ codes ".pan"))) ≡ true

-- the objects that are so are added, and no other name
pub record Adds (files : List PictureFile) (dirs : List (List ℕ)) (IsSo : List ℕ
    → Type 0) (old new : List (List ℕ)) : Type 0 where
  pub rising : are_rising new ≡ true
  pub keeps : (name : List ℕ) → stands_in name old ≡ true → stands_in name new ≡ true
  pub sound : (name : List ℕ) → stands_in name new ≡ true
      → (stands_in name old ≡ true) ⊎ (is_object_in files dirs name ≡ true)
  pub covers : (name : List ℕ) → IsSo name → is_object_in files dirs name ≡ true
      → stands_in name new ≡ true
