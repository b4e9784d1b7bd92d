-- What a publication leaves that ends at its first failed call, or for want of memory.
use Rattle.std.specs.Prelude.{◌≡◌, ◌⊎◌, ℕ, Bool, true, false, List, bytes_eq}
use Rattle.outside.specs.Cells.{Cell}
use Rattle.publication.specs.declared.until_failure.PublishError.{PublishError}
use Rattle.publication.specs.declared.until_failure.PublishError.TheVariants.{Failed, Memory}
use Rattle.publication.specs.OwnNames.{is_own, is_file_of}
use Rattle.publication.specs.Stands.{Stand, Meets}

-- But for names that are open, each own name is as it was or as the whole publication leaves it.
-- All others are as they were.
pub record Leaves (is_open : List ℕ → Bool) (shelf : List ℕ → Stand) (old new : List ℕ
    → Cell) : Type 0 where
  pub others : (n : List ℕ) → is_own n ≡ false → new n ≡ old n
  pub own : (n : List ℕ) → is_open n ≡ false → (new n ≡ old n) ⊎ Meets (shelf n) (old n) (new n)

-- Where a call failed, the files of its object are open; where memory was wanting, one name is.
abbrev pub Left : PublishError → (List ℕ → Stand) → (List ℕ → Cell) → (List ℕ → Cell) → Type 0
Left (Failed m) shelf old new = Leaves (is_file_of m) shelf old new
Left Memory shelf old new = (m : List ℕ) × Leaves (bytes_eq m) shelf old new

-- an end of a call on this name
abbrev pub IsEndAt : List ℕ → PublishError → Type 0
IsEndAt n (Failed m) = is_file_of m n ≡ true
IsEndAt n Memory = Unit

abbrev pub IsFailure : PublishError → Type 0
IsFailure (Failed m) = Unit
IsFailure Memory = ⊥
