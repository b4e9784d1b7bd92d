-- The two halves of a publication, as what becomes of a cell. Inner contracts use it.
use Rattle.std.specs.Prelude.{◌≡◌, ℕ, Bool, false, List, None, if◌then◌else◌, bytes_eq, ◌&&◌, ◌⊎◌}
use Rattle.std.specs.List.{list_any}
use Rattle.outside.specs.Cells.{Cell, with_content}
use Rattle.publication.specs.declared.want.Want.{Want}
use Rattle.publication.specs.declared.until_failure.PublishError.{PublishError}
use Rattle.publication.specs.declared.until_failure.PublishError.TheVariants.{Failed, Memory}
use Rattle.publication.specs.OwnNames.{is_own, is_file_of}
pub use Rattle.publication.specs.Puts.{put_where, placed}
use Rattle.publication.specs.Wants.{wanted, goes}

-- both halves
abbrev pub brought : List Want → List ℕ → Cell → Cell
brought ws n before = if is_own n then with_content (wanted ws n) before else before

-- this name goes where no profile wants it
abbrev pub swept : List ℕ → List Want → List ℕ → Cell → Cell
swept m ws n c = if goes ws m then (if bytes_eq m n then with_content None c else c) else c

-- the first half: these names go where no profile wants them
abbrev pub cleared : List (List ℕ) → List Want → List ℕ → Cell → Cell
cleared names ws n c =
    if list_any (λ m. bytes_eq m n) names && goes ws n then with_content None c else c

-- It ended early: but for names that are open, each own name is as it was or as it will be. All
-- others are as they were.
pub record LeavesAs (is_open : List ℕ → Bool) (will : List ℕ → Cell → Cell) (old new : List ℕ
    → Cell) : Type 0 where
  pub others : (n : List ℕ) → is_own n ≡ false → new n ≡ old n
  pub own : (n : List ℕ) → is_open n ≡ false → (new n ≡ old n) ⊎ (new n ≡ will n (old n))

abbrev pub LeftAs : PublishError → (List ℕ → Cell → Cell) → (List ℕ → Cell) → (List ℕ → Cell)
    → Type 0
LeftAs (Failed m) will old new = LeavesAs (is_file_of m) will old new
LeftAs Memory will old new = (m : List ℕ) × LeavesAs (bytes_eq m) will old new

-- Under way: what is left to do leads to the target, and each name is as at the start or as the
-- target has it.
pub record Underway (left : List ℕ → Cell → Cell) (target start now : List ℕ → Cell) : Type 0 where
  pub leads : (n : List ℕ) → left n (now n) ≡ target n
  pub stands : (n : List ℕ) → (now n ≡ start n) ⊎ (now n ≡ target n)
