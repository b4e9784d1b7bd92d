-- How many names a publication may remove, and what it answers.
use Rattle.std.specs.Prelude.{◌≡◌, ◌-◌, ℕ, Bool, true, false, List, [], Option, Some, None, is_some, not, ◌&&◌, ◌||◌, if◌then◌else◌, nat_le, length, count_by, bytes_eq}
use Rattle.std.specs.List.{list_any, IsDistinct}
use Rattle.std.specs.List.Sorted.{IsSorted}
use Rattle.std.specs.Cmp.Lexicographic.{slice_cmp}
use Rattle.std.specs.Ordering.{nat_cmp}
use Rattle.outside.specs.declared.shelf.Change.{Change}
use Rattle.outside.specs.declared.shelf.Change.TheVariants.{Put, Removed}
use Rattle.publication.specs.declared.answer.Publication.{Publication}
use Rattle.publication.specs.declared.answer.Publication.TheVariants.{Done, TooManyRemovals}
use Rattle.publication.specs.declared.trouble.Trouble.{Trouble}
use Rattle.publication.specs.declared.want.Want.{Want}
use Rattle.publication.specs.OwnNames.{is_own}
use Rattle.publication.specs.Stands.{Stand, untouched}
use Rattle.publication.specs.Troubles.{passes, unsettles, published}
use Rattle.publication.specs.Wants.{wanted, goes}

-- a publication may remove any number of names, or at most so many
abbrev pub is_within : Option ℕ → ℕ → Bool
is_within None removals = true
is_within (Some most) removals = nat_le removals most

-- so many names were to go, and this was answered
abbrev pub IsAnswer : Option ℕ → ℕ → Publication → Type 0
IsAnswer most removals (Done troubles) = is_within most removals ≡ true
IsAnswer most removals (TooManyRemovals told) =
    (is_within most removals ≡ false) × (told ≡ removals)

-- how many of these names are removed for these wants
abbrev pub removals_over : List Want → List (List ℕ) → ℕ
removals_over ws names = count_by (goes ws) names

-- what is published over these names: nothing where too many of them were to go
abbrev pub granted : Option ℕ → List (List ℕ) → List Want → Option (List Want)
granted most names ws = if is_within most (removals_over ws names) then Some ws else None

-- and what is answered then, where no call fails
abbrev pub answer_over : Option ℕ → List (List ℕ) → List Want → Publication
answer_over most names ws = if is_within most (removals_over ws names) then Done []
    else TooManyRemovals (removals_over ws names)

-- what stands after it
abbrev pub shelf_of : Option (List Want) → List ℕ → Stand
shelf_of None = untouched
shelf_of (Some ws) = published ws [] untouched

-- the calls of it that failed
abbrev pub troubles_of : Publication → List Trouble
troubles_of (Done troubles) = troubles
troubles_of (TooManyRemovals removals) = []

-- what stands after it
abbrev pub published_by : List Want → Publication → (List ℕ → Stand) → List ℕ → Stand
published_by ws (Done troubles) before = published ws troubles before
published_by ws (TooManyRemovals removals) before = before

-- Whether a name may be there after a publication in which these calls failed, by whether it might
-- before. A wanted one may, unless its call was passed over; another own one where its removal
-- failed.
abbrev pub stays : List Want → List Trouble → (List ℕ → Bool) → List ℕ → Bool
stays ws troubles before n =
    if is_some (wanted ws n) then (before n || not (list_any (passes n) troubles))
    else (before n && (not (is_own n) || list_any (unsettles n) troubles))

abbrev pub may_stand_after : List Want → Publication → (List ℕ → Bool) → List ℕ → Bool
may_stand_after ws (Done troubles) before = stays ws troubles before
may_stand_after ws (TooManyRemovals removals) before = before

-- A publication answers by its bound and by the own names that may be there and that no profile
-- wants: these are as many as it may remove at most, or they are too many, and it tells how many.
pub record Bounded (most : Option ℕ) (ws : List Want) (may_stand : List ℕ → Bool)
    (p : Publication) : Type 0 where
  pub gone : List (List ℕ)
  pub sorted : IsSorted (slice_cmp nat_cmp) gone
  pub once : IsDistinct bytes_eq gone
  pub exact : (n : List ℕ) → list_any (λ m. bytes_eq m n) gone ≡ (goes ws n && may_stand n)
  pub answer : IsAnswer most (length gone) p

-- how many names were removed, as a shelf tells it
abbrev pub is_removed : Change → Bool
is_removed (Put n) = false
is_removed (Removed n) = true

abbrev pub removals_in : Option (List Change) → ℕ
removals_in None = 0
removals_in (Some changes) = count_by is_removed changes

-- between these, no more names were removed than the bound allows
abbrev pub RemovesWithin : Option ℕ → Option (List Change) → Option (List Change) → Type 0
RemovesWithin most before now = is_within most (removals_in now - removals_in before) ≡ true
