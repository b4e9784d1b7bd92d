-- Names that are reached through reads of one another, level by level.
use Rattle.std.specs.Prelude.{ℕ, zero, suc, List, Bool, ◌&&◌, ◌||◌, length}
use Rattle.std.specs.List.{filter, list_any}

module _ (starts : List ℕ → Bool) (reads : List ℕ → List ℕ → Bool) (names : List (List ℕ)) where
  -- a name is reached through at most so many reads: it is a start, or it reads one of the names
  -- that
  -- is reached through fewer
  abbrev pub within : ℕ → List ℕ → Bool
  within zero name = starts name
  within (suc most) name = within most name || list_any (λ n. reads name n && within most n) names

  -- the names that are reached, in their order: none is through more reads than there are names
  abbrev pub reached_in : List (List ℕ)
  reached_in = filter (within (length names)) names
