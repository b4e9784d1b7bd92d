-- A shelf in memory.
use Rattle.std.specs.Prelude.{ℕ, List, Option}
use Rattle.outside.specs.declared.sure_shelf.Held.{Held}
use Rattle.outside.specs.declared.shelf.Change.{Change}

pub record Stock : Type 0 where
  pub root : Option (List ℕ)  -- the root that it was opened with
  pub held : List Held  -- of several entries with one name the first counts
  pub changes : List Change  -- all that was done to it, in order
