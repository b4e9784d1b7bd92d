-- A source in memory.
use Rattle.std.specs.Prelude.{ℕ, List, Option}
use Rattle.outside.specs.declared.source.MemFile.{MemFile}

pub record Reel : Type 0 where
  pub root : Option (List ℕ)  -- the root that it was opened with
  pub coming : List (List MemFile)  -- the pictures still to come
  pub scanned : List MemFile  -- the one that was taken last
