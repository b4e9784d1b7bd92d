-- What is taken out of a tree.
use Rattle.std.specs.Prelude.{◌≡◌, List, Option, Some, None, Ok}
use Rattle.path_tree.specs.Plain.{Plain, undef}
use Rattle.path_tree.specs.Find.{get}
use Rattle.path_tree.specs.Put.{put}
use Rattle.path_tree.specs.declared.path.Term.{Term}

-- what the path finds is taken, and an undef is left in its place; where it finds nothing, the tree
-- is as it was
abbrev pub IsTaken : List Term → Plain → Option Plain → Plain → Type 0
IsTaken ms old None left = (get ms old ≡ None) × (left ≡ old)
IsTaken ms old (Some t) left = (get ms old ≡ Some t) × (put ms undef old ≡ Ok left)
