-- A dict with a field more.
use Rattle.std.specs.Prelude.{ℕ, List, Result, Err}
use Rattle.path_tree.specs.Lists.{within_limits}
use Rattle.path_tree.specs.Plain.{Plain, dict}
use Rattle.path_tree.specs.Put.{put_field}
use Rattle.path_tree.specs.declared.refused.Refused.{Refused}
use Rattle.path_tree.specs.declared.refused.Refused.TheVariants.{BadArgument}

-- the dict with t at the key k, within the limits
abbrev pub with_field : List ℕ → Plain → Plain → Result Plain Refused
with_field k t (dict fs) = within_limits (dict (put_field k t fs))
with_field k t _ = Err BadArgument
