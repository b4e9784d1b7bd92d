-- Dicts with one field more.
use Rattle.std.specs.Prelude.{ℕ, List, Result, Err, is_some, if◌then◌else◌}
use Rattle.path_tree.specs.Plain.{Plain, dict, Fields}
use Rattle.path_tree.specs.Find.{find_field}
use Rattle.path_tree.specs.Put.{put_field}
use Rattle.path_tree.specs.Lists.{within_limits}
use Rattle.path_tree.specs.declared.refused.Refused.{Refused}
use Rattle.path_tree.specs.declared.refused.Refused.TheVariants.{BadArgument}

-- the fields with t at the key k, where it is not there
abbrev pub put_new_field : List ℕ → Plain → Fields → Fields
put_new_field k t fs = if is_some (find_field k fs) then fs else put_field k t fs

-- a dict with t at the key k, where it is not there
abbrev pub put_new : List ℕ → Plain → Plain → Result Plain Refused
put_new k t (dict fs) = within_limits (dict (put_new_field k t fs))
put_new k t _ = Err BadArgument
