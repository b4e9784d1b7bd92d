-- Whether the item at a place of a list is a prefix of LOADPATH.
use Rattle.std.specs.Prelude.{Bool, false, Option, Some, None}
use Rattle.path_tree.specs.Plain.{Plain}
use Rattle.template_meaning.specs.Statements.{is_prefix}

abbrev pub prefix_at : Option Plain → Bool
prefix_at None = false
prefix_at (Some t) = is_prefix t
