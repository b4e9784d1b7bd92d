-- The folder from which a command's profiles are made.
use Rattle.std.specs.Prelude.{ℕ, List, Option, Some, None}
use Rattle.command_words.specs.declared.commands.Command.{Command}
use Rattle.command_words.specs.declared.commands.Command.TheVariants.{Build, Watch, Demo, Format}

-- The shelf may not be this folder, or hold it: what looks like a profile there would be removed. A
-- formatting removes nothing, and may put each layout where its template stands.
abbrev pub source_of : Option Command → Option (List ℕ)
source_of None = None
source_of (Some (Build work)) = Some work.source
source_of (Some (Watch work)) = Some work.source
source_of (Some (Demo demonstration)) = None
source_of (Some (Format pair)) = None
