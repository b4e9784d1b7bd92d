-- The call of the compiler, by its words.
use Rattle.std.specs.Prelude.{◌≡◌, ℕ, List, Option, Some, None, codes}
use Rattle.command_words.specs.declared.commands.Command.{Command}
use Rattle.command_words.specs.declared.commands.Command.TheVariants.{Build, Watch, Demo, Format}
use Rattle.outside.specs.Causes.{Counted}
use Rattle.rebuild.specs.Engines.{Meanings}
use Rattle.pan_top.specs.Builds.{BuildCall}
use Rattle.pan_top.specs.Demos.{DemoCall}
use Rattle.pan_top.specs.Formats.{FormatCall}
use Rattle.pan_top.specs.KeptBuilds.{KeptCall}
use Rattle.pan_top.specs.KeptWatches.{KeptWatchCall}
use Rattle.row_changes.specs.Stores.{Store}
use Rattle.site_build.specs.Scenes.{Scene, OnlyWrites}
use Rattle.pan_top.specs.Statuses.{Says}
use Rattle.pan_top.specs.Watches.{WatchCall}
use Rattle.call_status.specs.declared.status.Status.{Status}
use Rattle.call_status.specs.declared.status.Status.TheVariants as S

-- words that are no command: a line is written
pub record UsageCall (status : Status) (before after : Scene) : Type 0 where
  pub only : OnlyWrites before after
  pub spent : after.spent ≡ before.spent
  pub line : Says S.Usage (codes "usage fault\n") status before.held after.held
  pub out_count : Counted (status ≡ S.OutFault) before.out_count after.out_count

-- the call of the command that the words are, where it keeps no rows
abbrev pub PlainCall : {T : Type 0} → Meanings T → Option Command → Status → Scene → Scene → Store
    → Type 0
PlainCall means None status before after store = UsageCall status before after
PlainCall means (Some (Build w)) status before after store = BuildCall means w status before after
PlainCall means (Some (Watch w)) status before after store =
    WatchCall means w status before after store
PlainCall means (Some (Demo d)) status before after store = DemoCall means d status before after
PlainCall means (Some (Format p)) status before after store = FormatCall p status before after

-- the file of the rows that a command keeps
abbrev pub file_of : Option Command → Option (List ℕ)
file_of None = None
file_of (Some (Build w)) = w.state
file_of (Some (Watch w)) = w.state
file_of (Some (Demo d)) = None
file_of (Some (Format p)) = None

-- a build and a watcher keep their rows in that file; no other command does anything with the
-- keeper
abbrev pub CallBy : {T : Type 0} → Meanings T → Option Command → Option (List ℕ) → Status → Scene
    → Scene → Store → Store → Type 0
CallBy means (Some (Build w)) (Some file) status before after store store_now =
    KeptCall means w file status before after store store_now
CallBy means (Some (Watch w)) (Some file) status before after store store_now =
    KeptWatchCall means w file status before after store store_now
CallBy means command file status before after store store_now =
    PlainCall means command status before after store × (store_now ≡ store)

abbrev pub CallOf : {T : Type 0} → Meanings T → Option Command → Status → Scene → Scene → Store
    → Store → Type 0
CallOf means command = CallBy means command (file_of command)
