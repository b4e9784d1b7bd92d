-- How a watcher with a keeper ends.
use Rattle.std.specs.Prelude.{◌≡◌, ◌⊎◌, ℕ, List, Some}
use Rattle.command_words.specs.declared.commands.Work.{Work}
use Rattle.kept_build.specs.Builds.{Opens, Unbegun}
use Rattle.kept_build.specs.Kept.{IsSoundStart, begun_for}
use Rattle.kept_build.specs.declared.ends.End.{End}
use Rattle.kept_state.specs.Stored.{Stored}
use Rattle.outside.specs.Causes.{Counted}
use Rattle.rebuild.specs.Engines.{Meanings}
use Rattle.row_changes.specs.Stores.{Store}
use Rattle.site_build.specs.Scenes.{Scene}
use Rattle.stored_rows.specs.declared.row.StoredRow.{StoredRow}
use Rattle.pan_top.specs.KeptBuilds.{Closes}
use Rattle.pan_top.specs.Watches.{Plays}
use Rattle.call_status.specs.declared.status.Status.{Status}
use Rattle.call_status.specs.declared.status.Status.TheVariants as S

module _ {T : Type 0} (means : Meanings T) (w : Work) (file : List ℕ) (status : Status)
    (before after : Scene) (store store_now : Store) where
  -- its devices were opened and the rows read, and a session was played that goes on from what
  -- these
  -- give, which is said where that is sound
  pub record KeptPlays : Type 0 where
    pub names : List (List ℕ)
    pub last : List StoredRow
    pub found : Stored
    pub mid : Scene
    pub read : Store
    pub opens : Opens w file names last found before mid store read
    pub plays : Plays means w (IsSoundStart means w found) (begun_for w found) (Some last) names
        status mid after read store_now

  -- it did not begin, and the line of this end was written
  pub record KeptUnbegun : Type 0 where
    pub end : End
    pub mid : Scene
    pub unbegun : Unbegun w file end before mid store store_now
    pub closes : Closes end status mid.held after.held
    pub only : after ≡ record mid { held = after.held; out_count = after.out_count }
    pub out_count : Counted (status ≡ S.OutFault) before.out_count after.out_count

  abbrev pub KeptWatchCall : Type 0
  KeptWatchCall = KeptPlays ⊎ KeptUnbegun
