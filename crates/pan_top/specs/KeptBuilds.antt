-- How a build with a keeper ends.
use Rattle.std.specs.Prelude.{◌≡◌, ◌⊎◌, ℕ, List, [], Option, codes}
use Rattle.command_words.specs.declared.commands.Work.{Work}
use Rattle.kept_build.specs.Builds.{Breaks, Finishes, Unbegun}
use Rattle.kept_build.specs.Stores.{Store}
use Rattle.kept_build.specs.declared.ends.End.{End}
use Rattle.kept_build.specs.declared.ends.End.TheVariants as K
use Rattle.outside.specs.Causes.{Counted}
use Rattle.rebuild.specs.Engines.{Meanings}
use Rattle.session.specs.declared.Ended.{Ended}
use Rattle.site_build.specs.Scenes.{Scene}
use Rattle.pan_top.specs.Builds.{Wrote}
use Rattle.call_status.specs.Statuses.{status_after}
use Rattle.pan_top.specs.Statuses.{IsCut, Says, status_of_kept}
use Rattle.call_status.specs.declared.status.Status.{Status}
use Rattle.call_status.specs.declared.status.Status.TheVariants as S

-- the line of an end, behind what was written
abbrev pub Closes : End → Status → Option (List ℕ) → Option (List ℕ) → Type 0
Closes (K.Build e) status old new = Wrote [] e status old new
Closes K.Keeper status old new = Says S.KeeperFault (codes "keeper fault\n") status old new
Closes K.Saving status old new = Says S.KeeperFault (codes "keeper fault\n") status old new
Closes K.BadRows status old new = Says S.BadRows (codes "bad rows\n") status old new

module _ {T : Type 0} (means : Meanings T) (w : Work) (file : List ℕ) (status : Status)
    (before after : Scene) (store store_now : Store) where
  -- it came to its end, as its session says, and no call of a device failed
  pub record KeptBuilt : Type 0 where
    pub ended : Ended
    pub is : status ≡ status_after ended
    pub session : Finishes means w file ended before after store store_now

  -- It did not begin, or it ended early, by this end; then the line of the end was written.
  pub record KeptPart : Type 0 where
    pub end : End
    pub is : (status ≡ status_of_kept end) ⊎ IsCut status
    pub mid : Scene
    pub broke : Unbegun w file end before mid store store_now
        ⊎ Breaks means w file end before mid store store_now
    pub closes : Closes end status mid.held after.held
    pub only : after ≡ record mid { held = after.held; out_count = after.out_count }
    pub out_count : Counted (status ≡ S.OutFault) before.out_count after.out_count

  abbrev pub KeptCall : Type 0
  KeptCall = KeptBuilt ⊎ KeptPart
