-- The statuses of the ends that come before a session's own, and their lines.
use Rattle.std.specs.Prelude.{◌≡◌, ◌⊎◌, ℕ, List, [], ◌++◌, Option, codes}
use Rattle.outside.specs.Contents.{Appends, AppendsPart}
use Rattle.site_build.specs.declared.ends.End.{End}
use Rattle.site_build.specs.declared.ends.End.TheVariants as E
use Rattle.kept_build.specs.declared.ends.End as kept
use Rattle.kept_build.specs.declared.ends.End.TheVariants as K
use Rattle.call_status.specs.declared.status.Status.{Status}
use Rattle.call_status.specs.declared.status.Status.TheVariants as S

-- of a build that ended early, and the line of its end
abbrev pub status_of : End → Status
status_of E.Source = S.SourceFault
status_of E.Shelf = S.ShelfFault
status_of (E.Publishing object) = S.ShelfFault
status_of E.Out = S.OutFault
status_of E.Memory = S.Memory

-- .. of one with a keeper
abbrev pub status_of_kept : kept.End → Status
status_of_kept (K.Build e) = status_of e
status_of_kept K.Keeper = S.KeeperFault
status_of_kept K.Saving = S.KeeperFault
status_of_kept K.BadRows = S.BadRows

abbrev pub line_of : End → List ℕ
line_of E.Source = codes "source fault\n"
line_of E.Shelf = codes "shelf fault\n"
line_of (E.Publishing object) = codes "shelf fault " ++ object ++ codes "\n"
line_of E.Out = []
line_of E.Memory = []

-- a text could not be written whole: a write failed, or memory was wanting
abbrev pub IsCut : Status → Type 0
IsCut status = (status ≡ S.OutFault) ⊎ (status ≡ S.Memory)

-- a line was written, and the call has this status; or a part of the line, as it was cut
abbrev pub Says : Status → List ℕ → Status → Option (List ℕ) → Option (List ℕ) → Type 0
Says own line status old new =
    ((status ≡ own) × Appends old line new) ⊎ (IsCut status × AppendsPart old line new)
