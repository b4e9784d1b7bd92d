-- How a build ends.
use Rattle.std.specs.Prelude.{◌≡◌, ◌⊎◌, ℕ, List, Option, IfSome}
use Rattle.command_words.specs.declared.commands.Work.{Work}
use Rattle.engine_session.specs.Standing.{HasSpentAtMost}
use Rattle.outside.specs.Causes.{Counted}
use Rattle.outside.specs.Contents.{AppendsPart}
use Rattle.outside.specs.Cells.{AreSame}
use Rattle.publication.specs.Changing.{AreListed, BegunOver, Tells}
use Rattle.rebuild.specs.Engines.{Meanings}
use Rattle.session.specs.declared.Ended.{Ended}
use Rattle.site_build.specs.Ends.{IsFailureOf, Stopped}
use Rattle.site_build.specs.Session.{session_for, state_for, Finishes, TakesEarly, IsPerhapsOpened}
use Rattle.site_build.specs.declared.ends.Device.TheVariants as D
use Rattle.site_build.specs.declared.ends.End.{End}
use Rattle.site_build.specs.declared.ends.End.TheVariants as E
use Rattle.site_build.specs.Scenes.{Scene}
use Rattle.call_status.specs.Statuses.{status_after}
use Rattle.pan_top.specs.Statuses.{status_of, line_of, IsCut, Says}
use Rattle.call_status.specs.declared.status.Status.{Status}
use Rattle.call_status.specs.declared.status.Status.TheVariants as S

-- what an end has written: a first part of the text where a write failed or memory was wanting,
-- else
-- its line
abbrev pub Wrote : List ℕ → End → Status → Option (List ℕ) → Option (List ℕ) → Type 0
Wrote text E.Out status old new = (status ≡ S.OutFault) × AppendsPart old text new
Wrote text E.Memory status old new = (status ≡ S.Memory) × AppendsPart old text new
Wrote text e status old new = Says (status_of e) (line_of e) status old new

module _ {T : Type 0} (means : Meanings T) (w : Work) (status : Status) (before after : Scene) where
  -- It came to its end, as its session says, and no call of a device failed.
  pub record Built : Type 0 where
    pub ended : Ended
    pub is : status ≡ status_after ended
    pub session : Finishes means w ended before after

  -- It ended early, by this end: a part of that at most. The device whose call failed counts it.
  pub record BuiltPart : Type 0 where
    pub end : End
    pub is : (status ≡ status_of end) ⊎ IsCut status
    pub names : List (List ℕ)
    pub listed : ((after.changes ≡ before.changes) × AreSame before.cell after.cell)
        ⊎ AreListed names before.cell
    pub text : IfSome before.coming (λ ps. Wrote (session_for means w names ps).text end status
        before.held after.held)
    pub shelf : IfSome before.coming (λ ps. Stopped end (session_for means w names ps).shelf
        before.cell after.cell)
    pub order : Tells before.cell → IfSome before.coming (λ ps. BegunOver
        (session_for means w names ps).wants names before.cell after.cell before.changes
        after.changes)
    pub spent : IfSome before.coming (λ ps. HasSpentAtMost (state_for means w ps) before.spent
        after.spent)
    pub taken : TakesEarly end before.coming after.coming
    pub source_opened : IsPerhapsOpened w.source before.source_opened after.source_opened
    pub shelf_opened : IsPerhapsOpened w.out before.shelf_opened after.shelf_opened
    pub source_count : Counted (IsFailureOf D.Source end) before.source_count after.source_count
    pub shelf_count : Counted (IsFailureOf D.Shelf end) before.shelf_count after.shelf_count
    pub out_count : Counted (status ≡ S.OutFault) before.out_count after.out_count

  -- no line is read
  pub record BuildCall : Type 0 where
    pub session : Built ⊎ BuiltPart
    pub lines : after.lines ≡ before.lines
    pub lines_count : after.lines_count ≡ before.lines_count
