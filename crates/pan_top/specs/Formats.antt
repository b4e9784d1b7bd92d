-- How a formatting ends.
use Rattle.std.specs.Prelude.{◌≡◌, ◌⊎◌, IfSome}
use Rattle.command_words.specs.declared.commands.Pair.{Pair}
use Rattle.format_site.specs.Formats.{formatting_for, BeginsPuts, Finishes, Stopped}
use Rattle.outside.specs.Causes.{Counted}
use Rattle.publication.specs.Changing.{Tells}
use Rattle.session.specs.declared.Ended.{Ended}
use Rattle.site_build.specs.Ends.{IsFailureOf}
use Rattle.site_build.specs.Scenes.{Scene}
use Rattle.site_build.specs.Session.{TakesEarly, IsPerhapsOpened}
use Rattle.site_build.specs.declared.ends.Device.TheVariants as D
use Rattle.site_build.specs.declared.ends.End.{End}
use Rattle.pan_top.specs.Builds.{Wrote}
use Rattle.call_status.specs.Statuses.{status_after}
use Rattle.pan_top.specs.Statuses.{status_of, IsCut}
use Rattle.call_status.specs.declared.status.Status.{Status}
use Rattle.call_status.specs.declared.status.Status.TheVariants as S

module _ (pair : Pair) (status : Status) (before after : Scene) where
  -- it came to its end, and no call of a device failed
  pub record Formatted : Type 0 where
    pub ended : Ended
    pub is : status ≡ status_after ended
    pub formats : Finishes pair ended before after

  -- It ended early, by this end: a part of that at most. The device whose call failed counts it. No
  -- run
  -- and no step was made.
  pub record FormattedPart : Type 0 where
    pub end : End
    pub is : (status ≡ status_of end) ⊎ IsCut status
    pub text : IfSome before.coming
        (λ ps. Wrote (formatting_for ps).text end status before.held after.held)
    pub shelf : IfSome before.coming
        (λ ps. Stopped end (formatting_for ps).wants before.cell after.cell)
    pub order : Tells before.cell → IfSome before.coming (λ ps. BeginsPuts
        (formatting_for ps).wants before.cell after.cell before.changes after.changes)
    pub spent : after.spent ≡ before.spent
    pub taken : TakesEarly end before.coming after.coming
    pub source_opened : IsPerhapsOpened pair.source before.source_opened after.source_opened
    pub shelf_opened : IsPerhapsOpened pair.out before.shelf_opened after.shelf_opened
    pub source_count : Counted (IsFailureOf D.Source end) before.source_count after.source_count
    pub shelf_count : Counted (IsFailureOf D.Shelf end) before.shelf_count after.shelf_count
    pub out_count : Counted (status ≡ S.OutFault) before.out_count after.out_count
    pub lines : after.lines ≡ before.lines
    pub lines_count : after.lines_count ≡ before.lines_count

  abbrev pub FormatCall : Type 0
  FormatCall = Formatted ⊎ FormattedPart
