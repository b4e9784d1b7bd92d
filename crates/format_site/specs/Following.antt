-- Formatting behind its devices: what layouts come to, and a round that follows it.
use Rattle.std.specs.Prelude.{◌≡◌, Result, IfOk, IfErr, OnOk, OnErr, nat_lt}
use Rattle.format_files.specs.declared.laying_out.Layouts.{Layouts}
use Rattle.format_site.specs.Formats.{BeginsPuts, Formatting, MakesPuts, Places, Stopped}
use Rattle.outside.specs.Contents.{Appends}
use Rattle.publication.specs.Changing.{Tells}
use Rattle.session.specs.Sessions.{ended_by}
use Rattle.session.specs.declared.Ended.{Ended}
use Rattle.site_build.specs.Scenes.{Outs}
use Rattle.site_build.specs.Session.{WritesEarly}
use Rattle.site_build.specs.declared.ends.End.{End}

-- what layouts that were made come to
abbrev pub given_by : Layouts → Formatting
given_by made = record {
  text = made.report.items;
  ended = ended_by (nat_lt 0 made.faults);
  wants = made.wants.items;
}

-- it came to its end
pub record Finished (f : Formatting) (how : Ended) (before after : Outs) : Type 0 where
  pub ended : f.ended ≡ how
  pub text : Appends before.held f.text after.held
  pub shelf : Places f.wants before.cell after.cell

-- the shelf and the sink follow it, to its end or as far as an end lets them
pub record Follows (f : Formatting) (result : Result Ended End) (before after : Outs)
    : Type 0 where
  pub ok : IfOk result (λ how. Finished f how before after)
  pub text : IfErr result (λ e. WritesEarly f.text e before.held after.held)
  pub shelf : IfErr result (λ e. Stopped e f.wants before.cell after.cell)
  pub made : OnOk result (Tells before.cell → MakesPuts f.wants before.cell after.cell
      before.changes after.changes)
  pub begun : OnErr result (Tells before.cell → BeginsPuts f.wants before.cell after.cell
      before.changes after.changes)
