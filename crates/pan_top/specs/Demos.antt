-- How a demo ends.
use Rattle.std.specs.Prelude.{◌≡◌, ◌⊎◌, ℕ, List, ◌++◌, Option}
use Rattle.command_words.specs.declared.commands.Demonstration.{Demonstration}
use Rattle.engine_session.specs.Compiler.{Compiled}
use Rattle.engine_session.specs.Standing.{Counts, HasSpentAtMost, SpendsAs}
use Rattle.demo.specs.Demo.{demo_session}
use Rattle.outside.specs.Causes.{Counted}
use Rattle.outside.specs.Contents.{Appends, AppendsPart}
use Rattle.pan_ast.specs.declared.work.Limits.{Limits}
use Rattle.rebuild.specs.Engines.{Meanings}
use Rattle.session.specs.Sessions.{Next, state_in, end_of, end_line}
use Rattle.site_build.specs.Scenes.{Scene, OnlyWrites}
use Rattle.call_status.specs.Statuses.{status_after}
use Rattle.pan_top.specs.Statuses.{IsCut}
use Rattle.call_status.specs.declared.status.Status.{Status}
use Rattle.call_status.specs.declared.status.Status.TheVariants as S

abbrev pub limits_given : Demonstration → Limits
limits_given d = record { max_iteration = d.iterations; max_recursion = d.recursion }

-- what the builds of a demo lead to
abbrev pub shown_by : {T : Type 0} → Meanings T → Demonstration → Next (Compiled T)
shown_by means d = demo_session means (limits_given d) d.count d.start

-- its text, with the line of the end
abbrev pub text_after : {E : Type 0} → Next E → List ℕ
text_after x = (state_in x).text ++ end_line (end_of x)

-- the demo was shown whole, or a part of it
abbrev pub Shows : {E : Type 0} → Next E → Status → Option (List ℕ) → Option (List ℕ) → Counts
    → Counts → Type 0
Shows x status old new before now =
    ((status ≡ status_after (end_of x)) × Appends old (text_after x) new
    × SpendsAs (end_of x) (state_in x) before now)
    ⊎ (IsCut status × AppendsPart old (text_after x) new × HasSpentAtMost (state_in x) before now)

pub record DemoCall {T : Type 0} (means : Meanings T) (d : Demonstration) (status : Status)
    (before after : Scene) : Type 0 where
  pub only : OnlyWrites before after
  pub shows : Shows (shown_by means d) status before.held after.held before.spent after.spent
  pub out_count : Counted (status ≡ S.OutFault) before.out_count after.out_count
