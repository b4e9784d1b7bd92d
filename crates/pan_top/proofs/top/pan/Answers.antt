use Rattle.blamed_works.proofs.Profiled.{tells_profile}
use Rattle.engine_session.proofs.RoundsOf.{has_rounds}
use Rattle.engine_session.proofs.Untouched.{leaves_rest}
use Rattle.format_laws.proofs.Formatting.{formatting_kept, settled_again}
use Rattle.kept_works.proofs.Nothing.{nothing_sound}
use Rattle.pan_top.proofs.Profiles.{are_kept}
use Rattle.rebuild.proofs.RoundLaws.{are_rounds}
use Rattle.pan_top.proofs.top.pan.Goals as goal

-- where there are no rows, nothing has to be believed of them
pub returns-clause-unkept : goal.returns-clause-unkept
returns-clause-unkept g c = λ work found gives fits.
    ∣ nothing_sound g.R.Runner.meaning g.met.R.Runner.laws found gives ∣₁

pub returns-clause-profiles : goal.returns-clause-profiles
returns-clause-profiles g c =
    let met = g.met.R.Runner in
    are_kept g.R.Runner.meaning met.laws met.by_name g.R.Runner.promises met.kept

pub returns-clause-edits : goal.returns-clause-edits
returns-clause-edits g c = λ dirs limits few.
    let met = g.met.R.Runner in
    leaves_rest (g.R.Runner.meaning dirs limits) dirs (met.laws dirs limits)
    (met.looks dirs limits) few

pub returns-clause-leaves : goal.returns-clause-leaves
returns-clause-leaves g c = λ dirs limits files objects o tree is.
    let met = g.met.R.Runner in
    tells_profile (g.R.Runner.meaning dirs limits) (met.laws dirs limits)
    (met.logged dirs limits) files objects o tree is

pub returns-clause-rounds : goal.returns-clause-rounds
returns-clause-rounds g c = λ dirs limits.
    has_rounds (g.R.Runner.meaning dirs limits) (g.met.R.Runner.laws dirs limits) dirs

pub returns-clause-circles : goal.returns-clause-circles
returns-clause-circles g c = λ dirs limits.
    (are_rounds (g.R.Runner.meaning dirs limits) (g.met.R.Runner.laws dirs limits)).circles

pub returns-clause-layouts : goal.returns-clause-layouts
returns-clause-layouts g c = formatting_kept

pub returns-clause-settled : goal.returns-clause-settled
returns-clause-settled g c = settled_again
