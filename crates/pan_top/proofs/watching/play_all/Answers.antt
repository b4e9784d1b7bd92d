use Rattle.std.proofs.Common.{◌≡◌, false, true}
use Rattle.engine_session.proofs.KeptTrees.{no_texts}
use Rattle.engine_session.specs.Standing.{IsBegun}
use Rattle.watch.proofs.Ready.{failed_ready}
use Rattle.pan_top.proofs.Watched.{played_where}
use Rattle.pan_top.proofs.watching.play_all.Goals as goal

pub returns : goal.returns
returns g c =
    rw (
      c.leave.ensures.status,
      c.leave.ensures.works,
      c.leave.ensures.devices,
      c.leave.ensures.keeper,
    )
    (played_where g.R.Runner.meaning _ (IsBegun g.R.Runner.meaning c.args.works)
    (λ begun. failed_ready g.R.Runner.meaning _ begun
    (λ taken. absurd (let clash : false ≡ true = taken in cc)) (no_texts _ _
    c.new.ensures.entries c.new.ensures.before)) _ _ _ _ _ _
    c.play_site-status.ensures)
