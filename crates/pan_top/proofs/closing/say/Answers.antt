use Rattle.std.proofs.Common.{◌≡◌, inl, inr, refl, sym, subst, ◌∙◌}
use Rattle.site_build.specs.Ends.{IsFailureOf}
use Rattle.site_build.specs.declared.ends.Device.TheVariants as D
use Rattle.pan_top.specs.Statuses.{IsCut}
use Rattle.call_status.specs.declared.status.Status.TheVariants as S
use Rattle.pan_top.proofs.Counting.{counted_by, counted_of, counted_same, out_device, out_status}
use Rattle.pan_top.proofs.Said.{sink_cut}
use Rattle.pan_top.proofs.closing.say.Goals as goal

pub returns-in-Ok-clause-line : goal.returns-in-Ok-clause-line
returns-in-Ok-clause-line g c = inl (refl, c.in-Ok.ensures.ok)

pub returns-in-Err-clause-line : goal.returns-in-Err-clause-line
returns-in-Err-clause-line g c =
    inr (
      subst IsCut (sym c.status_of.ensures) (sink_cut c.in-Err.refused c.in-Err.ensures.kind),
      c.in-Err.ensures.err,
    )

pub returns-in-Ok-clause-count : goal.returns-in-Ok-clause-count
returns-in-Ok-clause-count g c =
    counted_same (c.args.status ≡ S.OutFault) _ _ c.in-Ok.ensures.cause.done c.requires

pub returns-in-Err-clause-count : goal.returns-in-Err-clause-count
returns-in-Err-clause-count g c =
    counted_by (IsFailureOf D.Out c.in-Err.refused) (c.status_of.result ≡ S.OutFault) _ _
    (λ is. c.status_of.ensures ∙ out_status c.in-Err.refused is)
    (λ is. out_device c.in-Err.refused (sym c.status_of.ensures ∙ is))
    (counted_of c.in-Err.refused _ _ c.in-Err.ensures.cause)
