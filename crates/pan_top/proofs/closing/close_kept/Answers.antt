use Rattle.std.proofs.Common.{◌≡◌, ◌⊎◌, [], subst, sym}
use Rattle.kept_build.specs.Ends.{IsFailure}
use Rattle.outside.specs.Causes.{Counted}
use Rattle.site_build.proofs.Ending.{early_none}
use Rattle.site_build.specs.declared.ends.Device.TheVariants as D
use Rattle.pan_top.specs.KeptBuilds.{Closes}
use Rattle.pan_top.specs.Statuses.{IsCut, status_of_kept}
use Rattle.call_status.specs.declared.status.Status.TheVariants as S
use Rattle.pan_top.proofs.Counting.{counted_behind}
use Rattle.pan_top.proofs.Said.{own_or_cut}
use Rattle.pan_top.proofs.closing.close_kept.Goals as goal

pub returns-in-Build-clause-status : goal.returns-in-Build-clause-status
returns-in-Build-clause-status g c =
    let r = c.close_build.result in
    subst (λ e. (r ≡ status_of_kept e) ⊎ IsCut r) (sym c.in-Build.is) c.close_build.ensures.status

pub returns-in-Build-clause-closes : goal.returns-in-Build-clause-closes
returns-in-Build-clause-closes g c =
    let old = g.O.Sink.held c.args.out.now in
    subst (λ e. Closes e c.close_build.result old (g.O.Sink.held c.close_build.new.out))
    (sym c.in-Build.is) (c.close_build.ensures.text [] old (early_none [] old _))

pub returns-in-Build-clause-count : goal.returns-in-Build-clause-count
returns-in-Build-clause-count g c = λ before at. c.close_build.ensures.count before
    (subst (λ e. Counted (IsFailure D.Out e) before (g.O.Sink.fault_count c.args.out.now))
    c.in-Build.is at)

pub returns-in-Keeper-clause-status : goal.returns-in-Keeper-clause-status
returns-in-Keeper-clause-status g c =
    let r = c.say.result in
    subst (λ e. (r ≡ status_of_kept e) ⊎ IsCut r) (sym c.in-Keeper.is)
    (own_or_cut S.KeeperFault r _ _ _ c.say.ensures.line)

pub returns-in-Keeper-clause-closes : goal.returns-in-Keeper-clause-closes
returns-in-Keeper-clause-closes g c =
    subst (λ e. Closes e c.say.result (g.O.Sink.held c.args.out.now)
    (g.O.Sink.held c.say.new.out)) (sym c.in-Keeper.is) c.say.ensures.line

pub returns-in-Keeper-clause-count : goal.returns-in-Keeper-clause-count
returns-in-Keeper-clause-count g c = λ before at.
    counted_behind (IsFailure D.Out c.args.end.now) (c.say.result ≡ S.OutFault) before _ _
    (λ is. subst (IsFailure D.Out) c.in-Keeper.is is) at c.say.ensures.count

pub returns-in-Saving-clause-status : goal.returns-in-Saving-clause-status
returns-in-Saving-clause-status g c =
    let r = c.say-in-Saving.result in
    subst (λ e. (r ≡ status_of_kept e) ⊎ IsCut r) (sym c.in-Saving.is)
    (own_or_cut S.KeeperFault r _ _ _ c.say-in-Saving.ensures.line)

pub returns-in-Saving-clause-closes : goal.returns-in-Saving-clause-closes
returns-in-Saving-clause-closes g c =
    subst (λ e. Closes e c.say-in-Saving.result (g.O.Sink.held c.args.out.now)
    (g.O.Sink.held c.say-in-Saving.new.out)) (sym c.in-Saving.is) c.say-in-Saving.ensures.line

pub returns-in-Saving-clause-count : goal.returns-in-Saving-clause-count
returns-in-Saving-clause-count g c = λ before at.
    counted_behind (IsFailure D.Out c.args.end.now) (c.say-in-Saving.result ≡ S.OutFault) before _ _
    (λ is. subst (IsFailure D.Out) c.in-Saving.is is) at c.say-in-Saving.ensures.count

pub returns-in-BadRows-clause-status : goal.returns-in-BadRows-clause-status
returns-in-BadRows-clause-status g c =
    let r = c.say-in-BadRows.result in
    subst (λ e. (r ≡ status_of_kept e) ⊎ IsCut r) (sym c.in-BadRows.is)
    (own_or_cut S.BadRows r _ _ _ c.say-in-BadRows.ensures.line)

pub returns-in-BadRows-clause-closes : goal.returns-in-BadRows-clause-closes
returns-in-BadRows-clause-closes g c =
    subst (λ e. Closes e c.say-in-BadRows.result (g.O.Sink.held c.args.out.now)
    (g.O.Sink.held c.say-in-BadRows.new.out)) (sym c.in-BadRows.is) c.say-in-BadRows.ensures.line

pub returns-in-BadRows-clause-count : goal.returns-in-BadRows-clause-count
returns-in-BadRows-clause-count g c = λ before at.
    counted_behind (IsFailure D.Out c.args.end.now) (c.say-in-BadRows.result ≡ S.OutFault) before _
    _
    (λ is. subst (IsFailure D.Out) c.in-BadRows.is is) at c.say-in-BadRows.ensures.count
