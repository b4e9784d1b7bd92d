use Rattle.std.proofs.Common.{◌≡◌, ◌++◌, codes, inr, refl, subst, ◌∙◌}
use Rattle.pan_top.specs.Statuses.{Says}
use Rattle.call_status.specs.declared.status.Status.TheVariants as S
use Rattle.site_build.proofs.Ending.{none_of}
use Rattle.pan_top.proofs.Counting.{counted_same}
use Rattle.pan_top.proofs.closing.say_name.Goals as goal

pub returns-in_default-clause-line : goal.returns-in_default-clause-line
returns-in_default-clause-line g c =
    inr (
      inr refl,
      none_of (codes "shelf fault " ++ c.args.object.now ++ codes "\n")
          (g.O.Sink.held c.args.out.now),
    )

pub returns-in_default-clause-count : goal.returns-in_default-clause-count
returns-in_default-clause-count g c = counted_same (S.Memory ≡ S.OutFault) _ _ refl (λ is. cc)

pub returns-clause-line : goal.returns-clause-line
returns-clause-line g c =
    subst (λ line. Says S.ShelfFault line c.say.result (g.O.Sink.held c.args.out.now)
    (g.O.Sink.held c.say.new.out)) (c.deref.ensures.value ∙ c.in-Ok.ensures) c.say.ensures.line
