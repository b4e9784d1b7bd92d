use Rattle.std.proofs.Common.{[], refl, sym, ap, subst, take, ◌∙◌, rules}
use Rattle.std.proofs.Math.Numerals.{add-one}
use Rattle.std.proofs.Math.Seq.{take-suc}
use Rattle.expected_tokens.specs.Following.{CouldFollow, IsSifted, none_left}
use Rattle.expected_tokens.proofs.Sifting.{sifted_on}
use Rattle.expected_tokens.proofs.following.all_that_could.Goals as goal

pub loop-candidate-init : goal.loop-candidate-init
loop-candidate-init c = (
  refl,
  subst (λ ys. IsSifted (CouldFollow c.args.tokens.now.items c.args.place.now) [] ys)
      (sym c.new-found.ensures.items) none_left,
)

pub loop-candidate-preserved : goal.loop-candidate-preserved
loop-candidate-preserved c =
    let kept = c.loop-candidate.invariant in (
      c.in_ok-add_if_could.ensures.same ∙ kept.0,
      sifted_on c.loop-candidate.tokens.items c.args.tokens.now.items c.args.place.now
          c.args.candidates.now
          c.loop-candidate.candidate-index kept.0 c.in_ok-add_if_could.ensures.sifted kept.1
          (ap (λ n. take n c.args.candidates.now) (add-one c.loop-candidate.candidate-index)
          ∙ take-suc c.args.candidates.now c.loop-candidate.candidate-index _ (search rules)),
    )
