use Rattle.std.proofs.Common.{[], ◌∷◌, ◌++◌, sym, subst}
use Rattle.expected_tokens.specs.Following.{CouldFollow, IsSifted}
use Rattle.expected_tokens.proofs.Sifting.{sifted_less, sifted_more}
use Rattle.expected_tokens.proofs.following.add_if_could.Goals as goal

pub returns-in_ok-push-clause-sifted : goal.returns-in_ok-push-clause-sifted
returns-in_ok-push-clause-sifted c = λ among sifted.
    subst (λ ys. IsSifted (CouldFollow c.args.tokens.now.items c.args.place.now)
    (among ++ c.args.candidate.now ∷ []) ys) (sym c.in_ok-push.ensures.items)
    (sifted_more c.args.candidate.now sifted (c.in_ok-could_follow.ensures.could c.if-branch.true))

pub returns-else-branch-clause-sifted : goal.returns-else-branch-clause-sifted
returns-else-branch-clause-sifted c = λ among sifted.
    sifted_less c.args.candidate.now sifted (c.in_ok-could_follow.ensures.could_not
    c.if-branch.false)
