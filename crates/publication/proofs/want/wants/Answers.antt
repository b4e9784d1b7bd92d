use Rattle.std.proofs.Common.{◌≡◌, ◌+◌, ◌∷◌, ◌++◌, [], drop, arith, ap, sym, ◌∙◌, append-nil}
use Rattle.std.proofs.lemmas.Grind.{common_steps}
use Rattle.std.proofs.lemmas.List.{append_assoc}
use Rattle.publication.specs.Wants.{wants_of, json_want, dep_want}
use Rattle.publication.proofs.want.wants.Goals as goal

pub loop-profile-preserved : goal.loop-profile-preserved
loop-profile-preserved c =
    let e : drop c.loop-profile.profile-index c.args.profiles.now
    ≡ c.profile-item.result ∷ drop (c.loop-profile.profile-index + 1) c.args.profiles.now =
    grind (arith, common_steps, c.profile-item.is, c.loop-profile-test.true) in
    let rest = wants_of (drop (c.loop-profile.profile-index + 1) c.args.profiles.now) in
    ap (λ l. l ++ rest) c.in_ok-add_wants.ensures
    ∙ append_assoc c.loop-profile.made.items (json_want c.profile-item.result ∷ dep_want
    c.profile-item.result ∷ []) rest ∙ rw e at c.loop-profile.invariant

pub returns : goal.returns
returns c =
    let end : drop c.loop-profile.profile-index c.args.profiles.now ≡ [] =
    grind (arith, common_steps, c.loop-profile-test.false) in
    sym (append-nil c.loop-profile.made.items) ∙ rw end at c.loop-profile.invariant
