use Rattle.std.proofs.Common.{◌∷◌, ap, ◌∙◌}
use Rattle.builtins_tree.proofs.Builds.{pair_read}
use Rattle.builtins_tree.proofs.dicts.pairs_in.Goals as goal

pub loop-key-preserved : goal.loop-key-preserved
loop-key-preserved c =
    pair_read c.args.args.now c.loop-key.rest.now c.in-Some-split_first.others.now c.in-Some.key.now
    c.in-Some-split_first.value.now c.in_ok-value.value
    c.in-Ok.key c.loop-key.pairs.items c.push.new.self.items
    (c.in-Some.ensures.cases.0 ∙ ap (λ r. c.in-Some.key.now ∷ r)
    c.in-Some-split_first.ensures.cases.0)
    c.in-Ok.ensures.ok c.in-Ok.ensures.key c.in_ok-value.ensures c.in_ok-push.ensures.items
    c.loop-key.invariant.0 c.loop-key.invariant.1 c.loop-key.invariant.2 c.loop-key.invariant.3
