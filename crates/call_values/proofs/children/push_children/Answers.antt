use Rattle.std.proofs.Common.{[], ◌∷◌, ◌++◌, ap, ◌∙◌}
use Rattle.call_values.proofs.Kids.{child_pushed}
use Rattle.call_values.proofs.children.push_children.Goals as goal

pub loop-i-preserved : goal.loop-i-preserved
loop-i-preserved c =
    child_pushed c.args.tree.now c.in-Some.child.now c.loop-i.i c.args.end c.loop-i.made.items
    c.push.new.self.items _
    c.in-Some.ensures.value c.loop-i-test.true
    (c.in_ok-push.ensures.items ∙ ap (λ x. c.loop-i.made.items ++ x ∷ []) c.in_ok-copy.ensures)
    c.loop-i.invariant
