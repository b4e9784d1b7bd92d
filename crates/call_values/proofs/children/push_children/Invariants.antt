use Rattle.std.proofs.Common.{◌≡◌, ◌-◌, ◌++◌, take, drop}
use Rattle.call_values.specs.Children.{children}
use Rattle.call_values.proofs.children.push_children.Given as goal

abbrev pub invariant-loop-i : goal.invariant-loop-i
invariant-loop-i l =
    l.made.items ++ take (l.end - l.i) (drop l.i (children l.tree)) ≡ l.fn.made.items
    ++ take (l.end - l.start) (drop l.start (children l.tree))
