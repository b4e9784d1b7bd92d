use Rattle.std.proofs.Common.{◌≡◌, drop}
use Rattle.call_values.specs.Children.{children}
use Rattle.builtins_tree.specs.Searches.{found_item}
use Rattle.builtins_tree.proofs.searching.found_item.Given as goal

abbrev pub invariant-loop-i : goal.invariant-loop-i
invariant-loop-i l = found_item l.wanted l.i (drop l.i (children l.list))
    ≡ found_item l.wanted l.start (drop l.start (children l.list))
