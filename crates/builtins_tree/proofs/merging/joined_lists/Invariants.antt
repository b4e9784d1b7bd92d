use Rattle.std.proofs.Common.{◌≡◌, take}
use Rattle.std.specs.List.{flat_map}
use Rattle.call_values.specs.Children.{children}
use Rattle.builtins_tree.proofs.merging.joined_lists.Given as goal

abbrev pub invariant-loop-list : goal.invariant-loop-list
invariant-loop-list l = l.items.items ≡ flat_map children (take l.list-index l.lists)
