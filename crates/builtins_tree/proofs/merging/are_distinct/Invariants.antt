use Rattle.std.proofs.Common.{◌≡◌, ℕ, List, drop, true}
use Rattle.std.specs.Prelude.{bytes_eq}
use Rattle.std.specs.HashSet.{contains}
use Rattle.builtins_tree.specs.Merges.{are_distinct, is_among}
use Rattle.builtins_tree.proofs.merging.are_distinct.Given as goal

abbrev pub invariant-loop-i : goal.invariant-loop-i
invariant-loop-i l = record {
  distinct : are_distinct (drop l.i l.pairs) ≡ true;
  later : (n : List ℕ) → contains bytes_eq l.later n ≡ is_among n (drop l.i l.pairs);
}
