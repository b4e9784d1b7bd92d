use Rattle.std.proofs.Common.{◌≡◌, ℕ, List, drop, true}
use Rattle.std.specs.Prelude.{bytes_eq}
use Rattle.std.specs.HashSet.{contains}
use Rattle.outside.specs.Pictures.{are_distinct, has_name}
use Rattle.outside.proofs.distinct.are_distinct.Given as goal

abbrev pub invariant-loop-i : goal.invariant-loop-i
invariant-loop-i l = record {
  distinct : are_distinct (drop l.i l.files) ≡ true;
  later : (n : List ℕ) → contains bytes_eq l.later n ≡ has_name n (drop l.i l.files);
}
