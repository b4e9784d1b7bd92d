use Rattle.std.proofs.Common.{◌≡◌, ◌≤◌, ◌+◌, ◌++◌, replicate, vec_len, vec_capacity}
use Rattle.path_tree.specs.Plain.{undef}
use Rattle.path_tree.proofs.tree.lists.extend.Given as goal

abbrev pub invariant-loop : goal.invariant-loop
invariant-loop l = record {
  items : l.items.items ≡ l.fn.items.items ++ replicate l.counter undef;
  len : vec_len l.items ≡ vec_len l.fn.items + l.counter;
  room : vec_len l.fn.items + l.missing + 1 ≤ vec_capacity l.items;
}
