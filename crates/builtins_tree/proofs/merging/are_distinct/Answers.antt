use Rattle.std.proofs.Common.{◌≡◌, ◌-◌, ◌∷◌, true, false, drop, sym, ◌∙◌, arith, rules}
use Rattle.std.specs.Prelude.{bytes_eq}
use Rattle.std.specs.HashSet.{contains}
use Rattle.std.proofs.lemmas.Grind.{common_steps}
use Rattle.builtins_tree.specs.Merges.{is_among}
use Rattle.builtins_tree.proofs.Twice.{stands_twice, stands_once, named_by, not_held, held}
use Rattle.builtins_tree.proofs.merging.are_distinct.Goals as goal

pub returns-then-not-branch : goal.returns-then-not-branch
returns-then-not-branch c =
    let here : drop (c.loop-i.i - 1) c.args.pairs.now
    ≡ c.index-pairs-i.result ∷ drop c.loop-i.i c.args.pairs.now =
    grind (arith, common_steps, c.index-pairs-i.is, c.loop-i-test.true) in
    let name : c.in_ok-key.key ≡ c.index-pairs-i.result.key = search rules in
    let added : c.in_ok-insert.field-0 ≡ false = search rules in
    let twice : is_among c.index-pairs-i.result.key (drop c.loop-i.i c.args.pairs.now) ≡ true =
    sym (c.loop-i.invariant.later c.index-pairs-i.result.key)
    ∙ held _ _ (rw name at c.in_ok-insert.ensures.added) added in
    stands_twice (c.loop-i.i - 1) c.index-pairs-i.result c.args.pairs.now
    (drop c.loop-i.i c.args.pairs.now) here twice

pub loop-i-preserved : goal.loop-i-preserved
loop-i-preserved c =
    let here : drop (c.loop-i.i - 1) c.args.pairs.now
    ≡ c.index-pairs-i.result ∷ drop c.loop-i.i c.args.pairs.now =
    grind (arith, common_steps, c.index-pairs-i.is, c.loop-i-test.true) in
    let name : c.in_ok-key.key ≡ c.index-pairs-i.result.key = search rules in
    let added : c.in_ok-insert.field-0 ≡ true = search rules in
    let once : is_among c.index-pairs-i.result.key (drop c.loop-i.i c.args.pairs.now) ≡ false =
    sym (c.loop-i.invariant.later c.index-pairs-i.result.key)
    ∙ not_held _ _ (rw name at c.in_ok-insert.ensures.added) added in
    record {
      distinct = stands_once (c.loop-i.i - 1) c.index-pairs-i.result c.args.pairs.now
          (drop c.loop-i.i c.args.pairs.now) here once c.loop-i.invariant.distinct;
      later = λ n. rw name at (c.in_ok-insert.ensures.updates.0 n)
          ∙ named_by (c.loop-i.i - 1) c.index-pairs-i.result c.args.pairs.now
          (drop c.loop-i.i c.args.pairs.now) n (contains bytes_eq c.loop-i.later n) here
          (c.loop-i.invariant.later n);
    }
