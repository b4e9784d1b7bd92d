use Rattle.std.proofs.Common.{◌≡◌, ◌-◌, ◌∷◌, true, false, drop, sym, ◌∙◌, arith, rules}
use Rattle.std.specs.Prelude.{bytes_eq}
use Rattle.std.specs.HashSet.{contains}
use Rattle.std.proofs.lemmas.Grind.{common_steps}
use Rattle.outside.specs.Pictures.{has_name}
use Rattle.outside.proofs.Twice.{stands_twice, stands_once, named_by, not_held, held}
use Rattle.outside.proofs.distinct.are_distinct.Goals as goal

pub returns-then-not-branch : goal.returns-then-not-branch
returns-then-not-branch c =
    let here : drop (c.loop-i.i - 1) c.args.files.now
    ≡ c.index-files-i.result ∷ drop c.loop-i.i c.args.files.now =
    grind (arith, common_steps, c.index-files-i.is, c.loop-i-test.true) in
    let name : c.in_ok-share.field-0 ≡ c.index-files-i.result.name = search rules in
    let added : c.in_ok-insert.field-0 ≡ false = search rules in
    let twice : has_name c.index-files-i.result.name (drop c.loop-i.i c.args.files.now) ≡ true =
    sym (c.loop-i.invariant.later c.index-files-i.result.name)
    ∙ held _ _ (rw name at c.in_ok-insert.ensures.added) added in
    stands_twice (c.loop-i.i - 1) c.index-files-i.result c.args.files.now
    (drop c.loop-i.i c.args.files.now) here twice

pub loop-i-preserved : goal.loop-i-preserved
loop-i-preserved c =
    let here : drop (c.loop-i.i - 1) c.args.files.now
    ≡ c.index-files-i.result ∷ drop c.loop-i.i c.args.files.now =
    grind (arith, common_steps, c.index-files-i.is, c.loop-i-test.true) in
    let name : c.in_ok-share.field-0 ≡ c.index-files-i.result.name = search rules in
    let added : c.in_ok-insert.field-0 ≡ true = search rules in
    let once : has_name c.index-files-i.result.name (drop c.loop-i.i c.args.files.now) ≡ false =
    sym (c.loop-i.invariant.later c.index-files-i.result.name)
    ∙ not_held _ _ (rw name at c.in_ok-insert.ensures.added) added in
    record {
      distinct = stands_once (c.loop-i.i - 1) c.index-files-i.result c.args.files.now
          (drop c.loop-i.i c.args.files.now) here once c.loop-i.invariant.distinct;
      later = λ n. rw name at (c.in_ok-insert.ensures.updates.0 n)
          ∙ named_by (c.loop-i.i - 1) c.index-files-i.result c.args.files.now
          (drop c.loop-i.i c.args.files.now) n (contains bytes_eq c.loop-i.later n) here
          (c.loop-i.invariant.later n);
    }
