use Rattle.std.proofs.Common.{◌≡◌, ◌-◌, ◌∷◌, drop, arith}
use Rattle.std.proofs.lemmas.Grind.{common_steps}
use Rattle.builtins_tree.specs.Dicts.{fields_of_pairs}
use Rattle.builtins_tree.proofs.Builds.{part_made, part_refused}
use Rattle.builtins_tree.proofs.pairs.dict_of_pairs.Goals as goal

pub returns-in-Err : goal.returns-in-Err
returns-in-Err c =
    let here : drop (c.loop-i.i - 1) c.args.pairs.now
    ≡ c.index-pairs-i.result ∷ drop c.loop-i.i c.args.pairs.now =
    grind (arith, common_steps, c.index-pairs-i.is, c.loop-i-test.true) in
    part_refused c.in-Err.error c.args.pairs.now (c.loop-i.i - 1) c.index-pairs-i.result
    (drop c.loop-i.i c.args.pairs.now) here
    (c.in-Err.ensures (fields_of_pairs (drop c.loop-i.i c.args.pairs.now)) c.loop-i.invariant.0)

pub loop-i-preserved : goal.loop-i-preserved
loop-i-preserved c =
    let here : drop (c.loop-i.i - 1) c.args.pairs.now
    ≡ c.index-pairs-i.result ∷ drop c.loop-i.i c.args.pairs.now =
    grind (arith, common_steps, c.index-pairs-i.is, c.loop-i-test.true) in
    part_made c.args.pairs.now (c.loop-i.i - 1) c.index-pairs-i.result
    (drop c.loop-i.i c.args.pairs.now) c.put_new.new.dict here
    (c.in-Ok.ensures (fields_of_pairs (drop c.loop-i.i c.args.pairs.now)) c.loop-i.invariant.0)
