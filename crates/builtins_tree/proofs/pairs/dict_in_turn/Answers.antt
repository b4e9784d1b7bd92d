use Rattle.std.proofs.Common.{suc, take, drop, ◌≡◌, ◌+◌, arith}
use Rattle.builtins_tree.specs.Merges.{fields_in_turn}
use Rattle.builtins_tree.proofs.Builds.{parted, turn_made, turn_refused}
use Rattle.builtins_tree.proofs.pairs.dict_in_turn.Goals as goal

pub returns-in-Err : goal.returns-in-Err
returns-in-Err c =
    turn_refused c.in-Err.error c.args.pairs.now (take c.loop-pair.pair-index c.args.pairs.now)
    c.pair-item.result (drop (suc c.loop-pair.pair-index) c.args.pairs.now)
    (parted c.loop-pair.pair-index c.args.pairs.now c.pair-item.result c.pair-item.is
    c.loop-pair-test.true)
    (c.in-Err.ensures (fields_in_turn (take c.loop-pair.pair-index c.args.pairs.now))
    c.loop-pair.invariant.0)

pub loop-pair-preserved : goal.loop-pair-preserved
loop-pair-preserved c =
    let next : c.loop-pair.pair-index + 1 ≡ suc c.loop-pair.pair-index = omega (arith) in
    turn_made c.args.pairs.now c.loop-pair.pair-index (c.loop-pair.pair-index + 1)
    c.pair-item.result c.put_new.new.dict c.pair-item.is c.loop-pair-test.true next
    (c.in-Ok.ensures (fields_in_turn (take c.loop-pair.pair-index c.args.pairs.now))
    c.loop-pair.invariant.0)
