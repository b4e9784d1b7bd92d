use Rattle.std.proofs.Common.{arith}
use Rattle.defaults.specs.Fills.{meter, target_store}
use Rattle.defaults.proofs.Loops.{bounds_stop}
use Rattle.defaults.proofs.whole.fill_bounds.Goals as goal

pub returns-in_err-fill_bound-clause-fills : goal.returns-in_err-fill_bound-clause-fills
returns-in_err-fill_bound-clause-fills g c answers asked =
    let at = c.loop-bound.target in
    let after = c.fill_bound.new.target in
    let stops = bounds_stop c.in_err-fill_bound.field-0.0 c.args.bounds.now c.loop-bound.bound-index
    c.bound-item.result answers (target_store at) (target_store after) (meter at.work asked)
    (meter after.work asked) c.loop-bound-test.true c.bound-item.is in
    let here = c.fill_bound.ensures.fills answers asked in
    let all = c.loop-bound.invariant.fills answers asked in
    grind (arith, stops, here, all)
