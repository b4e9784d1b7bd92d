use Rattle.std.proofs.Common.{arith}
use Rattle.questions.specs.Told.{only}
use Rattle.dml_meaning.proofs.Leaving.{extend_leaves}
use Rattle.dml_world.specs.Evaluations.{env_of, meter_of}
use Rattle.dml_world.specs.Seen.{around_of}
use Rattle.dml_leaves.specs.References.{reached_of}
use Rattle.dml_leaves.proofs.Stopping.{change_stops}
use Rattle.dml_leaves.proofs.changing.extend_reached.Goals as goal

pub returns-in_err-list-clause-gives : goal.returns-in_err-list-clause-gives
returns-in_err-list-clause-gives g c = λ keys.
    let leaves = extend_leaves (around_of c.args.around.now g.W.World.reading g.W.World.calls)
    c.args.place.now c.args.side c.args.name.now (reached_of c.args.reached) c.args.value
    (only keys g.W.World.answers) (env_of c.args.evaluation.now)
    (meter_of g.W.World c.args.evaluation.now) in
    grind (arith, leaves)

pub returns-in_err-longer-clause-gives : goal.returns-in_err-longer-clause-gives
returns-in_err-longer-clause-gives g c = λ keys.
    let leaves = extend_leaves (around_of c.args.around.now g.W.World.reading g.W.World.calls)
    c.args.place.now c.args.side c.args.name.now (reached_of c.args.reached) c.args.value
    (only keys g.W.World.answers) (env_of c.args.evaluation.now)
    (meter_of g.W.World c.args.evaluation.now) in
    grind (arith, leaves)

pub returns-in_err-change-clause-gives : goal.returns-in_err-change-clause-gives
returns-in_err-change-clause-gives g c = λ keys.
    let list = c.as_list.ensures keys in
    let longer = c.extend.ensures keys in
    let changed = c.change.ensures.gives keys in
    let stops = change_stops c.in_err-change.field-0.0 c.args.place.now c.args.name.now
    c.args.reached.keys.items c.in_ok-longer.longer (only keys g.W.World.answers)
    (env_of c.args.evaluation.now) (env_of c.change.new.evaluation)
    (meter_of g.W.World c.args.evaluation.now) (meter_of g.W.World c.change.new.evaluation) in
    grind (arith, list, longer, changed, stops)

pub returns-then-is_fixed_self-clause-gives : goal.returns-then-is_fixed_self-clause-gives
returns-then-is_fixed_self-clause-gives g c = λ keys. let list = c.as_list.ensures keys in
    grind (arith, list)

pub returns-clause-gives : goal.returns-clause-gives
returns-clause-gives g c = λ keys.
    let list = c.as_list.ensures keys in
    let longer = c.extend.ensures keys in
    let changed = c.change.ensures.gives keys in
    grind (arith, list, longer, changed)
