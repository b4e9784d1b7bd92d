use Rattle.std.proofs.Common.{arith}
use Rattle.questions.specs.Told.{only}
use Rattle.dml_world.specs.Evaluations.{env_of, meter_of}
use Rattle.dml_leaves.proofs.Stopping.{change_stops, steps_stop}
use Rattle.dml_leaves.proofs.Whole.{whole_set, whole_stops}
use Rattle.dml_leaves.proofs.names.set_value.Goals as goal

pub returns-in_err-set_whole-clause-gives : goal.returns-in_err-set_whole-clause-gives
returns-in_err-set_whole-clause-gives g c = λ keys.
    let stops = whole_stops c.in_err-set_whole.field-0.0 c.args.place.now c.args.name.now
    c.args.keys.now c.args.value (only keys g.W.World.answers) (env_of c.args.evaluation.now)
    (env_of c.set_whole.new.evaluation) (meter_of g.W.World c.args.evaluation.now)
    (meter_of g.W.World c.set_whole.new.evaluation) c.in-empty.len_below in
    grind (arith, stops)

pub returns-in-empty-clause-gives : goal.returns-in-empty-clause-gives
returns-in-empty-clause-gives g c = λ keys.
    let here = c.in_ok-set_whole.ensures.gives keys in
    let set = whole_set c.args.place.now c.args.name.now c.args.keys.now c.args.value
    (only keys g.W.World.answers) (env_of c.args.evaluation.now) (env_of c.set_whole.new.evaluation)
    (meter_of g.W.World c.args.evaluation.now) (meter_of g.W.World c.set_whole.new.evaluation)
    c.in-empty.len_below in
    (here.0, λ told. set (here.1 told))

pub returns-in_err-take_steps-clause-gives : goal.returns-in_err-take_steps-clause-gives
returns-in_err-take_steps-clause-gives g c = λ keys.
    let stops = steps_stop c.in_err-take_steps.field-0.0 c.args.place.now c.args.name.now
    c.args.keys.now c.args.value (only keys g.W.World.answers) (env_of c.args.evaluation.now)
    (env_of c.take_steps.new.evaluation) (meter_of g.W.World c.args.evaluation.now)
    (meter_of g.W.World c.take_steps.new.evaluation) in
    grind (arith, stops)

pub returns-in_err-change-clause-gives : goal.returns-in_err-change-clause-gives
returns-in_err-change-clause-gives g c = λ keys.
    let stops = change_stops c.in_err-change.field-0.0 c.args.place.now c.args.name.now
    c.args.keys.now c.args.value (only keys g.W.World.answers) (env_of c.take_steps.new.evaluation)
    (env_of c.change.new.evaluation) (meter_of g.W.World c.take_steps.new.evaluation)
    (meter_of g.W.World c.change.new.evaluation) in
    grind (arith, stops)
