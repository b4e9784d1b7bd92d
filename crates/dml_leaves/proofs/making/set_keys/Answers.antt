use Rattle.std.proofs.Common.{arith}
use Rattle.questions.specs.Told.{only}
use Rattle.dml_world.specs.Evaluations.{env_of, meter_of}
use Rattle.dml_leaves.proofs.KeyValues.{pair_stops}
use Rattle.dml_leaves.proofs.making.set_keys.Goals as goal

pub returns-in_err-made : goal.returns-in_err-made
returns-in_err-made g c = λ keys.
    let stops = pair_stops c.in_err-made.field-0.0 c.args.place.now c.pairs.rest.now
    c.in-Some.behind.now c.in-Some.key.now c.in-Some.value.now c.pairs.made
    (only keys g.W.World.answers) (env_of c.args.evaluation.now)
    (meter_of g.W.World c.args.evaluation.now) in
    grind (arith, stops)
