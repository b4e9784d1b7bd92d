use Rattle.std.proofs.Common.{◌≡◌, length}
use Rattle.questions.specs.Told.{ToldEnough}
use Rattle.dml_meaning.specs.Structures.{set_keys}
use Rattle.dml_world.specs.Evaluations.{env_of, meter_of}
use Rattle.dml_leaves.proofs.making.set_keys.Given as goal

abbrev pub invariant-pairs : goal.invariant-pairs
invariant-pairs g l =
    let M = g.W.World in
    let asked = M.asked l.evaluation.world.now in
    ToldEnough M.answers asked asked (λ told. set_keys l.place l.rest l.made told
    (env_of l.evaluation) (meter_of M l.evaluation) ≡ set_keys l.place l.pairs l.fn.made told
    (env_of l.evaluation) (meter_of M l.evaluation))

abbrev pub decreases-pairs : goal.decreases-pairs
decreases-pairs g l = length l.rest
