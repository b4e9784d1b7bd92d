use Rattle.std.proofs.Common.{◌≡◌}
use Rattle.questions.specs.Told.{ToldEnough}
use Rattle.dml_meaning.specs.Meaning.{steps}
use Rattle.dml_world.specs.Evaluations.{KeepsLoans, env_of, meter_of, total}
use Rattle.dml_world.proofs.leaf.take_steps.Given as goal

abbrev pub invariant-more : goal.invariant-more
invariant-more g l =
    let before = l.fn.evaluation in
    let now = l.evaluation in
    let M = g.W.World in
    record {
      gives : ToldEnough M.answers (M.asked before.world.now) (M.asked now.world.now)
          (λ told. steps l.more l.place told (env_of now) (meter_of M now)
          ≡ steps l.count l.place told (env_of before) (meter_of M before));
      counted : total now ≡ total before;
      lent : KeepsLoans before now;
    }

abbrev pub decreases-more : goal.decreases-more
decreases-more g l = l.more
