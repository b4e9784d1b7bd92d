-- A lawful runner's rounds.
use Rattle.runner.specs.Meaning.{Meaning, IsLawful}
use Rattle.engine_laws.proofs.Bounds.{bounded}
use Rattle.engine_laws.proofs.Endless.{has_circles}
use Rattle.engine_laws.proofs.Rounding.{changed}
use Rattle.engine_machine.specs.Machine.{runner_of, keeping, judge_of, costs_of}
use Rattle.engine_machine.specs.Pictures.{picture_in}
use Rattle.engine_machine.proofs.Circling.{circle_laws}
use Rattle.engine_machine.proofs.Costs.{are_costs}
use Rattle.engine_machine.proofs.RunnerLaws.{laws_of}
use Rattle.rebuild.specs.Rounds.{AreRounds}

pub are_rounds : {T : Type 0} → (m : Meaning T) → IsLawful m → AreRounds m
are_rounds m lawful = record {
  runs = changed (runner_of m.build) keeping (judge_of m.check);
  steps = bounded (runner_of m.build) keeping (judge_of m.check) (costs_of m);
  costs = are_costs m lawful;
  circles = λ files objects. has_circles (runner_of m.build) (picture_in files objects)
      (laws_of m lawful files objects) (circle_laws m lawful files objects);
}
