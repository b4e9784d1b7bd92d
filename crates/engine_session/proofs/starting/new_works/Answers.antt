use Rattle.engine_session.proofs.Moves.{new_kept}
use Rattle.engine_session.proofs.starting.new_works.Goals as goal

pub returns-clause-faithful : goal.returns-clause-faithful
returns-clause-faithful g c = record {
  sound = c.new-engine.ensures.sound;
  kept = new_kept c.new-engine.result.core c.new-engine.ensures.fresh c.new-engine.ensures.files;
}
