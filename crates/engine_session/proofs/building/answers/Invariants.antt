use Rattle.std.proofs.Common.{◌≡◌, map, take}
use Rattle.engine_turns.specs.States.{pictured}
use Rattle.rebuild.specs.Engines.{objects_of, situation_of}
use Rattle.engine_session.specs.Compiler.{answer_name, answer_of}
use Rattle.engine_session.specs.KeptTexts.{AreFaithful, AreTexts}
use Rattle.engine_session.proofs.building.answers.Given as goal

abbrev pub invariant-loop-name : goal.invariant-loop-name
invariant-loop-name g l = record {
  answers : AreFaithful g.R.Runner.meaning l.works l.fn.texts → l.made.items
      ≡ map (answer_of (g.R.Runner.meaning l.works.engine.core.dirs l.works.engine.core.limits)
      l.works.engine.core.dirs (pictured l.works.engine.core.files.items)
      (objects_of l.works.engine.core)) (take l.name-index l.name-items);
  names : map answer_name l.made.items ≡ take l.name-index l.name-items;
  texts : AreFaithful g.R.Runner.meaning l.works l.fn.texts
      → AreTexts (situation_of l.works.engine.core) l.texts;
}
