use Rattle.std.proofs.Common.{◌≡◌, map, take}
use Rattle.engine_turns.specs.States.{pictured}
use Rattle.rebuild.specs.Engines.{objects_of}
use Rattle.engine_session.specs.Looking.{entry_of}
use Rattle.engine_session.specs.Registers.{seen_in}
use Rattle.engine_session.specs.Standing.{IsFaithful}
use Rattle.engine_session.proofs.impact.register_of.Given as goal

abbrev pub invariant-loop-name : goal.invariant-loop-name
invariant-loop-name g l =
    IsFaithful g.R.Runner.meaning l.works → seen_in l.register
    ≡ seen_in (map (entry_of (g.R.Runner.meaning l.works.engine.core.dirs
    l.works.engine.core.limits) (pictured l.works.engine.core.files.items)
    (objects_of l.works.engine.core)) (take l.name-index l.name-items))
